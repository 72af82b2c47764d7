pub mod Types
-- definitions
pub mod Table
pub mod Places
-- theorems
pub mod Ledger
pub mod Full
pub mod Apart
pub mod Count
-- laws
pub mod TableLaws
pub mod CallLaws
pub mod PlacesLaws
pub mod LowestLaws
