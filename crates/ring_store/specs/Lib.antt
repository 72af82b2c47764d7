-- definitions
pub mod Types
pub mod Store
pub mod Calls
pub mod Private
pub mod Sees
-- theorems
pub mod Holds
pub mod Run
pub mod SeesLog
pub mod Captures
pub mod Traced
-- laws
pub mod StoreLaws
pub mod CallsLaws
pub mod AdmitLaws
pub mod ReadsLaws
pub mod RoundLaws
pub mod KeepLaws
pub mod SeesLaws
