-- definitions
pub mod Types
pub mod Store
pub mod Calls
pub mod Private
-- theorems
pub mod Holds
-- laws
pub mod TableLaws
pub mod StoreLaws
pub mod RoundLaws
pub mod AnswerLaws
pub mod ControlLaws
pub mod TransferLaws
pub mod ReadsLaws
pub mod NewLaws
