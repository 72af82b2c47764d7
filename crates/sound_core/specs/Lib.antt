-- definitions
pub mod Types
pub mod State
pub mod Consistent
pub mod Plan
pub mod Reply
pub mod Gate
-- laws
pub mod ReplyLaws
pub mod GateLaws
-- theorems
pub mod Unguarded
