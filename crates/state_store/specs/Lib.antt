-- definitions
pub mod Types
pub mod Places
pub mod Flat
pub mod Store
pub mod Calls
pub mod Tokens
pub mod Effect
pub mod Steps
pub mod FlatTests
-- theorems
pub mod Holds
-- laws
pub mod HeadLaws
pub mod FlatLaws
pub mod FlatTestLaws
pub mod TableLaws
pub mod OverLaws
pub mod PlaceLaws
pub mod ListedLaws
pub mod EffectLaws
pub mod StoreLaws
pub mod OpenLaws
pub mod NewLaws
pub mod WholeLaws
pub mod RefusedLaws
pub mod FinishLaws
pub mod TokenLaws
pub mod SubmitLaws
pub mod WrittenOnly
