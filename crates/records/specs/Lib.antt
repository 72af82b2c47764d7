-- definitions
pub mod Slice
pub mod Records
pub mod Positions
pub mod Notice
pub mod Config
-- theorems
pub mod Versions
-- laws
pub mod SliceLaws
pub mod BackLaws
pub mod RoundLaws
pub mod RowLaws
pub mod PositionLaws
pub mod NoticeLaws
pub mod ConfigLaws
