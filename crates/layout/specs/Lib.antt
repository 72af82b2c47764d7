-- definitions
pub mod Bytes
pub mod Layout
pub mod Rows
pub mod Table
pub mod All
pub mod Lent
-- laws
pub mod BytesLaws
pub mod StoreLaws
pub mod LayoutLaws
pub mod ChainLaws
pub mod AllLaws
pub mod RowsLaws
pub mod TableLaws
pub mod WrittenLaws
