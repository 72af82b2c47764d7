-- definitions
pub mod Tables
-- laws
pub mod TablesLaws
pub mod FillLaws
pub mod WrittenLaws
