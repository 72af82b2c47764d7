-- definitions
pub mod Entries
pub mod Private
-- theorems
pub mod Holds
pub mod Demand
pub mod Versions
-- laws
pub mod EntryLaws
pub mod VersionLaws
