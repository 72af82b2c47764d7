-- definitions
pub mod Listing
pub mod Text
-- laws
pub mod TextLaws
pub mod ListingLaws
