-- definitions
pub mod Types
pub mod Talk
pub mod Play
-- theorems
pub mod Examples
pub mod Meets
pub mod Session
-- laws
pub mod TalkLaws
pub mod SetUpLaws
pub mod SetUpEndLaws
pub mod SentLaws
pub mod PlayLaws
pub mod PlayedLaws
