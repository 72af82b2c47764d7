-- definitions
pub mod Says
pub mod Codes
pub mod Formats
pub mod Rates
pub mod Flags
pub mod Events
pub mod Requests
pub mod Statuses
pub mod Answers
pub mod Life
pub mod Cause
pub mod Versions
-- laws
pub mod SaysLaws
pub mod CodesLaws
pub mod EventsLaws
pub mod FlagsLaws
pub mod TableLaws
pub mod RatesLaws
pub mod FormatsLaws
pub mod AnswersLaws
pub mod ResultLaws
pub mod StatusesLaws
pub mod RefusalLaws
pub mod LifeLaws
