-- The types of the code, and their cases, as definitions and laws name them.
-- Assumes nothing.
pub use Rattle.codes.specs.declared.answers.Cause.TheVariants.{Status}
pub use Rattle.codes.specs.declared.answers.Refusal.{Refusal}
pub use Rattle.codes.specs.declared.answers.Refusal.TheVariants.{InvalidParam, IoError, WrongToken, BadLength, Full, NotYet}
pub use Rattle.pending.specs.declared.table.Token.{Token}
pub use Rattle.pending.specs.declared.table.Pending.{Pending}
pub use Rattle.pending.specs.declared.table.Seen.{Seen}
pub use Rattle.pending.specs.declared.calls.Told.{Told}
pub use Rattle.pending.specs.declared.calls.Judged.{Judged}
