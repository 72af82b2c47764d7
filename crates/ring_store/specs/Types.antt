-- The types of `turns`, and their cases, as definitions and laws name them.
-- Assumes nothing.
pub use Rattle.turns.specs.declared.ring.Slot.{Slot}
pub use Rattle.turns.specs.declared.ring.Track.{Track}
pub use Rattle.turns.specs.declared.ring.Ring.{Ring}
pub use Rattle.turns.specs.Types.{Sent, sent_period}
pub use Rattle.turns.specs.Types.{Heard, freed_slot}
pub use Rattle.turns.specs.declared.ring.Said.{Said}
pub use Rattle.turns.specs.declared.ring.Said.TheVariants.{Going, Done, Ended, Refused}
pub use Rattle.turns.specs.declared.ring.Step.{Step}
pub use Rattle.turns.specs.declared.ring.Turned.{Turned}
pub use Rattle.turns.specs.Types.{Reading, completion}
pub use Rattle.turns.specs.declared.rules.Choice.{Choice}
pub use Rattle.turns.specs.declared.rules.Choice.TheVariants.{Submit, Finish, Wait}
pub use Rattle.turns.specs.Types.{Outcome}
pub use Rattle.turns.specs.declared.rules.Verdict.{Verdict}
pub use Rattle.turns.specs.declared.rules.Verdict.TheVariants.{WrongSlot, Good, Bad}
pub use Rattle.turns.specs.declared.capture.Catch.{Catch}
