-- The types of the code and of `turns`, and their cases, as definitions and laws name them. A field's cases stand beside their use: `Completed` is a reading's too.
-- Assumes nothing.
use Rattle.std.specs.Prelude.{Result}
pub use Rattle.turns.specs.declared.ring.Track.{Track}
pub use Rattle.turns.specs.declared.ring.Ring.{Ring}
pub use Rattle.turns.specs.Types.{Sent, sent_period}
pub use Rattle.turns.specs.Types.{Heard, freed_slot}
pub use Rattle.turns.specs.declared.ring.Said.{Said}
pub use Rattle.turns.specs.declared.ring.Said.TheVariants.{Going, Done, Ended, Refused}
pub use Rattle.turns.specs.declared.ring.Step.{Step}
pub use Rattle.turns.specs.Types.{Reading, completion}
pub use Rattle.turns.specs.declared.rules.Choice.{Choice}
pub use Rattle.turns.specs.declared.rules.Choice.TheVariants.{Submit, Finish, Wait}
pub use Rattle.turns.specs.Types.{Outcome}
pub use Rattle.turns.specs.declared.rules.Verdict.{Verdict}
pub use Rattle.turns.specs.declared.rules.Verdict.TheVariants.{WrongSlot, Good, Bad}
pub use Rattle.trace.specs.declared.field.Field.{Field}
pub use Rattle.trace.specs.declared.field.Stage.{Stage}
pub use Rattle.trace.specs.declared.field.Stage.TheVariants.{Opening, Out, Back, Failed, Over}
pub use Rattle.trace.specs.declared.field.State.{State}
pub use Rattle.trace.specs.declared.field.TraceError.{TraceError}
pub use Rattle.trace.specs.declared.field.TraceError.TheVariants.{BadTrace, NotARun}
pub use Rattle.trace.specs.declared.difference.Difference.{Difference}
pub use Rattle.trace.specs.declared.difference.Difference.TheVariants.{OnlyFirst, OnlySecond, Other}
pub use Rattle.trace.specs.declared.difference.Contents.{Contents}
pub use Rattle.trace.specs.declared.difference.Row.{Row}
pub use Rattle.trace.specs.declared.difference.Gap.{Gap}
pub use Rattle.trace.specs.declared.difference.Gap.TheVariants.{Same, One, Two}
pub use Rattle.trace.specs.declared.difference.CompareError.{CompareError}
pub use Rattle.trace.specs.declared.difference.CompareError.TheVariants.{BadFirst, BadSecond, ListFull}

-- what is said of a trace
abbrev pub Judgement : Type 0
Judgement = Result (Unit {0}) TraceError
