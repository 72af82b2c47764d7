-- The types of the code, and their cases, as definitions and laws name them. Cases that bear one name in two types (`Is`, `InvalidParam`) are not here.
-- Assumes nothing.
use Rattle.std.specs.Prelude.{ℕ, Result, Option, Some}
use Rattle.codes.specs.declared.answers.Refusal.{Refusal}
pub use Rattle.turns.specs.declared.ring.Slot.{Slot}
pub use Rattle.turns.specs.declared.ring.Track.{Track}
pub use Rattle.turns.specs.declared.ring.Ring.{Ring}
pub use Rattle.turns.specs.declared.ring.Period.{Period}
pub use Rattle.turns.specs.declared.ring.Freed.{Freed}
pub use Rattle.turns.specs.declared.ring.Said.{Said}
pub use Rattle.turns.specs.declared.ring.Said.TheVariants.{Going, Done, Ended, Refused}
pub use Rattle.turns.specs.declared.ring.Step.{Step}
pub use Rattle.turns.specs.declared.ring.Turned.{Turned}
pub use Rattle.turns.specs.declared.reading.Completion.{Completion}
pub use Rattle.turns.specs.declared.rules.Choice.{Choice}
pub use Rattle.turns.specs.declared.rules.Choice.TheVariants.{Submit, Finish, Wait}
pub use Rattle.turns.specs.declared.rules.Verdict.{Verdict}
pub use Rattle.turns.specs.declared.rules.Verdict.TheVariants.{WrongSlot, Good, Bad}
pub use Rattle.turns.specs.declared.capture.Catch.{Catch}
pub use Rattle.turns.specs.declared.script.Transferred.{Transferred}
pub use Rattle.turns.specs.declared.in_place.Report.{Report}

-- what a completion of the oldest in flight comes to: nothing more, or the refusal that ends the transfer
abbrev pub Outcome : Type 0
Outcome = Result (Unit {0}) Refusal

-- what the queue says in one turn: the slot that was completed, with its status, or nothing
abbrev pub Reading : Type 0
Reading = Option Completion

abbrev pub completion : ℕ → ℕ → Reading
completion slot status = Some (record { slot = slot; status = status })

-- what a turn heard: the slot that it freed, with its status, or nothing
abbrev pub Heard : Type 0
Heard = Option Freed

abbrev pub freed_slot : ℕ → ℕ → Heard
freed_slot slot status = Some (record { slot = slot; status = status })

-- what a turn submitted: a period, in a slot, or nothing
abbrev pub Sent : Type 0
Sent = Option Period

abbrev pub sent_period : ℕ → ℕ → ℕ → Sent
sent_period slot offset len = Some (record { slot = slot; offset = offset; len = len })
