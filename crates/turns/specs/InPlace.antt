-- The calls on a ring that stands in its caller's storage: a reading comes as numbers, and what is told is all but the ring.
-- Assumes nothing.
use Rattle.std.specs.Prelude.{◌≡◌, ℕ}
use Rattle.turns.specs.Calls.{turn_call, drain_call, turned_of}
use Rattle.turns.specs.Script.{reading_of}
use Rattle.turns.specs.Types.{Ring, Turned, Report}

unfoldable pub turn_words : Ring → ℕ → ℕ → ℕ → ℕ → Turned
turn_words r len kind slot status = turned_of r (turn_call r.track len (reading_of kind slot status))

unfoldable pub drain_words : Ring → ℕ → ℕ → ℕ → Turned
drain_words r kind slot status = turned_of r (drain_call r.track (reading_of kind slot status))

abbrev pub report_of : Turned → Report
report_of t = record { sent = t.sent; heard = t.heard; said = t.said; turns = t.turns }

-- what a call in place leaves behind its reference is the ring of the outcome by value, and what it tells is the rest of that outcome
abbrev pub Leaves : Turned → Ring → Report → Type 0
Leaves t ring report = (ring ≡ t.ring) × (report ≡ report_of t)
