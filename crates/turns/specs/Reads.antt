-- What the reads of a ring say: 0 with their values, or 1 for a ring that fails the consistency test.
-- Assumes nothing.
use Rattle.std.specs.Prelude.{List, [], ◌∷◌, ℕ, ltb, eqb, get_or, Option, Some, None, Result}
use Rattle.codes.specs.Says.{Says, says, pick, guard}
use Rattle.codes.specs.Answers.{says_result}
use Rattle.codes.specs.declared.answers.Refusal.{Refusal}
use Rattle.turns.specs.Ring.{blank_slot, free}
use Rattle.turns.specs.Consistent.{consistent_of}
use Rattle.turns.specs.Types.{Slot, Track, Ring}

abbrev pub says_number : Result ℕ Refusal → Says
says_number = says_result (λ n. n ∷ [])

abbrev pub says_carried : Result Slot Refusal → Says
says_carried = says_result (λ s. s.offset ∷ s.len ∷ [])

-- that nothing is in flight is an answer too: 0, with no value
abbrev pub oldest_values : Option ℕ → List ℕ
oldest_values (Some n) = n ∷ []
oldest_values None = []

abbrev pub says_oldest : Result (Option ℕ) Refusal → Says
says_oldest = says_result oldest_values

abbrev pub read_of : Track → List ℕ → Says
read_of t values = guard (consistent_of t) (says 1 [])
    (says 0 values)

abbrev pub running_of : Track → Says
running_of t = read_of t (pick t.running 1 0 ∷ [])

abbrev pub in_flight_of : Track → Says
in_flight_of t = read_of t (t.inflight ∷ [])

abbrev pub free_of : Track → Says
free_of t = read_of t (free t ∷ [])

abbrev pub turns_of : Track → Says
turns_of t = read_of t (t.turns ∷ [])

abbrev pub stream_of : Track → Says
stream_of t = read_of t (t.stream ∷ [])

-- the bytes of its recording that a capture accepted, that runs or ran last
abbrev pub kept_read : Track → Says
kept_read t = read_of t (t.kept ∷ [])

-- how long the trace is of the transfer that runs or ran last; 0 where it writes none
abbrev pub written_read : Track → Says
written_read t = read_of t (t.written ∷ [])

-- 2026-13: the good completions of the transfer that runs or ran last
abbrev pub accepted_read : Track → Says
accepted_read t = read_of t (t.good ∷ [])

-- a slot of 32 or more gets 1
abbrev pub carried_of : Ring → ℕ → Says
carried_of r slot =
    let s = get_or r.slots slot blank_slot in
    guard (ltb slot 32) (says 1 [])
    (read_of r.track (s.offset ∷ s.len ∷ []))

abbrev pub oldest_of : Track → Says
oldest_of t = read_of t (pick (eqb t.inflight 0) [] (t.tail ∷ []))
