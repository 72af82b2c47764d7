-- The ring as bytes in its owner's storage: the track, then 32 slots, then what a capture (2026-09) and a trace (2026-11) added to the track. 636 bytes.
-- Assumes nothing.
use Rattle.std.specs.Prelude.{Bool, not, ◌&&◌, List, [], ◌∷◌, ◌++◌, ℕ, ◌+◌, leb, eqb, get_or}
use Rattle.layout.specs.Bytes.{num_at}
use Rattle.layout.specs.Layout.{write, read_at}
use Rattle.layout.specs.Rows.{rows_at, rows_bytes}
use Rattle.codes.specs.Says.{pick}
use Rattle.ring_store.specs.Types.{Slot, Track, Ring}

abbrev pub track_size : ℕ
track_size = 96

abbrev pub slot_size : ℕ
slot_size = 16

-- of 32 slots
abbrev pub slots_size : ℕ
slots_size = 512

-- behind the slots, so that none of them moved
abbrev pub side_place : ℕ
side_place = 608

abbrev pub side_size : ℕ
side_size = 28

abbrev pub ring_size : ℕ
ring_size = 636

-- descriptors of a submission 8, head 8, tail 8, in flight 8, frames' length 8, period 8, next offset 8, budget 8, turns 8, stream 4, running 4,
-- room of a trace 8, good completions 8
abbrev pub track_row : List ℕ
track_row = 8 ∷ 8 ∷ 8 ∷ 8 ∷ 8 ∷ 8 ∷ 8 ∷ 8 ∷ 8 ∷ 4 ∷ 4 ∷ 8 ∷ 8 ∷ []

abbrev pub track_values : Track → List ℕ
track_values t = t.descriptors ∷ t.head ∷ t.tail ∷ t.inflight ∷ t.total ∷ t.period ∷ t.next ∷ t.budget ∷ t.turns ∷ t.stream ∷ pick t.running 1 0 ∷ t.room ∷ t.good ∷ []

-- length lent at the start 8, bytes accepted 8, capture 4, length of the trace 8
abbrev pub side_row : List ℕ
side_row = 8 ∷ 8 ∷ 4 ∷ 8 ∷ []

abbrev pub side_values : Track → List ℕ
side_values t = t.lent ∷ t.kept ∷ pick t.capture 1 0 ∷ t.written ∷ []

-- `running` and `capture` are 0 or 1. A store with another number there reads as a ring of no descriptors a submission, which fails the consistency test
abbrev pub whole_of : ℕ → ℕ → Bool
whole_of running capture = leb running 1 && leb capture 1

abbrev pub track_of : List ℕ → List ℕ → Track
track_of vs ws =
    record {
      descriptors = pick (whole_of (get_or vs 10 0) (get_or ws 2 0)) (get_or vs 0 0) 0;
      head = get_or vs 1 0;
      tail = get_or vs 2 0;
      inflight = get_or vs 3 0;
      total = get_or vs 4 0;
      period = get_or vs 5 0;
      next = get_or vs 6 0;
      budget = get_or vs 7 0;
      turns = get_or vs 8 0;
      stream = get_or vs 9 0;
      running = not (eqb (get_or vs 10 0) 0);
      capture = not (eqb (get_or ws 2 0) 0);
      lent = get_or ws 0 0;
      kept = get_or ws 1 0;
      room = get_or vs 11 0;
      written = get_or ws 3 0;
      good = get_or vs 12 0;
    }

unfoldable pub track_at : List ℕ → Track
track_at s = track_of (read_at 0 track_row s) (read_at side_place side_row s)

-- offset 8, length 8
abbrev pub slot_row : List ℕ
slot_row = 8 ∷ 8 ∷ []

abbrev pub slot_bytes : Slot → List ℕ
slot_bytes x = write slot_row (x.offset ∷ x.len ∷ [])

unfoldable pub slot_at : ℕ → List ℕ → Slot
slot_at o s = record { offset = num_at o 8 s; len = num_at (o + 8) 8 s }

-- THE RING that a store holds, and the bytes of a ring
unfoldable pub ring_of : List ℕ → Ring
ring_of s = record { track = track_at s; slots = rows_at slot_at slot_size track_size 32 s }

abbrev pub track_bytes : Track → List ℕ
track_bytes t = write track_row (track_values t)

abbrev pub side_bytes : Track → List ℕ
side_bytes t = write side_row (side_values t)

unfoldable pub ring_bytes : Ring → List ℕ
ring_bytes r = track_bytes r.track ++ (rows_bytes slot_bytes r.slots ++ side_bytes r.track)
