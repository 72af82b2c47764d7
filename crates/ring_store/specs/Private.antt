-- What the private functions promise, where the public definitions have no name for it: the steps between them.
-- Assumes nothing.
use Rattle.std.specs.Prelude.{List, ℕ, ◌+◌, ◌*◌, ltb, leb, length, replicate, Some, None}
use Rattle.std.proofs.lemmas.List.Edits.{sets}
use Rattle.layout.specs.Rows.{rows_bytes}
use Rattle.layout.specs.Lent.{Made, made}
use Rattle.codes.specs.Says.{pick, guard}
use Rattle.turns.specs.Ring.{blank_slot, said_word, is_refused}
use Rattle.ring_store.specs.Types.{Slot, Track, Sent, Step}
use Rattle.ring_store.specs.Store.{track_size, slot_size, side_place, ring_size, slot_bytes, track_bytes, side_bytes, ring_bytes}

-- a track at its two places
abbrev pub track_over : List ℕ → Track → List ℕ
track_over s t = sets (sets s 0 (track_bytes t)) side_place (side_bytes t)

-- a slot at its place; there are 32
abbrev pub slot_over : List ℕ → ℕ → Slot → List ℕ
slot_over s slot x = pick (ltb slot 32) (sets s (track_size + slot * slot_size) (slot_bytes x)) s

abbrev pub sent_over : List ℕ → Sent → List ℕ
sent_over s None = s
sent_over s (Some p) = slot_over s p.slot (record { offset = p.offset; len = p.len })

abbrev pub blank_over : List ℕ → List ℕ
blank_over s = sets s track_size (rows_bytes slot_bytes (replicate 32 blank_slot))

-- a ring of that track whose slots are all blank
abbrev pub blank_in : List ℕ → Track → Made
blank_in s t =
    guard (leb ring_size (length s)) (made 10 s)
    (made 0 (sets s 0 (ring_bytes (record { track = t; slots = replicate 32 blank_slot }))))

-- what a step leaves of a store, and its answer
abbrev pub step_over : List ℕ → Step → Made
step_over s x = made (said_word x.said) (pick (is_refused x.said) s (sent_over (track_over s x.track) x.sent))
