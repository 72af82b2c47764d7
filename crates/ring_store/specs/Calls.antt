-- The calls on a ring that stands in a lent byte store: the call by value on the ring that the store holds, and the ring that it leaves, written
-- over it. A store or a result slice that is too short gets 10. A refusal leaves every byte as it was.
-- Assumes nothing.
use Rattle.std.specs.Prelude.{Bool, ◌&&◌, List, [], ◌∷◌, ℕ, leb, eqb, length, Result, Ok, Err, Some, None}
use Rattle.std.proofs.lemmas.List.Edits.{sets}
use Rattle.layout.specs.Bytes.{le}
use Rattle.layout.specs.Rows.{rows_bytes}
use Rattle.layout.specs.Lent.{Made, made, Shown, shown, result_size}
use Rattle.codes.specs.Says.{Says, says, pick, guard}
use Rattle.codes.specs.Answers.{refusal_word}
use Rattle.codes.specs.declared.answers.Refusal.{Refusal}
use Rattle.turns.specs.Ring.{new_ring, said_word, is_refused}
use Rattle.turns.specs.Reads.{read_of}
use Rattle.turns.specs.Calls.{start_call, start_traced, started_of, turned_of, offer_call, says_sent}
use Rattle.turns.specs.Capture.{catch_of, capture_call, recording_after, capture_start, capture_offer}
use Rattle.turns.specs.InPlace.{turn_words, drain_words}
use Rattle.turns.specs.Script.{reading_of}
use Rattle.trace.specs.Writer.{writing_call, room_after}
use Rattle.ring_store.specs.Types.{Track, Turned, Sent, Step}
use Rattle.ring_store.specs.Store.{ring_size, track_at, ring_of, ring_bytes}

-- ---- calls that change the ring

abbrev pub left_by : List ℕ → Turned → Made
left_by s t = made (said_word t.said) (pick (is_refused t.said) s (sets s 0 (ring_bytes t.ring)))

abbrev pub changed : List ℕ → Turned → Made
changed s t =
    guard (leb ring_size (length s)) (made 10 s)
    (left_by s t)

-- a new ring, with some descriptors to a submission
abbrev pub new_in : ℕ → List ℕ → Made
new_in descriptors s =
    guard (leb ring_size (length s)) (made 10 s)
    (made 0 (sets s 0 (ring_bytes (new_ring descriptors))))

unfoldable pub turn_in : List ℕ → ℕ → ℕ → ℕ → ℕ → Made
turn_in s len kind slot status = changed s (turn_words (ring_of s) len kind slot status)

unfoldable pub drain_in : List ℕ → ℕ → ℕ → ℕ → Made
drain_in s kind slot status = changed s (drain_words (ring_of s) kind slot status)

unfoldable pub start_in : List ℕ → ℕ → ℕ → ℕ → ℕ → Made
start_in s stream len period budget = changed s (started_of (ring_of s) (start_call (track_at s) stream len period budget))

-- ---- turns that change something lent besides: the recording of a capture (2026-09), or the room of a trace (2026-11)

-- what a turn answers, and what it leaves of the ring's store and of the recording, or of the room of a trace
pub record Caught : Type 0 where
  pub answer : ℕ
  pub ring : List ℕ
  pub lent : List ℕ

abbrev pub caught : ℕ → List ℕ → List ℕ → Caught
caught answer ring lent = record { answer = answer; ring = ring; lent = lent }

abbrev pub caught_by : Made → List ℕ → Caught
caught_by l lent = caught l.answer l.store lent

-- by the step that it is, and what is then in `lent`
abbrev pub caught_in : List ℕ → List ℕ → Step → List ℕ → Caught
caught_in s lent x left =
    guard (leb ring_size (length s)) (caught 10 s lent)
    (caught_by (left_by s (turned_of (ring_of s) x)) left)

abbrev pub capture_step : List ℕ → ℕ → ℕ → ℕ → ℕ → List ℕ → Step
capture_step s len kind slot written bytes = capture_call (track_at s) len (catch_of kind slot written bytes)

unfoldable pub capture_in : List ℕ → List ℕ → ℕ → ℕ → ℕ → List ℕ → Caught
capture_in s recording kind slot written bytes = let x = capture_step s (length recording) kind slot written bytes in caught_in s recording x (recording_after (track_at s) x bytes recording)

unfoldable pub capture_start_in : List ℕ → ℕ → ℕ → ℕ → ℕ → ℕ → Made
capture_start_in s stream periods period len budget = changed s (started_of (ring_of s) (capture_start (track_at s) stream periods period len budget))

abbrev pub writing_step : List ℕ → ℕ → ℕ → ℕ → ℕ → ℕ → Step
writing_step s len room kind slot status = writing_call (track_at s) len room (reading_of kind slot status)

unfoldable pub turn_traced_in : List ℕ → ℕ → List ℕ → ℕ → ℕ → ℕ → Caught
turn_traced_in s len room kind slot status = let x = writing_step s len (length room) kind slot status in caught_in s room x (room_after (track_at s) x room)

unfoldable pub start_traced_in : List ℕ → ℕ → ℕ → ℕ → ℕ → ℕ → Made
start_traced_in s stream len period budget room = changed s (started_of (ring_of s) (start_traced (track_at s) stream len period budget room))

-- ---- calls that only look: their values stand in the result slice, 8 bytes each

abbrev pub words : List ℕ → List ℕ
words values = rows_bytes (le 8) values

-- both slices are long enough
abbrev pub roomy_in : List ℕ → List ℕ → Bool
roomy_in s r = leb ring_size (length s) && leb result_size (length r)

unfoldable pub told_in : List ℕ → List ℕ → Says → Shown
told_in s r x =
    guard (roomy_in s r) (shown 10 r)
    (shown x.number (sets r 0 (words x.values)))

-- what an offer says here: a refusal by its word
abbrev pub offer_word : (Sent → Says) → Result Sent Refusal → Says
offer_word told (Ok sent) = told sent
offer_word told (Err x) = says (refusal_word x) []

abbrev pub offer_in : List ℕ → ℕ → List ℕ → Shown
offer_in s len r = told_in s r (offer_word says_sent (offer_call (track_at s) len))

-- what a capture submits has no offset: 1, slot and length; or three zeros
abbrev pub says_room : Sent → Says
says_room None = says 0 (0 ∷ 0 ∷ 0 ∷ [])
says_room (Some p) = says 0 (1 ∷ p.slot ∷ p.len ∷ [])

abbrev pub capture_offer_in : List ℕ → ℕ → List ℕ → Shown
capture_offer_in s len r = told_in s r (offer_word says_room (capture_offer (track_at s) len))

-- the oldest in flight: 1 and its slot, or 0 twice
abbrev pub oldest_says : Track → Says
oldest_says t = read_of t (pick (eqb t.inflight 0) (0 ∷ 0 ∷ []) (1 ∷ t.tail ∷ []))
