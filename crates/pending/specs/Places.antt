-- Where a token's message stands. "It is copied into the lowest free of 16 equal places of a lent store, whose number is its token; no other byte of the store changes."
-- Assumes nothing.
use Rattle.std.specs.Prelude.{List, ◌++◌, ℕ, ◌+◌, ◌*◌, ◌/◌, ltb, leb, eqb, length}
use Rattle.std.proofs.lemmas.List.Edits.{sets}
use Rattle.layout.specs.Bytes.{le}
use Rattle.codes.specs.Says.{guard}
use Rattle.pending.specs.Types.{Refusal, InvalidParam, BadLength, Full}

-- the bytes of each of so many places: rounded down (of no places, 0), so that the last bytes of the store may belong to none
abbrev pub size_of : ℕ → ℕ → ℕ
size_of len places = len / places

-- where a place begins
abbrev pub start_of : ℕ → ℕ → ℕ → ℕ
start_of len places k = k * size_of len places

-- "A submission is stream id and one whole period in one buffer"
abbrev pub message_of : ℕ → List ℕ → List ℕ
message_of stream payload = le 4 stream ++ payload

-- a place that there is not takes nothing
unfoldable pub placed_in : List ℕ → ℕ → ℕ → ℕ → List ℕ → List ℕ
placed_in store places k stream payload = guard (ltb k places) store
    (sets store (start_of (length store) places k) (message_of stream payload))

-- THE PLACE of a payload of n bytes in a store of len bytes, where k is the lowest free one: "1 payload not one period (the Rust panics), 10 place shorter than period plus 4,
-- 15 Full"
abbrev pub spot_by : {A : Type 0} → ℕ → ℕ → ℕ → ℕ → ℕ → (Refusal → A) → (ℕ → A) → A
spot_by places k n len period refuse go =
    guard (eqb n period) (refuse InvalidParam)
    (guard (leb (period + 4) (size_of len places)) (refuse BadLength)
    (guard (ltb k places) (refuse Full)
    (go k)))
