-- "Frames are cut into periods of period_bytes, the last may be shorter; empty frames make none."
-- Assumes nothing.
use Rattle.std.specs.Prelude.{ℕ, zero, suc, ◌-◌, min, List, [], ◌∷◌, ◌++◌, length, take, drop, Some, None}
use Rattle.turns.specs.Types.{Sent}
use Rattle.layout.specs.Bytes.{le}

-- at most fuel periods; each takes at least one byte, so as much fuel as bytes is enough
unfoldable pub cut_by : {A : Type 0} → ℕ → ℕ → List A → List (List A)
cut_by zero period xs = []
cut_by (suc fuel) period [] = []
cut_by (suc fuel) period (x ∷ xs) = take period (x ∷ xs) ∷ cut_by fuel period (drop period (x ∷ xs))

abbrev pub cut : {A : Type 0} → ℕ → List A → List (List A)
cut period frames = cut_by (length frames) period frames

-- parts joined
abbrev pub join : {A : Type 0} → List (List A) → List A
join [] = []
join (x ∷ xs) = x ++ join xs

-- the length of the period at an offset of frames of total bytes
abbrev pub span_of : ℕ → ℕ → ℕ → ℕ
span_of period total offset = min period (total - offset)

-- the part of the frames that a submission shows
abbrev pub payload : {A : Type 0} → List A → Sent → List A
payload frames None = []
payload frames (Some p) = take p.len (drop p.offset frames)

-- what the device gets in a submission: the stream id, 4 bytes little-endian, then the payload
abbrev pub message : ℕ → List ℕ → Sent → List ℕ
message stream frames sent = le 4 stream ++ payload frames sent
