-- Numbers in bytes. "All numbers are little-endian."
-- Assumes nothing.
use Rattle.std.specs.Prelude.{ℕ, zero, suc, ◌+◌, ◌*◌, ◌/◌, ◌%◌, ◌<◌, List, [], ◌∷◌, get_or, replicate}

-- the w bytes of v, the least first; what does not fit in them is cut off
unfoldable pub le : ℕ → ℕ → List ℕ
le zero v = []
le (suc w) v = v % 256 ∷ le w (v / 256)

-- the number that bytes stand for
unfoldable pub un : List ℕ → ℕ
un [] = 0
un (b ∷ bs) = un bs * 256 + b

-- the n bytes of s from place o on; a byte past the end counts as 0
unfoldable pub bytes_at : ℕ → ℕ → List ℕ → List ℕ
bytes_at o zero s = []
bytes_at o (suc n) s = get_or s o 0 ∷ bytes_at (suc o) n s

-- the number in the w bytes of s from place o on
unfoldable pub num_at : ℕ → ℕ → List ℕ → ℕ
num_at o w s = un (bytes_at o w s)

-- each element is a byte: what a slice of u8 is
abbrev pub Bytes : List ℕ → Type 0
Bytes s = (k : ℕ) → get_or s k 0 < 256

-- n bytes of 0
unfoldable pub zeros : ℕ → List ℕ
zeros n = replicate n 0
