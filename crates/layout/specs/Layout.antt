-- A record is a list of widths: its fields, one after the other, each a number of that many bytes.
-- Assumes nothing.
use Rattle.std.specs.Prelude.{ℕ, ◌+◌, ◌<◌, ◌^◌, List, [], ◌∷◌, ◌++◌}
use Rattle.layout.specs.Bytes.{le, num_at}

-- the bytes that a record takes
abbrev pub size : List ℕ → ℕ
size [] = 0
size (w ∷ ws) = w + size ws

-- a record's bytes: each value at its width; a value that is missing is 0
abbrev pub write : List ℕ → List ℕ → List ℕ
write [] vs = []
write (w ∷ ws) [] = le w 0 ++ write ws []
write (w ∷ ws) (v ∷ vs) = le w v ++ write ws vs

-- a record's values, read in s from place o on
abbrev pub read_at : ℕ → List ℕ → List ℕ → List ℕ
read_at o [] s = []
read_at o (w ∷ ws) s = num_at o w s ∷ read_at (o + w) ws s

abbrev pub read : List ℕ → List ℕ → List ℕ
read ws s = read_at 0 ws s

-- there is a value for each width, and each value fits its width
abbrev pub Fit : List ℕ → List ℕ → Type 0
Fit [] [] = Unit {0}
Fit [] (v ∷ vs) = ⊥
Fit (w ∷ ws) [] = ⊥
Fit (w ∷ ws) (v ∷ vs) = (v < 256 ^ w) × Fit ws vs
