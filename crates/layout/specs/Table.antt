-- A table kept as bytes: n records of a layout from place o on. Its decoded form, and a field of it read by place.
-- Assumes nothing.
use Rattle.std.specs.Prelude.{Bool, true, false, List, [], ◌∷◌, ℕ, zero, suc, ◌+◌, ◌*◌, ltb, get_or}
use Rattle.layout.specs.Bytes.{num_at}
use Rattle.layout.specs.Layout.{size, read_at}
use Rattle.layout.specs.Rows.{rows_at}

-- where field k of a record stands in it; past the last field, where the record ends
abbrev pub offset : List ℕ → ℕ → ℕ
offset [] k = 0
offset (w ∷ ws) zero = 0
offset (w ∷ ws) (suc k) = w + offset ws k

-- THE DECODED FORM: the values of each record
abbrev pub decoded : List ℕ → ℕ → ℕ → List ℕ → List (List ℕ)
decoded ws o n s = rows_at (λ (p : ℕ) (t : List ℕ). read_at p ws t) (size ws) o n s

-- a number within the table; past its end 0
abbrev pub within : Bool → ℕ → ℕ
within true v = v
within false v = 0

-- field k of record i, by place
unfoldable pub field_at : List ℕ → ℕ → ℕ → ℕ → ℕ → List ℕ → ℕ
field_at ws o n i k s = within (ltb i n) (num_at (o + i * size ws + offset ws k) (get_or ws k 0) s)
