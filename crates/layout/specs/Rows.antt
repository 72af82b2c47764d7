-- Rows: records of one size, one after the other, over what reads one and what writes one.
-- Assumes nothing.
use Rattle.std.specs.Prelude.{ℕ, zero, suc, ◌+◌, List, [], ◌∷◌, ◌++◌}

-- n records in s from place o on, each of a size and read by f at its place
unfoldable pub rows_at : {A : Type 0} → (ℕ → List ℕ → A) → ℕ → ℕ → ℕ → List ℕ → List A
rows_at f size o zero s = []
rows_at f size o (suc n) s = f o s ∷ rows_at f size (o + size) n s

-- the bytes of records, each written by g
unfoldable pub rows_bytes : {A : Type 0} → (A → List ℕ) → List A → List ℕ
rows_bytes g [] = []
rows_bytes g (x ∷ xs) = g x ++ rows_bytes g xs
