-- A rule of a table, proved at each of its entries by one test that is computed over the whole table.
-- Assumes nothing.
use Rattle.std.specs.Prelude.{◌≡◌, refl, Bool, true, false, List, [], ◌∷◌, ℕ, zero, suc, ◌+◌, ◌<◌, length, get_or}
use Rattle.std.proofs.Common.{sym, ap, ◌∙◌, add-zero, zero-add, add-suc, suc-add, arith}
use Rattle.codes.specs.Says.{pick}

-- the test passes at each entry and its place, counted from i
abbrev pub every : (ℕ → ℕ → Bool) → ℕ → List ℕ → Bool
every f i [] = true
every f i (x ∷ xs) = pick (f i x) (every f (suc i) xs) false

both : (a b : Bool) → pick a b false ≡ true → (a ≡ true) × (b ≡ true)
both true b e = (refl, e)
both false b e = (e, absurd (no e))
  where
    no : ◌≡◌ {A = Bool} false true → ⊥
    no e = let z : ◌≡◌ {A = ℕ} 0 1 = ap (λ (t : Bool). pick t 1 0) e in omega arith

from : (f : ℕ → ℕ → Bool) (xs : List ℕ) (i : ℕ) → every f i xs ≡ true → (k : ℕ) → k < length xs → f (i + k) (get_or xs k 0) ≡ true
from f [] i t k h = absurd (omega arith)
from f (x ∷ xs) i t zero h = ap (λ (m : ℕ). f m x) (add-zero i) ∙ (both (f i x) (every f (suc i) xs) t).0
from f (x ∷ xs) i t (suc k) h =
    ap (λ (m : ℕ). f m (get_or xs k 0)) (add-suc i k ∙ sym (suc-add i k))
    ∙ from f xs (suc i) (both (f i x) (every f (suc i) xs) t).1 k (omega arith)

pub rule : (f : ℕ → ℕ → Bool) (xs : List ℕ) → every f 0 xs ≡ true → (k : ℕ) → k < length xs → f k (get_or xs k 0) ≡ true
rule f xs t k h = ap (λ (m : ℕ). f m (get_or xs k 0)) (sym (zero-add k)) ∙ from f xs 0 t k h
