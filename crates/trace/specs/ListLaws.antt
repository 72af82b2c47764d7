-- Parts of lists, and the bytes that two of them have in common.
-- Assumes nothing.
use Rattle.std.specs.Prelude.{Bool, true, false, List, [], ◌∷◌, ◌++◌, ◌≡◌, refl, ℕ, zero, suc, ◌+◌, ◌≤◌, ◌<◌, eqb, length, get_or, take}
use Rattle.std.proofs.Common.{ap, ap₂, ◌∙◌, suc-add, zero-add, arith, eqb-true}
use Rattle.std.proofs.lemmas.Bool.{eqb-false}
use Rattle.codes.specs.Says.{guard}
use Rattle.trace.specs.Judge.{agree}

pub take_past : (a b : List ℕ) (k : ℕ) → take (length a + k) (a ++ b) ≡ a ++ take k b
take_past [] b k = ap (λ (n : ℕ). take n b) (zero-add k)
take_past (x ∷ a) b k = ap (λ (n : ℕ). take n (x ∷ (a ++ b))) (suc-add (length a) k) ∙ ap (λ (l : List ℕ). x ∷ l) (take_past a b k)

pub take_in : (a b : List ℕ) (k : ℕ) → k ≤ length a → take k (a ++ b) ≡ take k a
take_in a b zero h = refl
take_in [] b (suc k) h = absurd (omega arith)
take_in (x ∷ a) b (suc k) h = ap (λ (l : List ℕ). x ∷ l) (take_in a b k (omega arith))

pub take_all : (a : List ℕ) → take (length a) a ≡ a
take_all [] = refl
take_all (x ∷ a) = ap (λ (l : List ℕ). x ∷ l) (take_all a)

pub length-take : (k : ℕ) (a : List ℕ) → k ≤ length a → length (take k a) ≡ k
length-take zero a h = refl
length-take (suc k) [] h = absurd (omega arith)
length-take (suc k) (x ∷ a) h = ap suc (length-take k a (omega arith))

abbrev tail : List ℕ → List ℕ
tail [] = []
tail (x ∷ xs) = xs

pub cancel : (a b c : List ℕ) → a ++ b ≡ a ++ c → b ≡ c
cancel [] b c e = e
cancel (x ∷ a) b c e = cancel a b c (ap tail e)

-- a byte of a list, with another behind it
pub get_d-in : (a b : List ℕ) (k : ℕ) → k < length a → get_or (a ++ b) k 0 ≡ get_or a k 0
get_d-in [] b k h = absurd (omega arith)
get_d-in (x ∷ a) b zero h = refl
get_d-in (x ∷ a) b (suc k) h = get_d-in a b k (omega arith)

pub get_d-took : (a b : List ℕ) (n k : ℕ) → k < n → k < length a → get_or (take n a ++ b) k 0 ≡ get_or a k 0
get_d-took a b zero k h l = absurd (omega arith)
get_d-took [] b (suc n) k h l = absurd (omega arith)
get_d-took (x ∷ a) b (suc n) zero h l = refl
get_d-took (x ∷ a) b (suc n) (suc k) h l = get_d-took a b n k (omega arith) (omega arith)

-- ---- what agrees

pub agree-take : (xs ys : List ℕ) → take (agree xs ys) xs ≡ take (agree xs ys) ys
unfolding guard
agree-take [] ys = none ys
  where
    none : (ys : List ℕ) → [] ≡ take 0 ys
    none [] = refl
    none (y ∷ ys) = refl
agree-take (x ∷ xs) [] = refl
agree-take (x ∷ xs) (y ∷ ys) = by x y xs ys (eqb x y) refl (agree-take xs ys)
  where
    by : (x y : ℕ) (xs ys : List ℕ) (b : Bool) → eqb x y ≡ b → take (agree xs ys) xs ≡ take (agree xs ys) ys → take (guard b 0 (suc (agree xs ys))) (x ∷ xs) ≡ take (guard b 0 (suc (agree xs ys))) (y ∷ ys)
    by x y xs ys true e ih = ap₂ (λ (z : ℕ) (l : List ℕ). z ∷ l) (eqb-true x y e) ih
    by x y xs ys false e ih = refl

-- two lists of one length that are not the same differ in the next byte
pub agree-differs : (xs ys : List ℕ) → length xs ≡ length ys → (xs ≡ ys → ⊥) → (agree xs ys < length xs) × (get_or xs (agree xs ys) 0 ≡ get_or ys (agree xs ys) 0 → ⊥)
unfolding guard
agree-differs [] [] l ne = absurd (ne refl)
agree-differs [] (y ∷ ys) l ne = absurd (omega arith)
agree-differs (x ∷ xs) [] l ne = absurd (omega arith)
agree-differs (x ∷ xs) (y ∷ ys) l ne = by x y xs ys (eqb x y) refl ne (agree-differs xs ys (omega arith))
  where
    by : (x y : ℕ) (xs ys : List ℕ) (b : Bool) → eqb x y ≡ b → ((x ∷ xs) ≡ (y ∷ ys) → ⊥) → ((xs ≡ ys → ⊥) → (agree xs ys < length xs) × (get_or xs (agree xs ys) 0 ≡ get_or ys (agree xs ys) 0 → ⊥))
        → (guard b 0 (suc (agree xs ys)) < length (x ∷ xs)) × (get_or (x ∷ xs) (guard b 0 (suc (agree xs ys))) 0 ≡ get_or (y ∷ ys) (guard b 0 (suc (agree xs ys))) 0 → ⊥)
    by x y xs ys true e ne ih =
        let same = eqb-true x y e in
        let k = ih (λ q. ne (λ i. same i ∷ q i)) in
        (omega (arith, k.0), k.1)
    by x y xs ys false e ne ih = (omega arith, eqb-false x y e)
