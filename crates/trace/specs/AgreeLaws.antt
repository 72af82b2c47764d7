-- How many bytes two numbers have in common, by their bytes; and two submissions, by their numbers.
-- Assumes nothing.
use Rattle.std.specs.Prelude.{List, [], ◌∷◌, ◌++◌, ◌≡◌, eqb}
use Rattle.std.proofs.Common.{sym, ◌∙◌, eq-eqb, ne_eqb}
use Rattle.std.proofs.Math.Path.{ap}
use Prim.Native.Nat.{ℕ, suc, ◌+◌, ◌/◌, ◌%◌, ◌<◌}
use native.Mathlib.Omega.{arith}
use Rattle.layout.specs.Bytes.{le, un}
use Rattle.layout.specs.BytesLaws.{un-le}
use Rattle.codes.specs.Says.{guard}
use Rattle.codes.specs.SaysLaws.{picks, skips}
use Rattle.trace.specs.Field.{bytes_of}
use Rattle.trace.specs.Judge.{agree}
use Rattle.trace.specs.declared.field.Field.TheVariants as field

-- one byte more agrees, or the count stops
pub goes : (x y : ℕ) (xs ys : List ℕ) (n : ℕ) → x ≡ y → n ≡ agree xs ys → suc n ≡ agree (x ∷ xs) (y ∷ ys)
unfolding guard
goes x y xs ys n e q = ap suc q ∙ sym (picks (eqb x y) (suc (agree xs ys)) 0 (eq-eqb x y e))

pub ends : (x y : ℕ) (xs ys : List ℕ) → (x ≡ y → ⊥) → 0 ≡ agree (x ∷ xs) (y ∷ ys)
unfolding guard
ends x y xs ys ne = sym (skips (eqb x y) (suc (agree xs ys)) 0 (ne_eqb x y ne))

-- the four bytes of two numbers, and what stands behind them
module _ (a b : ℕ) (xs ys : List ℕ) where
  pub four0 : (a % 256 ≡ b % 256 → ⊥) → 0 ≡ agree (le 4 a ++ xs) (le 4 b ++ ys)
  unfolding le
  four0 n = ends (a % 256) (b % 256) (le 3 (a / 256) ++ xs) (le 3 (b / 256) ++ ys) n

  pub four1 : a % 256 ≡ b % 256 → (a / 256 % 256 ≡ b / 256 % 256 → ⊥) → 1 ≡ agree (le 4 a ++ xs) (le 4 b ++ ys)
  unfolding le
  four1 p n = goes (a % 256) (b % 256) (le 3 (a / 256) ++ xs) (le 3 (b / 256) ++ ys) 0 p (ends (a / 256 % 256) (b / 256 % 256) (le 2 (a / 256 / 256) ++ xs) (le 2 (b / 256 / 256) ++ ys) n)

  pub four2 : a % 256 ≡ b % 256 → a / 256 % 256 ≡ b / 256 % 256 → (a / 256 / 256 % 256 ≡ b / 256 / 256 % 256 → ⊥) → 2 ≡ agree (le 4 a ++ xs) (le 4 b ++ ys)
  unfolding le
  four2 p q n = goes (a % 256) (b % 256) (le 3 (a / 256) ++ xs) (le 3 (b / 256) ++ ys) 1 p (goes (a / 256 % 256) (b / 256 % 256) (le 2 (a / 256 / 256) ++ xs) (le 2 (b / 256 / 256) ++ ys) 0 q (ends (a / 256 / 256 % 256) (b / 256 / 256 % 256) (le 1 (a / 256 / 256 / 256) ++ xs) (le 1 (b / 256 / 256 / 256) ++ ys) n))

  pub four3 : a % 256 ≡ b % 256 → a / 256 % 256 ≡ b / 256 % 256 → a / 256 / 256 % 256 ≡ b / 256 / 256 % 256 → (a / 256 / 256 / 256 % 256 ≡ b / 256 / 256 / 256 % 256 → ⊥) → 3 ≡ agree (le 4 a ++ xs) (le 4 b ++ ys)
  unfolding le
  four3 p q r n = goes (a % 256) (b % 256) (le 3 (a / 256) ++ xs) (le 3 (b / 256) ++ ys) 2 p (goes (a / 256 % 256) (b / 256 % 256) (le 2 (a / 256 / 256) ++ xs) (le 2 (b / 256 / 256) ++ ys) 1 q (goes (a / 256 / 256 % 256) (b / 256 / 256 % 256) (le 1 (a / 256 / 256 / 256) ++ xs) (le 1 (b / 256 / 256 / 256) ++ ys) 0 r (ends (a / 256 / 256 / 256 % 256) (b / 256 / 256 / 256 % 256) (le 0 (a / 256 / 256 / 256 / 256) ++ xs) (le 0 (b / 256 / 256 / 256 / 256) ++ ys) n)))

  pub four4 : (n : ℕ) → a ≡ b → n ≡ agree xs ys → suc (suc (suc (suc n))) ≡ agree (le 4 a ++ xs) (le 4 b ++ ys)
  unfolding le
  four4 n e q = goes (a % 256) (b % 256) (le 3 (a / 256) ++ xs) (le 3 (b / 256) ++ ys) (suc (suc (suc n))) (ap (λ (z : ℕ). z % 256) e) (goes (a / 256 % 256) (b / 256 % 256) (le 2 (a / 256 / 256) ++ xs) (le 2 (b / 256 / 256) ++ ys) (suc (suc n)) (ap (λ (z : ℕ). z / 256 % 256) e) (goes (a / 256 / 256 % 256) (b / 256 / 256 % 256) (le 1 (a / 256 / 256 / 256) ++ xs) (le 1 (b / 256 / 256 / 256) ++ ys) (suc n) (ap (λ (z : ℕ). z / 256 / 256 % 256) e) (goes (a / 256 / 256 / 256 % 256) (b / 256 / 256 / 256 % 256) (le 0 (a / 256 / 256 / 256 / 256) ++ xs) (le 0 (b / 256 / 256 / 256 / 256) ++ ys) n (ap (λ (z : ℕ). z / 256 / 256 / 256 % 256) e) (q))))

-- two numbers of 4 bytes that agree in all but the last byte differ in it, if they differ
pub last-differs : (a b : ℕ) → a < 4294967296 → b < 4294967296 → (a ≡ b → ⊥) → a % 256 ≡ b % 256 → a / 256 % 256 ≡ b / 256 % 256 → a / 256 / 256 % 256 ≡ b / 256 / 256 % 256
    → a / 256 / 256 / 256 % 256 ≡ b / 256 / 256 / 256 % 256 → ⊥
unfolding le
last-differs a b p q ne e₀ e₁ e₂ e₃ = ne (sym (un-le 4 a p) ∙ ap un (λ i. e₀ i ∷ e₁ i ∷ e₂ i ∷ e₃ i ∷ []) ∙ un-le 4 b q)

-- two submissions: tag and length agree; then the slot, the offset, the length
module _ (s o l h n p : ℕ) where
  abbrev pub first : List ℕ
  first = bytes_of (field.Submitted s o l)

  abbrev pub second : List ℕ
  second = bytes_of (field.Submitted h n p)

  pub other-slot : s < 256 → h < 256 → (s ≡ h → ⊥) → 3 ≡ agree first second
  unfolding le guard
  other-slot a b ne = ap (λ (k : ℕ). suc (suc (suc k))) (ends (s % 256) (h % 256) (le 4 o ++ (le 4 l ++ [])) (le 4 n ++ (le 4 p ++ [])) (λ e. ne (omega arith)))

  pub other_offset : (k : ℕ) → s ≡ h → k ≡ agree (le 4 o ++ (le 4 l ++ [])) (le 4 n ++ (le 4 p ++ [])) → 4 + k ≡ agree first second
  unfolding le guard
  other_offset k e q = four-on k ∙ ap (λ (z : ℕ). suc (suc (suc z))) (goes (s % 256) (h % 256) (le 4 o ++ (le 4 l ++ [])) (le 4 n ++ (le 4 p ++ [])) k (ap (λ (z : ℕ). z % 256) e) q)
    where
      four-on : (k : ℕ) → 4 + k ≡ suc (suc (suc (suc k)))
      four-on k = omega arith
