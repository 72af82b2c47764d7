-- Masks: powers of 2, and the mask bit of a number.
-- Assumes nothing.
use Rattle.std.specs.Prelude.{◌≡◌, List, [], ◌∷◌, ℕ, ◌<◌, ◌*◌, ◌%◌, ◌^◌, ltb, get_or}
use Rattle.std.proofs.Common.{sym, ap, ◌∙◌, one-mul, mod-eq_of_lt, lit<}
use Rattle.std.proofs.Math.Nat.{one-le-pow}
use Rattle.std.proofs.Math.Pow.{pow-lt}
use Rattle.codes.specs.Says.{says}
use Rattle.codes.specs.SaysLaws.{picks, skips, took, refused}
use Rattle.codes.specs.Codes.{number_says}

pub mask-above : {m : ℕ} (n : ℕ) → m ≡ 2 ^ n → 0 < m
mask-above n e = rw e (one-le-pow n 2 (lit< tt))

-- the number was taken: so is its bit, which is that of the case that was found
pub bit-taken : (k n v b : ℕ) → says 0 (v ∷ []) ≡ number_says k n n → b ≡ 2 ^ v → says 0 (b ∷ []) ≡ number_says k n (2 ^ n)
bit-taken k n v b e p =
    let t = took (ltb n k) 0 (n ∷ []) (v ∷ []) e in
    let w : v ≡ n = ap (λ (l : List ℕ). get_or l 0 0) t.1 in
    ap (λ (x : ℕ). says 0 (x ∷ [])) (p ∙ ap (λ (x : ℕ). 2 ^ x) w) ∙ sym (picks _ _ _ t.0)

-- the number was refused: so is its bit
pub bit-refused : (k n : ℕ) → says 1 [] ≡ number_says k n n → says 1 [] ≡ number_says k n (2 ^ n)
bit-refused k n e = sym (skips _ _ _ (refused (ltb n k) 0 (n ∷ []) e))

-- one shift: nothing is shifted out
pub shifted : (n : ℕ) → n < 64 → (1 * 2 ^ n) % 2 ^ 64 ≡ 2 ^ n
shifted n h = ap (λ (x : ℕ). x % 2 ^ 64) (one-mul (2 ^ n)) ∙ mod-eq_of_lt (pow-lt h)
