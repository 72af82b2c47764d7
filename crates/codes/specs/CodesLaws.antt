-- What the last arm of a `match` on a number knows: the number is none of the keys before it. One law for a run of numbers, one for any list of codes.
-- Assumes nothing.
use Rattle.std.specs.Prelude.{◌≡◌, refl, Bool, true, false, List, [], ◌∷◌, ℕ, zero, suc, ◌≤◌}
use Rattle.std.proofs.Common.{sym, ap, ◌∙◌, zero-le, le-ltb, ne_eqb}
use Rattle.std.proofs.Math.Arith.{lt_of_le-ne}
use Rattle.codes.specs.Says.{says, pick}
use Rattle.codes.specs.SaysLaws.{skips}
use Rattle.codes.specs.Codes.{number_says, among, code_says}

-- n is none of 0, 1, .., k − 1
abbrev pub Misses : ℕ → ℕ → Type 0
Misses zero n = Unit {0}
Misses (suc k) n = Misses k n × (n ≡ k → ⊥)

misses : (k n : ℕ) → Misses k n → k ≤ n
misses zero n m = zero-le
misses (suc k) n m = lt_of_le-ne (misses k n m.0) (λ e. m.1 (sym e))

pub number-refused : (k n v : ℕ) → Misses k n → number_says k n v ≡ says 1 []
number-refused k n v m = skips _ _ _ (le-ltb n k (misses k n m))

-- n is none of the codes, in the order of the keys
abbrev pub MissesOf : Type 0 → ℕ → List ℕ → Type 0
MissesOf X n [] = X
MissesOf X n (c ∷ cs) = MissesOf (X × (n ≡ c → ⊥)) n cs

not-among : (X : Type 0) (n : ℕ) (cs : List ℕ) → MissesOf X n cs → X × (among n cs ≡ false)
not-among X n [] m = (m, refl)
not-among X n (c ∷ cs) m =
    let r = not-among (X × (n ≡ c → ⊥)) n cs m in
    (r.0.0, ap (λ (t : Bool). pick t true (among n cs)) (ne_eqb n c r.0.1) ∙ r.1)

pub no_code : (cs : List ℕ) (n : ℕ) → MissesOf (Unit {0}) n cs → among n cs ≡ false
no_code cs n m = (not-among (Unit {0}) n cs m).1

pub code-refused : (cs : List ℕ) (refusal n : ℕ) → MissesOf (Unit {0}) n cs → code_says cs refusal n ≡ says refusal []
code-refused cs refusal n m = skips _ _ _ (no_code cs n m)
