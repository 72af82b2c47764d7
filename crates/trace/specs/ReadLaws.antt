-- From facts to what is found: each return of the field reader is one of these.
-- Assumes nothing.
use Rattle.std.specs.Prelude.{Bool, true, false, ◌&&◌, List, ◌≡◌, refl, ℕ, zero, suc, ◌+◌, ◌-◌, ◌≤◌, ◌<◌, leb, eqb, length, Option, Some, None}
use Rattle.std.proofs.lemmas.Bool.{false≢true, lt-leb}
use Rattle.std.proofs.Common.{sym, ap, ◌∙◌, arith, le-leb, leb-true, leb-false, eq-eqb, ne_eqb}
use Rattle.layout.specs.Bytes.{num_at}
use Rattle.codes.specs.Says.{guard}
use Rattle.codes.specs.SaysLaws.{passes, stops}
use Rattle.trace.specs.Fields.{sized, tagged_at, field_at}
use Rattle.trace.specs.Types.{Field}

pub other_length : (told n o : ℕ) (s : List ℕ) → told ≡ num_at (o + 1) 2 s → (told ≡ n → ⊥) → false ≡ (eqb (num_at (o + 1) 2 s) n && leb (o + (3 + n)) (length s))
other_length told n o s e ne = rw (← e, ne_eqb told n ne)

pub that-length : (told n o : ℕ) (s : List ℕ) (r : Bool) → told ≡ num_at (o + 1) 2 s → told ≡ n → r ≡ leb (3 + n) (length s - o) → o + 3 ≤ length s → r ≡ (eqb (num_at (o + 1) 2 s) n && leb (o + (3 + n)) (length s))
that-length told n o s r e q p h = p ∙ same (leb (3 + n) (length s - o)) refl ∙ rw (← e, eq-eqb told n q)
  where
    same : (b : Bool) → leb (3 + n) (length s - o) ≡ b → b ≡ leb (o + (3 + n)) (length s)
    same true t = let a : 3 + n ≤ length s - o = leb-true _ _ t in let k : o + (3 + n) ≤ length s = omega arith in sym (le-leb _ _ k)
    same false t = let a : length s - o < 3 + n = leb-false _ _ t in let k : length s < o + (3 + n) = omega arith in sym (lt-leb _ _ k)

split-true : (a b : Bool) → (a && b) ≡ true → (a ≡ true) × (b ≡ true)
split-true true b e = (refl, e)
split-true false b e = absurd (false≢true e)

pub sized-not : (n o : ℕ) (s : List ℕ) (f : Field) → (eqb (num_at (o + 1) 2 s) n && leb (o + (3 + n)) (length s)) ≡ false → None ≡ sized n o s f
unfolding guard
sized-not n o s f e = by (eqb (num_at (o + 1) 2 s) n) (leb (o + (3 + n)) (length s)) e
  where
    by : (a b : Bool) → (a && b) ≡ false → None ≡ guard a None (guard b None (Some f))
    by true true q = absurd (false≢true (sym q))
    by true false q = refl
    by false b q = refl

pub sized-is : (n o : ℕ) (s : List ℕ) (g f : Field) → (eqb (num_at (o + 1) 2 s) n && leb (o + (3 + n)) (length s)) ≡ true → g ≡ f → Some g ≡ sized n o s f
sized-is n o s g f e q = let t = split-true (eqb (num_at (o + 1) 2 s) n) (leb (o + (3 + n)) (length s)) e in passes _ _ _ t.0 (passes _ _ _ t.1 (ap Some q))

pub short : (o : ℕ) (s : List ℕ) → length s < o + 3 → None ≡ field_at o s
unfolding field_at
short o s h = stops _ _ _ (lt-leb _ _ h) refl

-- by the tag that was read
pub tagged : (o tag k : ℕ) (s : List ℕ) (r : Option Field) → o + 3 ≤ length s → tag ≡ num_at o 1 s → tag ≡ k → r ≡ tagged_at k o s → r ≡ field_at o s
unfolding field_at
tagged o tag k s r room e q p = passes _ _ _ (le-leb _ _ room) (p ∙ ap (λ (n : ℕ). tagged_at n o s) (sym q ∙ e))

no-tag : (o : ℕ) (s : List ℕ) (k : ℕ) → (k ≡ 0 → ⊥) → (k ≡ 1 → ⊥) → (k ≡ 2 → ⊥) → (k ≡ 3 → ⊥) → None ≡ tagged_at k o s
no-tag o s zero a b c d = absurd (a refl)
no-tag o s (suc zero) a b c d = absurd (b refl)
no-tag o s (suc (suc zero)) a b c d = absurd (c refl)
no-tag o s (suc (suc (suc zero))) a b c d = absurd (d refl)
no-tag o s (suc (suc (suc (suc n)))) a b c d = refl

pub untagged : (o tag : ℕ) (s : List ℕ) → o + 3 ≤ length s → tag ≡ num_at o 1 s → (tag ≡ 0 → ⊥) → (tag ≡ 1 → ⊥) → (tag ≡ 2 → ⊥) → (tag ≡ 3 → ⊥) → None ≡ field_at o s
untagged o tag s room e a b c d = tagged o tag tag s None room e refl (no-tag o s tag a b c d)
