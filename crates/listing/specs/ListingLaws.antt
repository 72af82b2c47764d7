-- The laws of the listing.
-- Assumes nothing.
use Rattle.std.specs.Prelude.{◌≡◌, refl, Bool, true, false, ◌&&◌, List, [], ◌∷◌, ℕ, ◌-◌, ◌%◌, ◌≤◌, ◌<◌, leb, eqb, length, get_or, Result, Ok, Err}
use Rattle.std.proofs.Common.{sym, ap, subst, ◌∙◌, arith, leb-true, le-leb, eq-eqb, ne_eqb}
use Rattle.std.proofs.lemmas.Bool.{false≢true, lt-leb}
use Rattle.layout.specs.Bytes.{num_at}
use Rattle.codes.specs.SaysLaws.{picks, skips, guarded-by, took}
use Rattle.codes.specs.declared.answers.Refusal.{Refusal}
use Rattle.listing.specs.Listing.{length_ok, Judged, judged, listing_of, refused_line, count_line, stream_line, record_at, line_of, line_at, Gives}
use Rattle.listing.specs.TextLaws.{gives-says}

-- a length that is taken
pub length-fits : (n : ℕ) → length_ok n ≡ true → (4 ≤ n) × (n ≤ 4096)
length-fits n e = by (leb 4 n) (leb n 4096) (eqb ((n - 4) % 32) 0) refl refl e
  where
    by : (a b d : Bool) → leb 4 n ≡ a → leb n 4096 ≡ b → a && (b && d) ≡ true → (4 ≤ n) × (n ≤ 4096)
    by true true d p q e = (leb-true _ _ p, leb-true _ _ q)
    by true false d p q e = absurd (false≢true e)
    by false b d p q e = absurd (false≢true e)

-- no more streams are told than the 127 that a page holds
abbrev few-of : Result ℕ Refusal → Type 0
few-of (Ok m) = m ≤ 127
few-of (Err r) = Unit {0}

pub few : (n m : ℕ) (page : List ℕ) → judged (Ok m) ≡ listing_of n page → m ≤ 127
unfolding listing_of
few n m page e =
    let P : Judged → Type 0 = λ (x : Judged). few-of x.listing in
    subst P (sym e)
    (guarded-by P (length_ok n) _ _
    (λ t. guarded-by P (eqb (num_at 0 4 page) 0x8000) _ _ (λ u. let h = length-fits n t in omega arith) (λ u. tt))
    (λ t. tt))

-- ---- line k, case by case

module _ (n k : ℕ) (page : List ℕ) where
  at : {m : List ℕ} (s : Result ℕ Refusal) → judged s ≡ listing_of n page → m ≡ line_of s page k → m ≡ line_at n page k
  at s e p = p ∙ ap (λ (x : Judged). line_of x.listing page k) e

  pub at-refusal : (r : Refusal) → judged (Err r) ≡ listing_of n page → k ≡ 0 → refused_line r ≡ line_at n page k
  at-refusal r e z = at (Err r) e (sym (picks _ _ _ (eq-eqb k 0 z)))

  pub after-refusal : (r : Refusal) → judged (Err r) ≡ listing_of n page → (k ≡ 0 → ⊥) → [] ≡ line_at n page k
  after-refusal r e z = at (Err r) e (sym (skips _ _ _ (ne_eqb k 0 z)))

  pub at_count : (m : ℕ) → judged (Ok m) ≡ listing_of n page → k ≡ 0 → count_line m ≡ line_at n page k
  at_count m e z = at (Ok m) e (sym (picks _ _ _ (eq-eqb k 0 z)))

  pub at-stream : (m : ℕ) → judged (Ok m) ≡ listing_of n page → (k ≡ 0 → ⊥) → k ≤ m → stream_line (k - 1) (record_at (k - 1) page) ≡ line_at n page k
  at-stream m e z h = at (Ok m) e (sym (skips _ _ _ (ne_eqb k 0 z) ∙ picks _ _ _ (le-leb k m h)))

  pub after-streams : (m : ℕ) → judged (Ok m) ≡ listing_of n page → (k ≡ 0 → ⊥) → m < k → [] ≡ line_at n page k
  after-streams m e z h = at (Ok m) e (sym (skips _ _ _ (ne_eqb k 0 z) ∙ skips _ _ _ (lt-leb k m h)))

-- a line that was given stands whole in the slice
pub line-fits : {n : ℕ} {l before after : List ℕ} → Gives l (Ok n) before after → n ≤ length before
line-fits {n} {l} {before} g =
    let p = took (leb (length l) (length before)) 9 (length l ∷ []) (n ∷ []) (gives-says g) in
    let h : length l ≤ length before = leb-true _ _ p.0 in
    let k : n ≡ length l = ap (λ (x : List ℕ). get_or x 0 0) p.1 in
    omega arith
