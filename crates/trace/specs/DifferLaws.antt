-- 2026-12: "An empty list exactly when the bytes are equal, and applying the list to the first gives the second." Of two traces in bytes, as the code compares them.
-- Assumes nothing.
use Rattle.std.specs.Prelude.{Bool, ℕ, ◌*◌, ◌≤◌, ◌<◌, ltb, Result, Ok, Err}
use Rattle.std.proofs.Math.Bool.{true, false}
use mathlib.Core.List.{List, [], ◌∷◌}
use Rattle.std.proofs.Math.Path.{◌≡◌, refl, sym, ap, ap₂}
use Rattle.std.proofs.Common.{◌∙◌, arith}
use Rattle.std.proofs.Math.Dec.{leb}
use Rattle.std.proofs.Math.ListN.{length}
use borrow.Author.Tests.{leb-true, leb-false, le-leb, lt-leb}
use Rattle.layout.specs.Bytes.{Bytes}
use Rattle.layout.specs.BytesLaws.{bytes_at-all}
use Rattle.codes.specs.Says.{guard}
use Rattle.codes.specs.SaysLaws.{passes, stops}
use Rattle.trace.specs.Field.{trace_bytes, AllFit}
use Rattle.trace.specs.Fields.{scan_from, scan_of}
use Rattle.trace.specs.ScanLaws.{scan-fields}
use Rattle.trace.specs.AcceptLaws.{bad-never}
use Rattle.trace.specs.Compare.{differences_from, applied_from, diffs_of, fields_in}
use Rattle.trace.specs.CompareLaws.{applied, empty-same, same-empty}
use Rattle.trace.specs.Listed.{tallied_by, tallied_of, fitted_by, compared_of}
use Rattle.trace.specs.ListedLaws.{kind_of, count_in, listed_by_lem}
use Rattle.trace.specs.Types.{Judgement, BadTrace, NotARun, CompareError, BadFirst, BadSecond, ListFull, Difference}

well-scans : (s : List ℕ) → scan_of s ≡ Ok tt → scan_from (length s) 0 s ≡ Ok tt
unfolding scan_of guard
well-scans s e = by (ltb 0 (length s)) e
  where
    by : (t : Bool) → guard t (Err (BadTrace 0)) (scan_from (length s) 0 s) ≡ Ok tt → scan_from (length s) 0 s ≡ Ok tt
    by true p = p
    by false p = absurd (bad-never 0 p)

-- a trace is the bytes of its fields, and each fits
pub whole : (s : List ℕ) → Bytes s → scan_of s ≡ Ok tt → (trace_bytes (fields_in s) ≡ s) × AllFit (fields_in s)
whole s b e =
    let n = length s in
    let k = scan-fields n 0 n s b (omega arith) (omega arith) (well-scans s e) in
    (sym k.bytes ∙ bytes_at-all s n refl, k.fit)

module _ (a b : List ℕ) where
  -- AN EMPTY LIST EXACTLY WHEN THE BYTES ARE EQUAL
  pub empty-equal : Bytes a → Bytes b → scan_of a ≡ Ok tt → scan_of b ≡ Ok tt → diffs_of a b ≡ [] → a ≡ b
  unfolding diffs_of
  empty-equal p q wa wb e = sym (whole a p wa).0 ∙ ap trace_bytes (empty-same 0 (fields_in a) (fields_in b) e) ∙ (whole b q wb).0

  pub equal-empty : a ≡ b → diffs_of a b ≡ []
  unfolding diffs_of
  equal-empty e = ap (λ (s : List ℕ). differences_from 0 (fields_in a) (fields_in s)) (sym e) ∙ same-empty 0 (fields_in a)

  -- APPLYING THE LIST TO THE FIRST GIVES THE SECOND
  pub applied-gives : Bytes b → scan_of b ≡ Ok tt → trace_bytes (applied_from 0 (diffs_of a b) (fields_in a)) ≡ b
  unfolding diffs_of
  applied-gives q wb = ap trace_bytes (applied 0 (fields_in a) (fields_in b)) ∙ (whole b q wb).0

  -- ---- what the answers say

  fitted-listed : (n : ℕ) (c : Result ℕ CompareError) (room : ℕ) → fitted_by c room ≡ Ok n → (c ≡ Ok n) × (n * 34 ≤ room)
  unfolding guard
  fitted-listed n (Ok m) room e = by (leb (m * 34) room) refl e
    where
      by : (t : Bool) → leb (m * 34) room ≡ t → guard t (Err ListFull) (Ok m) ≡ Ok n → ◌≡◌ {A = Result ℕ CompareError} (Ok m) (Ok n) × (n * 34 ≤ room)
      by true p q = let h = leb-true (m * 34) room p in let z : m ≡ n = ap count_in q in (q, omega (arith, h, z))
      by false p q = let z : ◌≡◌ {A = ℕ} 3 0 = ap kind_of q in absurd (omega arith)
  fitted-listed n (Err (BadFirst at)) room e = let z : ◌≡◌ {A = ℕ} 1 0 = ap kind_of e in absurd (omega arith)
  fitted-listed n (Err (BadSecond at)) room e = let z : ◌≡◌ {A = ℕ} 2 0 = ap kind_of e in absurd (omega arith)
  fitted-listed n (Err ListFull) room e = let z : ◌≡◌ {A = ℕ} 3 0 = ap kind_of e in absurd (omega arith)

  -- 0: both are traces, the count is the list's, and the room holds it
  pub record Listing (n room : ℕ) : Type 0 where
    pub first : scan_of a ≡ Ok tt
    pub second : scan_of b ≡ Ok tt
    pub count : n ≡ length (diffs_of a b)
    pub fits : n * 34 ≤ room

  pub listed-means : (n room : ℕ) → compared_of a b room ≡ Ok n → Listing n room
  listed-means n room e =
      let f = fitted-listed n (tallied_of a b) room e in
      let k = listed_by_lem n (length (diffs_of a b)) (scan_of a) (scan_of b) (sym f.0) in
      record { first = k.1; second = k.2; count = k.0; fits = f.1 }

  no-differences : (ds : List Difference) → 0 ≡ length ds → ds ≡ []
  no-differences [] e = refl
  no-differences (d ∷ ds) e = absurd (omega arith)

  -- a count of 0 exactly when the bytes are equal
  pub zero-equal : (room : ℕ) → Bytes a → Bytes b → compared_of a b room ≡ Ok 0 → a ≡ b
  zero-equal room p q e = let k = listed-means 0 room e in empty-equal p q k.first k.second (no-differences (diffs_of a b) k.count)

  pub equal-zero : (room : ℕ) → scan_of a ≡ Ok tt → a ≡ b → compared_of a b room ≡ Ok 0
  unfolding guard
  equal-zero room wa e =
      ap₂ (λ (j k : Judgement). fitted_by (tallied_by j k (length (diffs_of a b))) room) wa (ap scan_of (sym e) ∙ wa)
      ∙ ap (λ (n : ℕ). fitted_by (Ok n) room) (ap length (equal-empty e))
      ∙ sym (passes (leb 0 room) (Err ListFull) (Ok 0) (le-leb 0 room (omega arith)) refl)

  -- 20 EXACTLY WHEN the rows do not fit
  pub full-exactly : (room : ℕ) → scan_of a ≡ Ok tt → scan_of b ≡ Ok tt → room < length (diffs_of a b) * 34 → compared_of a b room ≡ Err ListFull
  full-exactly room wa wb h =
      ap₂ (λ (j k : Judgement). fitted_by (tallied_by j k (length (diffs_of a b))) room) wa wb
      ∙ sym (stops (leb (length (diffs_of a b) * 34) room) (Err ListFull) (Ok (length (diffs_of a b))) (lt-leb _ _ h) refl)

  pub full-only : (room : ℕ) → compared_of a b room ≡ Err ListFull → room < length (diffs_of a b) * 34
  unfolding guard
  full-only room e = by (scan_of a) (scan_of b) e
    where
      fit : (m : ℕ) (t : Bool) → leb (m * 34) room ≡ t → guard t (Err ListFull) (Ok m) ≡ Err ListFull → room < m * 34
      fit m true p q = let z : ◌≡◌ {A = ℕ} 0 3 = ap kind_of q in absurd (omega arith)
      fit m false p q = leb-false (m * 34) room p

      by : (j k : Judgement) → fitted_by (tallied_by j k (length (diffs_of a b))) room ≡ Err ListFull → room < length (diffs_of a b) * 34
      by (Ok u) (Ok v) q = fit (length (diffs_of a b)) (leb (length (diffs_of a b) * 34) room) refl q
      by (Ok u) (Err (BadTrace at)) q = let z : ◌≡◌ {A = ℕ} 2 3 = ap kind_of q in absurd (omega arith)
      by (Ok u) (Err (NotARun at)) q = let z : ◌≡◌ {A = ℕ} 2 3 = ap kind_of q in absurd (omega arith)
      by (Err (BadTrace at)) k q = let z : ◌≡◌ {A = ℕ} 1 3 = ap kind_of q in absurd (omega arith)
      by (Err (NotARun at)) k q = let z : ◌≡◌ {A = ℕ} 1 3 = ap kind_of q in absurd (omega arith)
