-- The list in the room tells the differences: its rows are read back, and applying what is read to the first trace gives the second.
-- Assumes nothing.
use Rattle.std.specs.Prelude.{List, [], ◌∷◌, ◌≡◌, refl, ℕ, suc, ◌+◌, ◌*◌, ◌≤◌, ◌<◌, eqb, drop, Ok}
use Rattle.std.proofs.Common.{append-nil, sym, ap, ◌∙◌, arith, lit<, length-append, eqb-true}
use Rattle.std.proofs.Math.Path.{ap₂}
use Rattle.std.proofs.Math.Nat.{zero-add}
use Rattle.std.proofs.Math.ListN.{length}
use Rattle.std.proofs.lemmas.List.Edits.{sets, sets-eq}
use Rattle.layout.specs.Bytes.{bytes_at, Bytes}
use Rattle.layout.specs.Layout.{read, Fit}
use Rattle.layout.specs.LayoutLaws.{read-write, read-own}
use Rattle.layout.specs.All.{All}
use Rattle.layout.specs.Rows.{rows_at, rows_bytes}
use Rattle.layout.specs.RowsLaws.{rows_back}
use Rattle.codes.specs.Says.{guard}
use Rattle.codes.specs.SaysLaws.{guarded-by}
use Rattle.trace.specs.Field.{tag_of, bytes_of, Fits, trace_bytes, AllFit}
use Rattle.trace.specs.Fields.{scan_of}
use Rattle.trace.specs.ScanLaws.{size-bytes, size-some}
use Rattle.trace.specs.Compare.{a_of, b_of, c_of, numbers_of, alike_of, differences_from, applied_from, diffs_of, fields_in}
use Rattle.trace.specs.Listed.{row_by, row_widths, row_values, row_of, compared_of, listed_by, field_by, diff_by, row_at, listed_of}
use Rattle.trace.specs.ListedLaws.{row-length, rows-length}
use Rattle.trace.specs.DifferLaws.{whole, listed-means, applied-gives}
use Rattle.trace.specs.declared.field.Field.TheVariants as field
use Rattle.trace.specs.Types.{Field, Difference, OnlyFirst, OnlySecond, Other}

-- both of one tag, where both are told
abbrev pub OneTag : Difference → Type 0
OneTag (OnlyFirst i f) = Unit {0}
OneTag (OnlySecond i g) = Unit {0}
OneTag (Other i f g) = tag_of f ≡ tag_of g

abbrev pub RowFits : Difference → Type 0
RowFits d = Fit row_widths (row_values (row_by d)) × OneTag d

field_back : (f : Field) → field_by (tag_of f) (a_of f) (b_of f) (c_of f) ≡ f
field_back (field.Start a b c) = refl
field_back (field.Submitted a b c) = refl
field_back (field.Completed a b) = refl
field_back (field.End a) = refl

diff-back : (d : Difference) → OneTag d → diff_by (row_values (row_by d)) ≡ d
diff-back (OnlyFirst i f) t = ap (OnlyFirst i) (field_back f)
diff-back (OnlySecond i g) t = ap (OnlySecond i) (field_back g)
diff-back (Other i f g) t = ap₂ (λ (x y : Field). Other i x y) (field_back f) (ap (λ (n : ℕ). field_by n (a_of g) (b_of g) (c_of g)) t ∙ field_back g)

row_back : (d : Difference) → RowFits d → row_at 0 (row_of d) ≡ d
row_back d k = ap (λ (l : List ℕ). diff_by (read row_widths l)) (sym (append-nil (row_of d))) ∙ ap diff_by (read-write row_widths (row_values (row_by d)) [] k.0) ∙ diff-back d k.1

row-own : (o : ℕ) (s : List ℕ) → row_at o s ≡ row_at 0 (bytes_at o 34 s)
row-own o s = ap diff_by (read-own o row_widths s)

-- rows at the front of a room are read back
pub rows_told : (l : List ℕ) (ds : List Difference) → All RowFits ds → length ds * 34 ≤ length l → rows_at row_at 34 0 (length ds) (sets l 0 (rows_bytes row_of ds)) ≡ ds
rows_told l ds k h =
    let r = rows_bytes row_of ds in
    let n = rows-length ds in
    let z = zero-add (length r) in
    let fits : 0 + length r ≤ length l = omega (arith, h, n, z) in
    ap (rows_at row_at 34 0 (length ds)) (sets-eq r l 0 fits)
    ∙ rows_back row_at row_of 34 row-own row-length RowFits row_back ds (drop (0 + length r) l) k

-- ---- the rows of two traces fit

numbers_fit : (f : Field) → Fits f → (a_of f < 4294967296) × (b_of f < 4294967296) × (c_of f < 4294967296)
numbers_fit (field.Start a b c) k = (k.0, k.1.0, k.1.1.0)
numbers_fit (field.Submitted a b c) k = let h : a < 256 = k.0 in (omega (arith, h), k.1.0, k.1.1.0)
numbers_fit (field.Completed a b) k = let h : a < 256 = k.0 in (omega (arith, h), k.1.0, lit< tt)
numbers_fit (field.End a) k = let h : a < 256 = k.0 in (omega (arith, h), lit< tt, lit< tt)

tag_fits : (f : Field) → tag_of f < 256
tag_fits (field.Start a b c) = lit< tt
tag_fits (field.Submitted a b c) = lit< tt
tag_fits (field.Completed a b) = lit< tt
tag_fits (field.End a) = lit< tt

module _ (i : ℕ) (low : i < 18446744073709551616) where
  fits-first : (f : Field) → Fits f → RowFits (OnlyFirst i f)
  fits-first f k = let n = numbers_fit f k in ((low, (lit< tt, (tag_fits f, (n.0, (n.1, (n.2, (lit< tt, (lit< tt, (lit< tt, tt))))))))), tt)

  fits-second : (g : Field) → Fits g → RowFits (OnlySecond i g)
  fits-second g k = let n = numbers_fit g k in ((low, (lit< tt, (tag_fits g, (lit< tt, (lit< tt, (lit< tt, (n.0, (n.1, (n.2, tt))))))))), tt)

  fits-other : (f g : Field) → Fits f → Fits g → tag_of f ≡ tag_of g → RowFits (Other i f g)
  fits-other f g k j t = let n = numbers_fit f k in let m = numbers_fit g j in ((low, (lit< tt, (tag_fits f, (n.0, (n.1, (n.2, (m.0, (m.1, (m.2, tt))))))))), t)

pub all_fit : (i : ℕ) (fs gs : List Field) → AllFit fs → AllFit gs → i + length fs < 18446744073709551616 → i + length gs < 18446744073709551616 → All RowFits (differences_from i fs gs)
unfolding differences_from
all_fit i [] [] p q h k = tt
all_fit i [] (g ∷ gs) p q h k = (fits-second i (omega (arith, k)) g q.0, all_fit (suc i) [] gs p q.1 (omega (arith, k)) (omega (arith, k)))
all_fit i (f ∷ fs) [] p q h k = (fits-first i (omega (arith, h)) f p.0, all_fit (suc i) fs [] p.1 q (omega (arith, h)) (omega (arith, h)))
all_fit i (f ∷ fs) (g ∷ gs) p q h k =
    let low : i < 18446744073709551616 = omega (arith, h) in
    let rest = all_fit (suc i) fs gs p.1 q.1 (omega (arith, h)) (omega (arith, k)) in
    let ds = differences_from (suc i) fs gs in
    guarded-by (All RowFits) (eqb (tag_of f) (tag_of g)) (OnlyFirst i f ∷ OnlySecond i g ∷ ds) (guard (alike_of (numbers_of f) (numbers_of g)) (Other i f g ∷ ds) ds)
    (λ t. guarded-by (All RowFits) (alike_of (numbers_of f) (numbers_of g)) (Other i f g ∷ ds) ds (λ _. rest) (λ _. (fits-other i low f g p.0 q.0 (eqb-true _ _ t), rest)))
    (λ _. (fits-first i low f p.0, (fits-second i low g q.0, rest)))

few-fields : (fs : List Field) → length fs ≤ length (trace_bytes fs)
unfolding rows_bytes
few-fields [] = omega arith
few-fields (f ∷ fs) =
    let e = length-append (bytes_of f) (trace_bytes fs) in
    let m = size-bytes f in
    let big = size-some f in
    let r = few-fields fs in
    omega (arith, e, m, big, r)

fields-few : (s : List ℕ) → Bytes s → scan_of s ≡ Ok tt → length (fields_in s) ≤ length s
fields-few s b e = let n = few-fields (fields_in s) in let m = ap length (whole s b e).0 in omega (arith, n, m)

-- THE LIST IN THE ROOM tells the differences, and applied to the first it gives the second. A slice is shorter than 2^64 bytes.
module _ (a b l : List ℕ) (pa : Bytes a) (pb : Bytes b) (la : length a < 18446744073709551616) (lb : length b < 18446744073709551616) where
  pub list-told : (n : ℕ) → compared_of a b (length l) ≡ Ok n → rows_at row_at 34 0 n (listed_of a b l) ≡ diffs_of a b
  unfolding diffs_of
  list-told n e =
      let k = listed-means a b n (length l) e in
      let ds = diffs_of a b in
      let c : n ≡ length ds = k.count in
      let fits = k.fits in
      let na = fields-few a pa k.first in
      let nb = fields-few b pb k.second in
      let za = zero-add (length (fields_in a)) in
      let zb = zero-add (length (fields_in b)) in
      let ok = all_fit 0 (fields_in a) (fields_in b) (whole a pa k.first).1 (whole b pb k.second).1 (omega (arith, na, la, za)) (omega (arith, nb, lb, zb)) in
      ap₂ (λ x (m : ℕ). rows_at row_at 34 0 m (listed_by x ds l)) e c
      ∙ rows_told l ds ok (omega (arith, fits, c))

  pub list-applied : (n : ℕ) → compared_of a b (length l) ≡ Ok n → trace_bytes (applied_from 0 (rows_at row_at 34 0 n (listed_of a b l)) (fields_in a)) ≡ b
  list-applied n e = ap (λ (ds : List Difference). trace_bytes (applied_from 0 ds (fields_in a))) (list-told n e) ∙ applied-gives a b pb (listed-means a b n (length l) e).second
