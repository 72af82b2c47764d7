-- A trace that scans is the bytes of its fields, and the bytes of fields scan to them.
-- Assumes nothing.
use Rattle.std.specs.Prelude.{Bool, ◌≡◌, ℕ, zero, suc, ◌+◌, ◌-◌, ◌≤◌, eqb, Option, Some, None, Ok, Err}
use Rattle.std.proofs.Math.Bool.{true, false}
use mathlib.Core.List.{List, [], ◌∷◌, ◌++◌, append_assoc, append-nil}
use Rattle.std.proofs.Math.Path.{refl, ap, ap₂}
use Rattle.std.proofs.Common.{sym, subst, ◌∙◌, length-append}
use native.Mathlib.Omega.{arith}
use Rattle.std.proofs.Math.ListN.{length}
use borrow.Author.Tests.{eqb-true, eq-eqb}
use Rattle.layout.specs.Bytes.{bytes_at, Bytes}
use Rattle.layout.specs.BytesLaws.{bytes_at-add}
use Rattle.layout.specs.LayoutLaws.{length-write}
use Rattle.layout.specs.Rows.{rows_bytes}
use Rattle.codes.specs.Says.{pick}
use Rattle.codes.specs.SaysLaws.{picks, skips}
use Rattle.trace.specs.Field.{size_of, bytes_of, trace_bytes, AllFit}
use Rattle.trace.specs.Fields.{field_at, more_fields, fields_from, scan_by, scan_from}
use Rattle.trace.specs.FieldLaws.{field-stands, field_found, field-inside}
use Rattle.trace.specs.declared.field.Field.TheVariants as field
use Rattle.trace.specs.Types.{Field, Judgement, BadTrace, NotARun}

abbrev number_of : Judgement → ℕ
number_of (Ok u) = 0
number_of (Err (BadTrace at)) = 18
number_of (Err (NotARun at)) = 19

never : (n : ℕ) → ◌≡◌ {A = Judgement} (Err (BadTrace n)) (Ok tt) → ⊥
never n e = let z : ◌≡◌ {A = ℕ} 18 0 = ap number_of e in omega arith

pub size-bytes : (f : Field) → length (bytes_of f) ≡ size_of f
size-bytes (field.Start stream total period) = length-write (1 ∷ 2 ∷ 4 ∷ 4 ∷ 4 ∷ []) (0 ∷ 12 ∷ stream ∷ total ∷ period ∷ [])
size-bytes (field.Submitted slot offset len) = length-write (1 ∷ 2 ∷ 1 ∷ 4 ∷ 4 ∷ []) (1 ∷ 9 ∷ slot ∷ offset ∷ len ∷ [])
size-bytes (field.Completed slot status) = length-write (1 ∷ 2 ∷ 1 ∷ 4 ∷ []) (2 ∷ 5 ∷ slot ∷ status ∷ [])
size-bytes (field.End answer) = length-write (1 ∷ 2 ∷ 1 ∷ []) (3 ∷ 1 ∷ answer ∷ [])

pub size-some : (f : Field) → 4 ≤ size_of f
size-some (field.Start stream total period) = omega arith
size-some (field.Submitted slot offset len) = omega arith
size-some (field.Completed slot status) = omega arith
size-some (field.End answer) = omega arith

-- a test that cannot hold fails
refuted : (b : Bool) → (b ≡ true → ⊥) → false ≡ b
refuted true h = absurd (h refl)
refuted false h = refl

-- the bytes from a place on are those of the fields read there
pub record Scanned (o n : ℕ) (s : List ℕ) (fs : List Field) : Type 0 where
  pub bytes : bytes_at o n s ≡ trace_bytes fs
  pub fit : AllFit fs

module _ (fuel o m : ℕ) (s : List ℕ) (b : Bytes s) (e : o + m ≡ length s) (h : m ≤ suc fuel)
    (later : (p n : ℕ) → p + n ≡ length s → n ≤ fuel → scan_from fuel p s ≡ Ok tt → Scanned p n s (fields_from fuel p s)) where
  some : (x : Option Field) → field_at o s ≡ x → scan_by x o (λ p. scan_from fuel p s) ≡ Ok tt → Scanned o m s (more_fields x o (λ p. fields_from fuel p s))
  unfolding rows_bytes
  some None p k = absurd (never o k)
  some (Some f) p k =
      let st = field-stands o s b f p in
      let n = m - size_of f in
      let big = size-some f in
      let inn = st.inside in
      let e₁ : m ≡ size_of f + n = omega arith in
      let e₂ : o + size_of f + n ≡ length s = omega arith in
      let le : n ≤ fuel = omega arith in
      let rest = later (o + size_of f) n e₂ le k in
      record {
        bytes = ap (λ (k : ℕ). bytes_at o k s) e₁ ∙ bytes_at-add o (size_of f) n s ∙ ap₂ (λ (x y : List ℕ). x ++ y) st.bytes rest.bytes;
        fit = (st.fits, rest.fit);
      }

  at-end : (t : Bool) → eqb o (length s) ≡ t → pick t (Ok tt) (scan_by (field_at o s) o (λ p. scan_from fuel p s)) ≡ Ok tt
      → Scanned o m s (pick t [] (more_fields (field_at o s) o (λ p. fields_from fuel p s)))
  unfolding rows_bytes bytes_at
  at-end true p k = let q : o ≡ length s = eqb-true _ _ p in let z : m ≡ 0 = omega arith in record { bytes = ap (λ (j : ℕ). bytes_at o j s) z; fit = tt }
  at-end false p k = some (field_at o s) refl k

-- m bytes are left from o on
pub scan-fields : (fuel o m : ℕ) (s : List ℕ) → Bytes s → o + m ≡ length s → m ≤ fuel → scan_from fuel o s ≡ Ok tt → Scanned o m s (fields_from fuel o s)
unfolding scan_from fields_from rows_bytes bytes_at
scan-fields zero o m s b e h ok =
    let z : m ≡ 0 = omega arith in
    record { bytes = ap (λ (k : ℕ). bytes_at o k s) z; fit = tt }
scan-fields (suc fuel) o m s b e h ok = at-end fuel o m s b e h (λ p n e' h' k. scan-fields fuel p n s b e' h' k) (eqb o (length s)) refl ok

-- ---- and back: fields behind p, in a trace that ends with them

pub record Reads (fuel o : ℕ) (s : List ℕ) (fs : List Field) : Type 0 where
  pub scan : scan_from fuel o s ≡ Ok tt
  pub fields : fields_from fuel o s ≡ fs

scanned : (fuel : ℕ) (p : List ℕ) → Reads fuel (length p) p []
unfolding scan_from fields_from
scanned zero p = record { scan = refl; fields = refl }
scanned (suc fuel) p =
    let t = eq-eqb (length p) (length p) refl in
    record { scan = picks (eqb (length p) (length p)) (Ok tt) _ t; fields = picks (eqb (length p) (length p)) [] _ t }

pub fields-scan : (fuel : ℕ) (p : List ℕ) (fs : List Field) → AllFit fs → length (trace_bytes fs) ≤ fuel → Reads fuel (length p) (p ++ trace_bytes fs) fs
unfolding scan_from fields_from rows_bytes
fields-scan fuel p [] fit h = subst (λ (l : List ℕ). Reads fuel (length p) l []) (sym (append-nil p)) (scanned fuel p)
fields-scan zero p (f ∷ fs) fit h =
    let big = size-some f in
    let n = length-append (bytes_of f) (trace_bytes fs) in
    let m = size-bytes f in
    absurd (omega arith)
fields-scan (suc fuel) p (f ∷ fs) fit h =
    let big = size-some f in
    let n = length-append (bytes_of f) (trace_bytes fs) in
    let m = size-bytes f in
    let s = p ++ (bytes_of f ++ trace_bytes fs) in
    let long : length s ≡ length p + (length (bytes_of f) + length (trace_bytes fs)) = length-append p (bytes_of f ++ trace_bytes fs) ∙ ap (λ (k : ℕ). length p + k) n in
    let is : field_at (length p) s ≡ Some f = field_found p (trace_bytes fs) f fit.0 in
    let open' : eqb (length p) (length s) ≡ false = sym (refuted (eqb (length p) (length s)) (λ e. let z : length p ≡ length s = eqb-true _ _ e in omega (arith, big, m, long, z))) in
    let q : length (p ++ bytes_of f) ≡ length p + size_of f = length-append p (bytes_of f) ∙ ap (λ (k : ℕ). length p + k) m in
    let less : length (trace_bytes fs) ≤ fuel = omega (arith, big, m, n) in
    let ih : Reads fuel (length p + size_of f) s fs
    = subst (λ (k : ℕ). Reads fuel k s fs) q (subst (λ (l : List ℕ). Reads fuel (length (p ++ bytes_of f)) l fs) (append_assoc p (bytes_of f) (trace_bytes fs)) (fields-scan fuel (p ++ bytes_of f) fs fit.1 less)) in
    record {
      scan = skips (eqb (length p) (length s)) (Ok tt) (scan_by (field_at (length p) s) (length p) (λ k. scan_from fuel k s)) open' ∙ ap (λ (x : Option Field). scan_by x (length p) (λ k. scan_from fuel k s)) is ∙ ih.scan;
      fields = skips (eqb (length p) (length s)) [] (more_fields (field_at (length p) s) (length p) (λ k. fields_from fuel k s)) open' ∙ ap (λ (x : Option Field). more_fields x (length p) (λ k. fields_from fuel k s)) is ∙ ap (λ (l : List Field). f ∷ l) ih.fields;
    }

-- ---- a scan that stands at a place: what the code's loop keeps

pub record Scans (s : List ℕ) (at : ℕ) : Type 0 where
  pub fuel : ℕ
  pub inside : at ≤ length s
  pub enough : length s ≤ at + fuel
  pub same : scan_from (length s) 0 s ≡ scan_from fuel at s

pub scans-first : (s : List ℕ) → Scans s 0
scans-first s = record { fuel = length s; inside = omega arith; enough = omega arith; same = refl }

scan_step : (fuel at : ℕ) (s : List ℕ) (x : Option Field) → length s ≤ at + fuel → at ≤ length s → (at ≡ length s → ⊥) → field_at at s ≡ x
    → (k : ℕ) × (fuel ≡ suc k) × (scan_from fuel at s ≡ scan_by x at (λ p. scan_from k p s))
unfolding scan_from
scan_step zero at s x enough inside off e = absurd (off (omega arith))
scan_step (suc k) at s x enough inside off e =
    (k, refl, skips (eqb at (length s)) (Ok tt) (scan_by (field_at at s) at (λ p. scan_from k p s)) (sym (refuted (eqb at (length s)) (λ t. off (eqb-true _ _ t)))) ∙ ap (λ (y : Option Field). scan_by y at (λ p. scan_from k p s)) e)

pub scans-bad : (s : List ℕ) (at : ℕ) (x : Option Field) → Scans s at → (at ≡ length s → ⊥) → x ≡ field_at at s → x ≡ None → Err (BadTrace at) ≡ scan_from (length s) 0 s
scans-bad s at x k off e b = let p = scan_step k.fuel at s None k.enough k.inside off (sym e ∙ b) in sym (k.same ∙ p.2)

pub scans-next : (s : List ℕ) (at n : ℕ) (x : Option Field) (f : Field) → Scans s at → (at ≡ length s → ⊥) → x ≡ field_at at s → x ≡ Some f → n ≡ size_of f → Scans s (at + n)
scans-next s at n x f k off e b m =
    let p = scan_step k.fuel at s (Some f) k.enough k.inside off (sym e ∙ b) in
    let big = size-some f in
    let h = field-inside at s f (sym e ∙ b) in
    let q = p.1 in
    let en = k.enough in
    subst (λ (z : ℕ). Scans s (at + z)) (sym m) (record { fuel = p.0; inside = h; enough = omega arith; same = k.same ∙ p.2 })

pub scans-done : (s : List ℕ) (at : ℕ) → Scans s at → at ≡ length s → (Ok tt) ≡ scan_from (length s) 0 s
unfolding scan_from
scans-done s at k e = sym (k.same ∙ by k.fuel)
  where
    by : (fuel : ℕ) → scan_from fuel at s ≡ Ok tt
    by zero = refl
    by (suc n) = picks (eqb at (length s)) (Ok tt) (scan_by (field_at at s) at (λ p. scan_from n p s)) (eq-eqb at (length s) e)

pub size-told : (n : ℕ) (x : Option Field) (f : Field) → x ≡ Some f → n ≡ size_of f → 4 ≤ n
size-told n x f b e = subst (λ (k : ℕ). 4 ≤ k) (sym e) (size-some f)
