-- 2026-11: 18 "for an empty trace, an unknown tag, a wrong length or a cut field", with the offset of "the first such field's (0 if empty)".
-- Assumes nothing.
use Rattle.std.specs.Prelude.{Bool, true, false, ◌⊎◌, ℕ, zero, suc, ◌+◌, ◌-◌, ◌≤◌, ◌<◌, eqb, ltb, Option, Some, None, Result, Ok, Err}
use mathlib.Core.List.{List, [], ◌∷◌, ◌++◌}
use Rattle.std.proofs.Math.Path.{◌≡◌, refl, ap, ap₂, subst}
use Rattle.std.proofs.Common.{sym, ◌∙◌, inl, inr}
use native.Mathlib.Omega.{arith}
use Rattle.std.proofs.Math.ListN.{length}
use Rattle.std.proofs.lemmas.Bool.{eqb-false}
use Rattle.layout.specs.Bytes.{bytes_at, Bytes}
use Rattle.layout.specs.BytesLaws.{bytes_at-add, bytes_at-all}
use Rattle.layout.specs.Rows.{rows_bytes}
use Rattle.codes.specs.Says.{pick, guard}
use Rattle.trace.specs.Field.{size_of, trace_bytes, AllFit}
use Rattle.trace.specs.Judge.{place_of, move_of, rest_by, on_by, walk_of, start_by, judged_by, judges, begun}
use Rattle.trace.specs.Fields.{field_at, scan_by, scan_from, fields_from}
use Rattle.trace.specs.FieldLaws.{field-stands}
use Rattle.trace.specs.ScanLaws.{size-some, scan-fields, fields-scan}
use Rattle.trace.specs.AcceptLaws.{number_of}
use Rattle.trace.specs.Runs.{WholeFields, Breaks}
use Rattle.trace.specs.NotARunLaws.{scan-never}
use Rattle.trace.specs.declared.field.Field.TheVariants as field
use Rattle.trace.specs.Types.{Field, Track, Stage, Opening, Out, Back, Failed, Over, State, Judgement, BadTrace, NotARun}

module _ (fuel o m at : ℕ) (s : List ℕ) (b : Bytes s) (e : o + m ≡ length s) (h : m ≤ suc fuel)
    (later : (p n : ℕ) → p + n ≡ length s → n ≤ fuel → scan_from fuel p s ≡ Err (BadTrace at) → Breaks s p at) where
  some : (x : Option Field) → field_at o s ≡ x → (o ≡ length s → ⊥) → scan_by x o (λ p. scan_from fuel p s) ≡ Err (BadTrace at) → Breaks s o at
  unfolding rows_bytes bytes_at
  some None p off q =
      let same : o ≡ at = ap place_of q in
      subst (λ (z : ℕ). Breaks s o z) same (record { k = 0; place = omega arith; fields = []; fit = tt; bytes = refl; inside = omega arith; none = p })
  some (Some f) p off q =
      let st = field-stands o s b f p in
      let big = size-some f in
      let inn = st.inside in
      let e₂ : o + size_of f + (m - size_of f) ≡ length s = omega arith in
      let le : m - size_of f ≤ fuel = omega arith in
      let r = later (o + size_of f) (m - size_of f) e₂ le q in
      let pl = r.place in
      record {
        k = size_of f + r.k;
        place = omega arith;
        fields = f ∷ r.fields;
        fit = (st.fits, r.fit);
        bytes = bytes_at-add o (size_of f) r.k s ∙ ap₂ (λ (x y : List ℕ). x ++ y) st.bytes r.bytes;
        inside = r.inside;
        none = r.none;
      }

  at-end : (t : Bool) → eqb o (length s) ≡ t → pick t (Ok tt) (scan_by (field_at o s) o (λ p. scan_from fuel p s)) ≡ Err (BadTrace at) → Breaks s o at
  at-end true p q = let z : ◌≡◌ {A = ℕ} 0 18 = ap number_of q in absurd (omega arith)
  at-end false p q = some (field_at o s) refl (eqb-false _ _ p) q

scan-breaks : (fuel o m at : ℕ) (s : List ℕ) → Bytes s → o + m ≡ length s → m ≤ fuel → scan_from fuel o s ≡ Err (BadTrace at) → Breaks s o at
unfolding scan_from
scan-breaks zero o m at s b e h q = let z : ◌≡◌ {A = ℕ} 0 18 = ap number_of q in absurd (omega arith)
scan-breaks (suc fuel) o m at s b e h q = at-end fuel o m at s b e h (λ p n e' h' k. scan-breaks fuel p n at s b e' h' k) (eqb o (length s)) refl q

-- the walk never says 18
rest-never : (st : Stage) (at x : ℕ) → rest_by st at ≡ Err (BadTrace x) → ⊥
rest-never Over at x e = let z : ◌≡◌ {A = ℕ} 0 18 = ap number_of e in omega arith
rest-never Opening at x e = let z : ◌≡◌ {A = ℕ} 19 18 = ap number_of e in omega arith
rest-never Out at x e = let z : ◌≡◌ {A = ℕ} 19 18 = ap number_of e in omega arith
rest-never Back at x e = let z : ◌≡◌ {A = ℕ} 19 18 = ap number_of e in omega arith
rest-never Failed at x e = let z : ◌≡◌ {A = ℕ} 19 18 = ap number_of e in omega arith

walk-never : (least : ℕ) (fs : List Field) (st : Stage) (t : Track) (at x : ℕ) → walk_of least st t at fs ≡ Err (BadTrace x) → ⊥
unfolding walk_of
walk-never least [] st t at x e = rest-never st at x e
walk-never least (f ∷ fs) st t at x e = by (move_of least st t f) (λ u v n q. walk-never least fs u v n x q) e
  where
    by : (m : Result State ℕ) → ((u : Stage) (v : Track) (n : ℕ) → walk_of least u v n fs ≡ Err (BadTrace x) → ⊥) → on_by m at (size_of f) (λ u v n. walk_of least u v n fs) ≡ Err (BadTrace x) → ⊥
    by (Ok m) deeper q = deeper m.stage m.track (at + size_of f) q
    by (Err k) deeper q = let z : ◌≡◌ {A = ℕ} 19 18 = ap number_of q in omega arith

start-never : (per least a c d at : ℕ) (fs : List Field) → guard (ltb 0 d) (Err (NotARun 14)) (walk_of least Opening (begun per a c d 0) 15 fs) ≡ Err (BadTrace at) → ⊥
unfolding guard
start-never per least a c d at fs e = by (ltb 0 d) e
  where
    by : (b : Bool) → guard b (Err (NotARun 14)) (walk_of least Opening (begun per a c d 0) 15 fs) ≡ Err (BadTrace at) → ⊥
    by true q = walk-never least fs Opening (begun per a c d 0) 15 at q
    by false q = let z : ◌≡◌ {A = ℕ} 19 18 = ap number_of q in omega arith

-- nor does a trace's start
starts-never : (per least at : ℕ) (f : Field) (fs : List Field) → start_by per least f fs ≡ Err (BadTrace at) → ⊥
unfolding guard
starts-never per least at (field.Start a c d) fs e = start-never per least a c d at fs e
starts-never per least at (field.Submitted a c d) fs e = let z : ◌≡◌ {A = ℕ} 19 18 = ap number_of e in omega arith
starts-never per least at (field.Completed a c) fs e = let z : ◌≡◌ {A = ℕ} 19 18 = ap number_of e in omega arith
starts-never per least at (field.End a) fs e = let z : ◌≡◌ {A = ℕ} 19 18 = ap number_of e in omega arith

-- nothing there, or whole fields up to that place and none there
pub breaks-at : (per least : ℕ) (s : List ℕ) (at : ℕ) → Bytes s → judges per least s ≡ Err (BadTrace at) → ((s ≡ []) × (at ≡ 0)) ⊎ Breaks s 0 at
unfolding judges guard rows_bytes
breaks-at per least s at b e = by (scan_from (length s) 0 s) refl (fields_from (length s) 0 s) refl e
  where
    by : (j : Judgement) → scan_from (length s) 0 s ≡ j → (fs : List Field) → fields_from (length s) 0 s ≡ fs → judged_by j per least fs ≡ Err (BadTrace at)
        → ((s ≡ []) × (at ≡ 0)) ⊎ Breaks s 0 at
    by (Err (BadTrace x)) p fs q r = inr (scan-breaks (length s) 0 (length s) at s b (omega arith) (omega arith) (p ∙ r))
    by (Err (NotARun x)) p fs q r = let z : ◌≡◌ {A = ℕ} 19 18 = ap number_of r in absurd (omega arith)
    by (Ok u) p [] q r =
        let k = scan-fields (length s) 0 (length s) s b (omega arith) (omega arith) p in
        inl (sym (bytes_at-all s (length s) refl) ∙ k.bytes ∙ ap trace_bytes q, sym (ap place_of r))
    by (Ok u) p (field.Start a c d ∷ fs) q r = absurd (start-never per least a c d at fs r)
    by (Ok u) p (field.Submitted a c d ∷ fs) q r = let z : ◌≡◌ {A = ℕ} 19 18 = ap number_of r in absurd (omega arith)
    by (Ok u) p (field.Completed a c ∷ fs) q r = let z : ◌≡◌ {A = ℕ} 19 18 = ap number_of r in absurd (omega arith)
    by (Ok u) p (field.End a ∷ fs) q r = let z : ◌≡◌ {A = ℕ} 19 18 = ap number_of r in absurd (omega arith)

-- ---- the order: 18 where the fields are not whole, and then 19

-- a trace that scans is whole fields, if it has any
scanned-whole : (s : List ℕ) (f : Field) (fs : List Field) → Bytes s → scan_from (length s) 0 s ≡ Ok tt → fields_from (length s) 0 s ≡ f ∷ fs → WholeFields s
scanned-whole s f fs b p q =
    let k = scan-fields (length s) 0 (length s) s b (omega arith) (omega arith) p in
    record {
      fields = f ∷ fs;
      some = omega arith;
      fit = subst AllFit q k.fit;
      bytes = sym (k.bytes ∙ ap trace_bytes q) ∙ bytes_at-all s (length s) refl;
    }

module _ (per least : ℕ) (s : List ℕ) (b : Bytes s) where
  pub whole_by : (at : ℕ) → judges per least s ≡ Err (NotARun at) → WholeFields s
  unfolding judges
  whole_by at e = by (scan_from (length s) 0 s) refl (fields_from (length s) 0 s) refl e
    where
      by : (j : Judgement) → scan_from (length s) 0 s ≡ j → (fs : List Field) → fields_from (length s) 0 s ≡ fs → judged_by j per least fs ≡ Err (NotARun at) → WholeFields s
      by (Err (BadTrace x)) p fs q r = let z : ◌≡◌ {A = ℕ} 18 19 = ap number_of r in absurd (omega arith)
      by (Err (NotARun x)) p fs q r = absurd (scan-never (length s) 0 x s p)
      by (Ok u) p [] q r = let z : ◌≡◌ {A = ℕ} 18 19 = ap number_of r in absurd (omega arith)
      by (Ok u) p (f ∷ fs) q r = scanned-whole s f fs b p q

  -- what is not whole is 18, at some offset
  pub broken-by : (WholeFields s → ⊥) → (at : ℕ) × (judges per least s ≡ Err (BadTrace at))
  unfolding judges
  broken-by not = by (scan_from (length s) 0 s) refl (fields_from (length s) 0 s) refl
    where
      by : (j : Judgement) → scan_from (length s) 0 s ≡ j → (fs : List Field) → fields_from (length s) 0 s ≡ fs → (at : ℕ) × (judged_by j per least fs ≡ Err (BadTrace at))
      by (Err (BadTrace x)) p fs q = (x, refl)
      by (Err (NotARun x)) p fs q = absurd (scan-never (length s) 0 x s p)
      by (Ok u) p [] q = (0, refl)
      by (Ok u) p (f ∷ fs) q = absurd (not (scanned-whole s f fs b p q))

-- whole fields scan to themselves, so they are never 18
pub whole-never : (per least : ℕ) (s : List ℕ) → WholeFields s → (at : ℕ) → judges per least s ≡ Err (BadTrace at) → ⊥
unfolding judges
whole-never per least s w at e = by w.fields w.some w.fit w.bytes
  where
    by : (fs : List Field) → 0 < length fs → AllFit fs → trace_bytes fs ≡ s → ⊥
    by [] some fit same = omega arith
    by (f ∷ fs) some fit same =
        let r = fields-scan (length s) [] (f ∷ fs) fit (omega (arith, ap length same)) in
        let scan : scan_from (length s) 0 s ≡ Ok tt = ap (scan_from (length s) 0) (sym same) ∙ r.scan in
        let read : fields_from (length s) 0 s ≡ f ∷ fs = ap (fields_from (length s) 0) (sym same) ∙ r.fields in
        starts-never per least at f fs (sym (ap₂ (λ (j : Judgement) (xs : List Field). judged_by j per least xs) scan read) ∙ e)
