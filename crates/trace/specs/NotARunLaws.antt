-- 2026-11: 19 tells "the first byte through which no run's trace agrees, or the length where the trace only ends early".
-- Assumes nothing.
use Rattle.std.specs.Prelude.{Bool, ◌≡◌, eqb, Option, Some, None, Ok, Err}
use Rattle.std.proofs.Math.Bool.{true, false}
use mathlib.Core.List.{List, [], ◌∷◌, ◌++◌, append_assoc}
use Rattle.std.proofs.Math.Path.{refl, sym, ap, subst}
use Rattle.std.proofs.Common.{◌∙◌, lit<}
use Prim.Native.Nat.{ℕ, zero, suc, ◌+◌, ◌≤◌, ◌<◌}
use native.Mathlib.Omega.{arith}
use Rattle.std.proofs.Math.Dec.{ltb}
use Rattle.std.proofs.Math.ListN.{length, take, drop, length-append}
use borrow.Author.Tests.{ltb-true, ltb-false}
use Rattle.layout.specs.Bytes.{le, Bytes}
use Rattle.layout.specs.BytesLaws.{bytes_at-all}
use Rattle.layout.specs.Rows.{rows_bytes}
use Rattle.codes.specs.Says.{pick, guard}
use Rattle.trace.specs.Field.{tag_of, bytes_of, Fits, size_of, trace_bytes, AllFit}
use Rattle.trace.specs.Judge.{walk_of, judged_by, judges, begun}
use Rattle.trace.specs.Fields.{field_at, scan_by, scan_from, fields_from}
use Rattle.trace.specs.ScanLaws.{size-bytes, size-some, scan-fields}
use Rattle.trace.specs.FitLaws.{Small}
use Rattle.trace.specs.ListLaws.{take_past, cancel}
use Rattle.trace.specs.OffsetLaws.{way, same-field, Stops, stops, alike, tag-byte, split_at}
use Rattle.trace.specs.RunLaws.{Accepts, accepts-runs, accepted-is-run}
use Rattle.trace.specs.Runs.{IsRun, RunOf, Told}
use Rattle.trace.specs.AcceptLaws.{number_of, run_fits}
use Rattle.trace.specs.WalkLaws.{Walks}
use Rattle.trace.specs.declared.field.Field.TheVariants as field
use Rattle.trace.specs.Types.{Field, Opening, Judgement, BadTrace, NotARun}

-- ---- a run's fields

fields_fit : (per least : ℕ) (tr : List Field) → IsRun per least tr → AllFit tr
fields_fit per least tr r = subst (λ (l : List Field). AllFit l) r.writes (run_fits per least r.stream r.total r.period r.budget r.script r.turns r.wide r.real)

small-begun : (per stream total period : ℕ) → Fits (field.Start stream total period) → Small (begun per stream total period 0)
small-begun per stream total period fit = record { head = lit< tt; tail = lit< tt; total = fit.1.0 }

-- a run with a start and fields that may follow
begin : (per least : ℕ) (stream total period : ℕ) (gs : List Field) → Fits (field.Start stream total period) → 0 < period → Walks least Opening (begun per stream total period 0) gs → AllFit gs
    → RunOf per least (trace_bytes (field.Start stream total period ∷ gs))
begin per least stream total period gs fit some w g =
    record { trace = field.Start stream total period ∷ gs; run = accepted-is-run per least (field.Start stream total period ∷ gs) (fit, g) (some, w); bytes = refl }

abbrev place_in : Judgement → ℕ
place_in (Ok u) = 0
place_in (Err (BadTrace at)) = at
place_in (Err (NotARun at)) = at

module _ (per least : ℕ) (few : least ≤ 32) where
  -- ---- the first field is no start

  no_start : (f : Field) (fs : List Field) → (tag_of f ≡ 0 → ⊥) → Told per least (trace_bytes (f ∷ fs)) 0
  unfolding rows_bytes
  no_start f fs other =
      let fit : Fits (field.Start 0 0 1) = (lit< tt, (lit< tt, (lit< tt, tt))) in
      let w = way least Opening (begun per 0 0 1 0) (small-begun per 0 0 1 fit) in
      record {
        inside = omega arith;
        up_to = record { trace = trace_bytes (field.Start 0 0 1 ∷ w.fields); run = begin per least 0 0 1 w.fields fit (lit< tt) w.walks w.fit; more = trace_bytes (field.Start 0 0 1 ∷ w.fields); same = refl };
        through = λ h a. none a.run.trace (accepts-runs per least a.run.trace a.run.run) a.more (a.same ∙ sym a.run.bytes);
      }
    where
      none : (tr : List Field) → Accepts per least tr → (z : List ℕ) → take 1 (bytes_of f ++ trace_bytes fs) ++ z ≡ trace_bytes tr → ⊥
      none [] acc z e = acc
      none (field.Start a b c ∷ gs) acc z e =
          let big = size-some f in
          other (sym (tag-byte f) ∙ alike 0 f (field.Start a b c) (trace_bytes fs) (trace_bytes gs) z e 0 (omega arith) (omega arith) (omega arith) ∙ tag-byte (field.Start a b c))
      none (field.Submitted a b c ∷ gs) acc z e = acc
      none (field.Completed a b ∷ gs) acc z e = acc
      none (field.End a ∷ gs) acc z e = acc

  -- ---- a run that begins with the bytes of a start is of that start

  same_start : (stream total period : ℕ) → Fits (field.Start stream total period) → (tr : List Field) → Accepts per least tr → AllFit tr → (y : List ℕ) → bytes_of (field.Start stream total period) ++ y ≡ trace_bytes tr
      → (0 < period) × ((gs : List Field) × Walks least Opening (begun per stream total period 0) gs × AllFit gs × (y ≡ trace_bytes gs))
  unfolding rows_bytes
  same_start stream total period fit [] acc tf y e = absurd acc
  same_start stream total period fit (field.Start a b c ∷ gs) acc tf y e =
      let f = field.Start stream total period in
      let same : field.Start a b c ≡ f = sym (same-field f (field.Start a b c) y (trace_bytes gs) fit tf.0 e) in
      let acc' : Accepts per least (f ∷ gs) = subst (λ (h : Field). Accepts per least (h ∷ gs)) same acc in
      (acc'.0, (gs, acc'.1, tf.1, cancel (bytes_of f) y (trace_bytes gs) (e ∙ ap (λ (h : Field). bytes_of h ++ trace_bytes gs) same)))
  same_start stream total period fit (field.Submitted a b c ∷ gs) acc tf y e = absurd acc
  same_start stream total period fit (field.Completed a b ∷ gs) acc tf y e = absurd acc
  same_start stream total period fit (field.End a ∷ gs) acc tf y e = absurd acc

  -- ---- a start with period 0: any other period agrees up to its last byte

  period-none : (stream total : ℕ) (fs : List Field) → Fits (field.Start stream total 0) → Told per least (trace_bytes (field.Start stream total 0 ∷ fs)) 14
  unfolding rows_bytes le
  period-none stream total fs fit =
      let f = field.Start stream total 0 in
      let g = field.Start stream total 16777216 in
      let fit' : Fits g = (fit.0, (fit.1.0, (lit< tt, tt))) in
      let w = way least Opening (begun per stream total 16777216 0) (small-begun per stream total 16777216 fit') in
      let n = length-append (bytes_of f) (trace_bytes fs) in
      let m = size-bytes f in
      record {
        inside = omega arith;
        up_to =
            record {
              trace = trace_bytes (g ∷ w.fields);
              run = begin per least stream total 16777216 w.fields fit' (lit< tt) w.walks w.fit;
              more = drop 14 (bytes_of g) ++ trace_bytes w.fields;
              same = split_at 14 (bytes_of g) (trace_bytes w.fields);
            };
        through = λ h a.
            let r = a.run in
            let k = same_start stream total 0 fit r.trace (accepts-runs per least r.trace r.run) (fields_fit per least r.trace r.run) a.more (a.same ∙ sym r.bytes) in
            let z = k.0 in
            omega arith;
      }

  -- ---- a start, and fields behind it

  behind : (stream total period : ℕ) (fs : List Field) (at : ℕ) → Fits (field.Start stream total period) → 0 < period
      → Stops least Opening (begun per stream total period 0) 15 fs at → Told per least (trace_bytes (field.Start stream total period ∷ fs)) at
  unfolding rows_bytes
  behind stream total period fs at fit some s =
      let f = field.Start stream total period in
      let near = s.near in
      let n = length-append (bytes_of f) (trace_bytes fs) in
      let m = size-bytes f in
      let i = s.inside in
      let p = s.place in
      let past : (q : ℕ) → take (15 + q) (bytes_of f ++ trace_bytes fs) ≡ bytes_of f ++ take q (trace_bytes fs)
      = λ q. ap (λ (z : ℕ). take (z + q) (bytes_of f ++ trace_bytes fs)) (sym m) ∙ take_past (bytes_of f) (trace_bytes fs) q in
      record {
        inside = omega arith;
        up_to =
            record {
              trace = trace_bytes (f ∷ near.fields);
              run = begin per least stream total period near.fields fit some near.walks near.fit;
              more = near.more;
              same =
                  ap (λ (q : ℕ). take q (bytes_of f ++ trace_bytes fs) ++ near.more) p
                  ∙ ap (λ (l : List ℕ). l ++ near.more) (past s.k)
                  ∙ append_assoc (bytes_of f) (take s.k (trace_bytes fs)) near.more
                  ∙ ap (λ (l : List ℕ). bytes_of f ++ l) near.same;
            };
        through = λ h a.
            let r = a.run in
            let less : s.k < length (trace_bytes fs) = omega arith in
            let one : suc at ≡ 15 + suc s.k = omega arith in
            let y = take (suc s.k) (trace_bytes fs) ++ a.more in
            let e : bytes_of f ++ y ≡ trace_bytes r.trace
            = sym (append_assoc (bytes_of f) (take (suc s.k) (trace_bytes fs)) a.more)
            ∙ ap (λ (l : List ℕ). l ++ a.more) (sym (past (suc s.k)) ∙ ap (λ (q : ℕ). take q (bytes_of f ++ trace_bytes fs)) (sym one))
            ∙ a.same ∙ sym r.bytes in
            let k = same_start stream total period fit r.trace (accepts-runs per least r.trace r.run) (fields_fit per least r.trace r.run) y e in
            s.far less k.1.0 k.1.1 k.1.2 a.more k.1.3;
      }

  -- ---- of fields, and of bytes

  started : (stream total period : ℕ) (fs : List Field) (at : ℕ) → Fits (field.Start stream total period) → AllFit fs
      → guard (ltb 0 period) (Err (NotARun 14)) (walk_of least Opening (begun per stream total period 0) 15 fs) ≡ Err (NotARun at) → Told per least (trace_bytes (field.Start stream total period ∷ fs)) at
  unfolding guard
  started stream total period fs at fit rest e = by (ltb 0 period) refl e
    where
      by : (b : Bool) → ltb 0 period ≡ b → guard b (Err (NotARun 14)) (walk_of least Opening (begun per stream total period 0) 15 fs) ≡ Err (NotARun at) → Told per least (trace_bytes (field.Start stream total period ∷ fs)) at
      by true p q = behind stream total period fs at fit (ltb-true 0 period p) (stops least few fs Opening (begun per stream total period 0) 15 at rest (small-begun per stream total period fit) tt q)
      by false p q =
          let zero-period : period ≡ 0 = let h : period ≤ 0 = ltb-false 0 period p in omega arith in
          let place : 14 ≡ at = ap place_in q in
          subst (λ (n : ℕ). Told per least (trace_bytes (field.Start stream total period ∷ fs)) n) place
          (subst (λ (n : ℕ). Told per least (trace_bytes (field.Start stream total n ∷ fs)) 14) (sym zero-period) (period-none stream total fs (subst (λ (n : ℕ). Fits (field.Start stream total n)) zero-period fit)))

  judged-fields : (fs : List Field) (at : ℕ) → AllFit fs → judged_by (Ok tt) per least fs ≡ Err (NotARun at) → Told per least (trace_bytes fs) at
  judged-fields [] at fit e = let z : ◌≡◌ {A = ℕ} 18 19 = ap number_of e in absurd (omega arith)
  judged-fields (field.Start stream total period ∷ fs) at fit e = started stream total period fs at fit.0 fit.1 e
  judged-fields (field.Submitted a b c ∷ fs) at fit e = subst (λ (n : ℕ). Told per least (trace_bytes (field.Submitted a b c ∷ fs)) n) (ap place_in e) (no_start (field.Submitted a b c) fs (λ z. omega arith))
  judged-fields (field.Completed a b ∷ fs) at fit e = subst (λ (n : ℕ). Told per least (trace_bytes (field.Completed a b ∷ fs)) n) (ap place_in e) (no_start (field.Completed a b) fs (λ z. omega arith))
  judged-fields (field.End a ∷ fs) at fit e = subst (λ (n : ℕ). Told per least (trace_bytes (field.End a ∷ fs)) n) (ap place_in e) (no_start (field.End a) fs (λ z. omega arith))

-- a scan never says 19
pub scan-never : (fuel o x : ℕ) (s : List ℕ) → scan_from fuel o s ≡ Err (NotARun x) → ⊥
unfolding scan_from
scan-never zero o x s e = let z : ◌≡◌ {A = ℕ} 0 19 = ap number_of e in omega arith
scan-never (suc fuel) o x s e = by (eqb o (length s)) (field_at o s) (λ p q. scan-never fuel p x s q) e
  where
    by : (b : Bool) (f : Option Field) → ((p : ℕ) → scan_from fuel p s ≡ Err (NotARun x) → ⊥) → pick b (Ok tt) (scan_by f o (λ p. scan_from fuel p s)) ≡ Err (NotARun x) → ⊥
    by true f deeper q = let z : ◌≡◌ {A = ℕ} 0 19 = ap number_of q in omega arith
    by false (Some f) deeper q = deeper (o + size_of f) q
    by false None deeper q = let z : ◌≡◌ {A = ℕ} 18 19 = ap number_of q in omega arith

-- THE OFFSET OF 19
pub stops_at : (per least : ℕ) → least ≤ 32 → (s : List ℕ) (at : ℕ) → Bytes s → judges per least s ≡ Err (NotARun at) → Told per least s at
unfolding judges
stops_at per least few s at b e = by (scan_from (length s) 0 s) refl e
  where
    by : (j : Judgement) → scan_from (length s) 0 s ≡ j → judged_by j per least (fields_from (length s) 0 s) ≡ Err (NotARun at) → Told per least s at
    by (Ok u) p q =
        let k = scan-fields (length s) 0 (length s) s b (omega arith) (omega arith) p in
        subst (λ (l : List ℕ). Told per least l at) (sym k.bytes ∙ bytes_at-all s (length s) refl) (judged-fields per least few (fields_from (length s) 0 s) at k.fit q)
    by (Err (BadTrace x)) p q = let z : ◌≡◌ {A = ℕ} 18 19 = ap number_of q in absurd (omega arith)
    by (Err (NotARun x)) p q = absurd (scan-never (length s) 0 x s p)
