-- 2026-11: "The judge accepts exactly when some script and budget make document 01's turns write that very trace from its start's stream (any number), frame length and
-- period (0 is no run's), so any our writer emits."
-- Assumes nothing.
use Rattle.std.specs.Prelude.{Bool, true, false, List, [], ◌∷◌, ◌≡◌, refl, ℕ, zero, suc, ◌≤◌, ◌<◌, ltb, length, Ok, Err}
use Rattle.std.proofs.Common.{sym, ap, subst, ◌∙◌, arith, lit<, lt-ltb, ltb-true}
use Rattle.layout.specs.Bytes.{Bytes}
use Rattle.layout.specs.BytesLaws.{bytes_at-all}
use Rattle.codes.specs.Says.{guard}
use Rattle.codes.specs.SaysLaws.{picks}
use Rattle.turns.specs.Log.{played, run}
use Rattle.trace.specs.Trace.{trace_of}
use Rattle.trace.specs.Judge.{walk_of, judged_by, judges, begun}
use Rattle.trace.specs.JudgeLaws.{walk-accepts, accepts-walk}
use Rattle.trace.specs.Field.{Fits, trace_bytes, AllFit}
use Rattle.trace.specs.Fields.{scan_from, fields_from}
use Rattle.trace.specs.ScanLaws.{scan-fields, Reads, fields-scan}
use Rattle.trace.specs.Runs.{AllReal, RunOf}
use Rattle.trace.specs.FitLaws.{tale-fits}
use Rattle.trace.specs.RunLaws.{Accepts, run-writes, accepts-runs, accepted-is-run}
use Rattle.trace.specs.declared.field.Field.TheVariants as field
use Rattle.trace.specs.Types.{Reading, Field, Opening, Judgement, BadTrace, NotARun}

abbrev pub number_of : Judgement → ℕ
number_of (Ok u) = 0
number_of (Err (BadTrace at)) = 18
number_of (Err (NotARun at)) = 19

pub bad-never : (n : ℕ) → ◌≡◌ {A = Judgement} (Err (BadTrace n)) (Ok tt) → ⊥
bad-never n e = let z : ◌≡◌ {A = ℕ} 18 0 = ap number_of e in omega arith

pub not-never : (n : ℕ) → ◌≡◌ {A = Judgement} (Err (NotARun n)) (Ok tt) → ⊥
not-never n e = let z : ◌≡◌ {A = ℕ} 19 0 = ap number_of e in omega arith

-- ---- accepted fields

period-some : (t : Bool) (j : Judgement) → guard t (Err (NotARun 14)) j ≡ Ok tt → (t ≡ true) × (j ≡ Ok tt)
unfolding guard
period-some true j e = (refl, e)
period-some false j e = absurd (not-never 14 e)

starts-accepts : (per least : ℕ) (fs : List Field) → judged_by (Ok tt) per least fs ≡ Ok tt → Accepts per least fs
starts-accepts per least [] e = absurd (bad-never 0 e)
starts-accepts per least (field.Start stream total period ∷ fs) e =
    let g = period-some (ltb 0 period) (walk_of least Opening (begun per stream total period 0) 15 fs) e in
    (ltb-true 0 period g.0, walk-accepts least fs Opening (begun per stream total period 0) 15 g.1)
starts-accepts per least (field.Submitted slot offset len ∷ fs) e = absurd (not-never 0 e)
starts-accepts per least (field.Completed slot status ∷ fs) e = absurd (not-never 0 e)
starts-accepts per least (field.End answer ∷ fs) e = absurd (not-never 0 e)

accepts-starts : (per least : ℕ) (fs : List Field) → Accepts per least fs → judged_by (Ok tt) per least fs ≡ Ok tt
unfolding guard
accepts-starts per least [] a = absurd a
accepts-starts per least (field.Start stream total period ∷ fs) a =
    picks (ltb 0 period) (walk_of least Opening (begun per stream total period 0) 15 fs) (Err (NotARun 14)) (lt-ltb 0 period a.0)
    ∙ accepts-walk least fs Opening (begun per stream total period 0) 15 a.1
accepts-starts per least (field.Submitted slot offset len ∷ fs) a = absurd a
accepts-starts per least (field.Completed slot status ∷ fs) a = absurd a
accepts-starts per least (field.End answer ∷ fs) a = absurd a

scan-first : (per least : ℕ) (j : Judgement) (fs : List Field) → judged_by j per least fs ≡ Ok tt → j ≡ Ok tt
scan-first per least (Ok u) fs e = refl
scan-first per least (Err (BadTrace at)) fs e = absurd (bad-never at e)
scan-first per least (Err (NotARun at)) fs e = absurd (not-never at e)

-- ---- ACCEPTED EXACTLY WHEN A RUN WRITES IT

pub only_if : (per least : ℕ) (s : List ℕ) → Bytes s → judges per least s ≡ Ok tt → RunOf per least s
unfolding judges
only_if per least s b e =
    let n = length s in
    let fs = fields_from n 0 s in
    let ok = scan-first per least (scan_from n 0 s) fs e in
    let k = scan-fields n 0 n s b (omega arith) (omega arith) ok in
    let a = starts-accepts per least fs (ap (λ (j : Judgement). judged_by j per least fs) (sym ok) ∙ e) in
    record { trace = fs; run = accepted-is-run per least fs k.fit a; bytes = sym k.bytes ∙ bytes_at-all s n refl }

pub run_fits : (per least stream total period budget : ℕ) (script : List Reading) → 0 < budget → Fits (field.Start stream total period) → AllReal script
    → AllFit (trace_of stream total period (run played least budget (begun per stream total period budget) script).log)
run_fits per least stream total period zero script turns wide real = absurd (omega arith)
run_fits per least stream total period (suc n) script turns wide real =
    let t = begun per stream total period (suc n) in
    let low : total < 4294967296 = wide.1.0 in
    subst (λ (l : List Field). AllFit l) (sym (run-writes per least stream total period n script))
    (wide, tale-fits least (suc n) t script real (record { head = lit< tt; tail = lit< tt; total = low }))

pub if : (per least : ℕ) (s : List ℕ) → RunOf per least s → judges per least s ≡ Ok tt
unfolding judges
if per least s k =
    let r = k.run in
    let fit : AllFit k.trace = subst (λ (l : List Field). AllFit l) r.writes (run_fits per least r.stream r.total r.period r.budget r.script r.turns r.wide r.real) in
    let less : length (trace_bytes k.trace) ≤ length s = let e = ap length k.bytes in omega arith in
    let reads : Reads (length s) 0 s k.trace = subst (λ (l : List ℕ). Reads (length s) 0 l k.trace) k.bytes (fields-scan (length s) [] k.trace fit less) in
    ap (λ (j : Judgement). judged_by j per least (fields_from (length s) 0 s)) reads.scan
    ∙ ap (λ (l : List Field). judged_by (Ok tt) per least l) reads.fields
    ∙ accepts-starts per least k.trace (accepts-runs per least k.trace r)
