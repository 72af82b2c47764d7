-- 2026-11, the judge of a foreign trace: its bytes, in each mode. `per` is the descriptors of a submission, `least` the least room that one needs; the two are one number in every ring.
-- Assumes nothing.
use Rattle.std.specs.Prelude.{◌≡◌, refl, List, [], ◌⊎◌, ℕ, ◌≤◌, length, Ok, Err}
use Rattle.std.proofs.Common.{sym, ap, subst, ◌∙◌}
use Rattle.layout.specs.Bytes.{Bytes}
use Rattle.turns.specs.Log.{Line, Ran, played, run}
use Rattle.turns.specs.Asked.{starts, plays}
use Rattle.turns.specs.HostLaws.{Runs, link, begins}
use Rattle.trace.specs.Field.{Fits, trace_bytes}
use Rattle.trace.specs.Trace.{trace_of}
use Rattle.trace.specs.Judge.{begun, judges}
use Rattle.trace.specs.Runs.{AllReal, RunOf, WholeFields, Breaks, Told}
use Rattle.trace.specs.AcceptLaws.{only_if, if}
use Rattle.trace.specs.NotARunLaws.{stops_at}
use Rattle.trace.specs.BadTraceLaws.{breaks-at, whole_by, broken-by, whole-never}
use Rattle.trace.specs.declared.field.Field.TheVariants as field
use Rattle.trace.specs.Types.{Track, Ring, Going, Reading, BadTrace, NotARun}

-- "The judge accepts exactly when some script and budget make document 01's turns write that very trace from its start's stream (any number), frame length and period (0 is no run's)"
pub accepted-is-run : (per least : ℕ) (s : List ℕ) → Bytes s → judges per least s ≡ Ok tt → RunOf per least s
accepted-is-run per least s b e = only_if per least s b e

pub runs-accepted : (per least : ℕ) (s : List ℕ) → RunOf per least s → judges per least s ≡ Ok tt
runs-accepted per least s r = if per least s r

-- "so any our writer emits": of a start that goes on and the turns after it, as a host calls them (turns: starts, plays), in the ring's own mode
pub emitted-accepted : (r : Ring) (stream period budget : ℕ) (frames : List ℕ) (script : List Reading) → (starts r stream period budget frames).said ≡ Going
    → Fits (field.Start stream (length frames) period) → AllReal script
    → judges r.track.descriptors r.track.descriptors (trace_bytes (trace_of stream (length frames) period (plays r stream period budget frames script).log)) ≡ Ok tt
emitted-accepted r stream period budget frames script going fit real =
    let n = length frames in
    let d = r.track.descriptors in
    let b = begins r.track stream n period budget going in
    let ring = (starts r stream period budget frames).ring in
    let runs : Runs n ring.track = subst (λ (t : Track). Runs n t) (sym b.track) b.runs in
    let same : (plays r stream period budget frames script).log ≡ (run played d budget (begun d stream n period budget) script).log
    = ap (λ (x : Ran Track). x.log) (link d n budget ring script (ap (λ (t : Track). t.descriptors) b.track) runs)
    ∙ ap (λ (t : Track). (run played d budget t script).log) b.track in
    runs-accepted d d _
    (record {
      trace = trace_of stream n period (plays r stream period budget frames script).log;
      run =
          record {
            stream = stream;
            total = n;
            period = period;
            budget = budget;
            script = script;
            some = b.runs.consistent.paced.some refl;
            wide = fit;
            real = real;
            turns = b.runs.consistent.paced.left refl;
            writes = ap (λ (l : List Line). trace_of stream n period l) (sym same);
          };
      bytes = refl;
    })

-- 18 "for an empty trace, an unknown tag, a wrong length or a cut field"; its offset is "the first such field's (0 if empty)": whole fields stand before it
pub bad-trace : (per least : ℕ) (s : List ℕ) (at : ℕ) → Bytes s → judges per least s ≡ Err (BadTrace at) → ((s ≡ []) × (at ≡ 0)) ⊎ Breaks s 0 at
bad-trace per least s at b e = breaks-at per least s at b e

-- 19's offset is "the first byte through which no run's trace agrees, or the length where the trace only ends early"
pub not-a-run : (per least : ℕ) → least ≤ 32 → (s : List ℕ) (at : ℕ) → Bytes s → judges per least s ≡ Err (NotARun at) → Told per least s at
not-a-run per least few s at b e = stops_at per least few s at b e

-- "18 BadTrace .., then 19 NotARun": 18 exactly where the trace is not whole fields, and 19 only of whole ones. So a judge that says 19 to a damaged trace is none
pub eighteen-if-broken : (per least : ℕ) (s : List ℕ) → Bytes s → (WholeFields s → ⊥) → (at : ℕ) × (judges per least s ≡ Err (BadTrace at))
eighteen-if-broken per least s b broken = broken-by per least s b broken

pub whole-never-eighteen : (per least : ℕ) (s : List ℕ) → WholeFields s → (at : ℕ) → judges per least s ≡ Err (BadTrace at) → ⊥
whole-never-eighteen per least s w at e = whole-never per least s w at e

pub whole-at : (per least : ℕ) (s : List ℕ) (at : ℕ) → Bytes s → judges per least s ≡ Err (NotARun at) → WholeFields s
whole-at per least s at b e = whole_by per least s b at e
