-- "The judge accepts exactly when some script and budget make document 01's turns write that very trace from its start's stream (any number), frame length and period
-- (0 is no run's)." Here of fields, and over the run of the rules.
-- Assumes nothing.
use Rattle.std.specs.Prelude.{List, [], ◌∷◌, ◌≡◌, refl, true, ℕ, zero, suc, ◌<◌}
use Rattle.std.proofs.Common.{sym, ap, subst, ◌∙◌, arith}
use Rattle.turns.specs.Log.{Line, Ran, onward, first_of, rest_of, loop_of, ruled, played, run}
use Rattle.trace.specs.Trace.{fields_of, trace_of}
use Rattle.trace.specs.TaleLaws.{tale, run-tale, tale-wound}
use Rattle.trace.specs.WalkLaws.{Walks, walks-wound}
use Rattle.trace.specs.CompleteLaws.{tale-walks}
use Rattle.trace.specs.SoundLaws.{sounds}
use Rattle.trace.specs.Runs.{IsRun}
use Rattle.trace.specs.Field.{AllFit}
use Rattle.trace.specs.Judge.{begun}
use Rattle.trace.specs.declared.field.Field.TheVariants as field
use Rattle.trace.specs.Types.{Track, Said, Going, Done, Ended, Refused, Reading, Field, Opening}

-- THE JUDGE: the start first, its period not 0, and fields that may follow one another
abbrev pub Accepts : ℕ → ℕ → List Field → Type 0
Accepts per least [] = ⊥
Accepts per least (field.Start stream total period ∷ fs) = (0 < period) × Walks least Opening (begun per stream total period 0) fs
Accepts per least (field.Submitted slot offset len ∷ fs) = ⊥
Accepts per least (field.Completed slot status ∷ fs) = ⊥
Accepts per least (field.End answer ∷ fs) = ⊥

-- the log of a run has a line
some-line : (stream total period : ℕ) (said : Said) (line : Line) (t : Track) (rest : Ran Track)
    → trace_of stream total period (onward said line t rest).log ≡ field.Start stream total period ∷ fields_of (onward said line t rest).log
some-line stream total period Going line t rest = refl
some-line stream total period Done line t rest = refl
some-line stream total period (Ended a) line t rest = refl
some-line stream total period (Refused r) line t rest = refl

pub run-writes : (per least stream total period n : ℕ) (script : List Reading)
    → trace_of stream total period (run played least (suc n) (begun per stream total period (suc n)) script).log ≡ field.Start stream total period ∷ tale least (suc n) (begun per stream total period (suc n)) script
unfolding loop_of
run-writes per least stream total period n script =
    let t = begun per stream total period (suc n) in
    let k = ruled played least t (first_of script) in
    some-line stream total period k.line.said k.line k.left (run played least n k.left (rest_of script))
    ∙ ap (λ (l : List Field). field.Start stream total period ∷ l) (run-tale least n t script (omega arith))

-- EVERY RUN IS ACCEPTED
runs-accepted : (per least stream total period budget : ℕ) (script : List Reading) → 0 < period → 0 < budget
    → Accepts per least (trace_of stream total period (run played least budget (begun per stream total period budget) script).log)
runs-accepted per least stream total period zero script some turns = absurd (omega arith)
runs-accepted per least stream total period (suc n) script some turns =
    let t = begun per stream total period (suc n) in
    let w : Walks least Opening (begun per stream total period 0) (tale least (suc n) t script)
    = subst (λ (X : Type 0). X) (walks-wound least (suc n) 0 true 0 Opening (begun per stream total period 0) (tale least (suc n) t script)) (tale-walks least n script t) in
    subst (λ (l : List Field). Accepts per least l) (sym (run-writes per least stream total period n script)) (some, w)

pub accepts-runs : (per least : ℕ) (trace : List Field) → IsRun per least trace → Accepts per least trace
accepts-runs per least trace r = subst (λ (l : List Field). Accepts per least l) r.writes (runs-accepted per least r.stream r.total r.period r.budget r.script r.some r.turns)

-- WHAT IS ACCEPTED IS A RUN'S
pub accepted-is-run : (per least : ℕ) (trace : List Field) → AllFit trace → Accepts per least trace → IsRun per least trace
accepted-is-run per least [] fit a = absurd a
accepted-is-run per least (field.Start stream total period ∷ fs) fit a =
    let t = begun per stream total period 0 in
    let k = (sounds least fs fit.1).opening t a.1 in
    record {
      stream = stream;
      total = total;
      period = period;
      budget = suc k.more;
      script = k.script;
      some = a.0;
      wide = fit.0;
      real = k.real;
      turns = omega arith;
      writes =
          run-writes per least stream total period k.more k.script
          ∙ ap (λ (l : List Field). field.Start stream total period ∷ l) (tale-wound least (suc k.more) (suc k.more) 0 true 0 t k.script ∙ k.same);
    }
accepted-is-run per least (field.Submitted slot offset len ∷ fs) fit a = absurd a
accepted-is-run per least (field.Completed slot status ∷ fs) fit a = absurd a
accepted-is-run per least (field.End answer ∷ fs) fit a = absurd a
