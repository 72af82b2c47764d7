-- 2 at a turn is of a completion, whose slot it freed, and carries its status.
-- Assumes nothing.
use Rattle.std.specs.Prelude.{ℕ, ◌≡◌, refl, Bool, true, false, Err, Some, None}
use Rattle.std.proofs.Common.{arith, ap, sym, ◌∙◌}
use Rattle.codes.specs.Says.{pick}
use Rattle.codes.specs.SaysLaws.{guarded-by}
use Rattle.codes.specs.Answers.{says_refusal}
use Rattle.codes.specs.declared.answers.Cause.TheVariants.{Status}
use Rattle.codes.specs.declared.answers.Refusal.{Refusal}
use Rattle.codes.specs.declared.answers.Refusal.TheVariants.{IoError, WrongToken, OutOfTurns, BadCapture}
use Rattle.turns.specs.Ring.{says_said}
use Rattle.turns.specs.Rules.{choose_of, submit, sent_of, comes_to, played_of, judge_of, settle, hear, act, turn_of, counted_by, counted_of}
use Rattle.turns.specs.RuleLaws.{Judged, judged, played-fails}
use Rattle.turns.specs.CaseLaws.{last_of}
use Rattle.turns.specs.Calls.{traced_call}
use Rattle.turns.specs.Capture.{length_good, captured_of, capture_call}
use Rattle.turns.specs.Asked.{CarriesStatus}
use Rattle.turns.specs.Types.{Track, Sent, Heard, Said, Going, Done, Ended, Refused, Step, Reading, completion, freed_slot}
use Rattle.turns.specs.Types.{Choice, Submit, Finish, Wait, Outcome, Verdict, WrongSlot, Good, Bad, Catch}

-- what says another number carries nothing
other : (said : Said) (reading : Reading) (heard : Heard) → ((says_said said).number ≡ 2 → ⊥) → CarriesStatus said reading heard
other said reading heard n c e = absurd (n (ap (λ (s : Said). (says_said s).number) e))

-- a judgement that fails with 2 carries the status, and that is not ok
abbrev Blames : ℕ → Outcome → Type 0
Blames status o = (r : Refusal) → o ≡ Err r → (says_refusal r).number ≡ 2 → (r ≡ IoError (Status status)) × (status ≡ 0x8000 → ⊥)

played-blames : (status : ℕ) → Blames status (played_of status)
played-blames status r e n = let f = played-fails status r e in (sym f.1, f.0)

captured-by : (status : ℕ) (good : Bool) → Blames status (pick good (played_of status) (Err BadCapture))
captured-by status true = played-blames status
captured-by status false = λ r e n. let same : BadCapture ≡ r = cc in absurd (omega (arith, ap (λ (x : Refusal). (says_refusal x).number) same, n))

captured-blames : (period written status : ℕ) → Blames status (captured_of period written status)
unfolding captured_of
captured-blames period written status = captured-by status (length_good period written)

settle-carries : (v : Verdict) (sent : Sent) (t : Track) (slot status : ℕ) (o : Outcome) → Blames status o → Judged t slot o v
    → let s = settle v sent t slot status in CarriesStatus s.said (completion slot status) s.heard
settle-carries WrongSlot sent t slot status o f j = other (Ended WrongToken) (completion slot status) None (λ e. omega arith)
settle-carries Good sent t slot status o f j = other Going (completion slot status) (freed_slot slot status) (λ e. omega arith)
settle-carries (Bad r) sent t slot status o f j = λ c e.
    let same : r ≡ IoError c = cc in
    let g = f r j.2 (ap (λ (x : Refusal). (says_refusal x).number) same) in
    let cause : IoError c ≡ IoError (Status status) = sym same ∙ g.0 in
    let carried : c ≡ Status status = cc in
    (refl, carried, g.1)

-- what a reading comes to, by a judgement of statuses
hear-carries : (judge : ℕ → Outcome) → ((status : ℕ) → Blames status (judge status)) → (sent : Sent) (t : Track) (reading : Reading)
    → let s = hear (comes_to judge reading) sent t reading in CarriesStatus s.said reading s.heard
hear-carries judge f sent t None = other Going None None (λ e. omega arith)
hear-carries judge f sent t (Some c) = settle-carries (judge_of t c.slot (judge c.status)) sent t c.slot c.status (judge c.status) (f c.status) (judged t c.slot (judge c.status))

act-carries : (judge : ℕ → Outcome) → ((status : ℕ) → Blames status (judge status)) → (c : Choice) (t : Track) (reading : Reading)
    → let s = act c t (comes_to judge reading) reading in CarriesStatus s.said reading s.heard
act-carries judge f Submit t reading = hear-carries judge f (sent_of t) (submit t) reading
act-carries judge f Finish t reading = other Done reading None (λ e. omega arith)
act-carries judge f Wait t reading = hear-carries judge f None t reading

counted-carries : (said : Said) (last : Bool) (s : Step) (reading : Reading) → CarriesStatus said reading s.heard
    → CarriesStatus (counted_by said last s).said reading (counted_by said last s).heard
counted-carries Going true s reading k = other (Ended OutOfTurns) reading s.heard (λ e. omega arith)
counted-carries Going false s reading k = other Going reading s.heard (λ e. omega arith)
counted-carries Done last s reading k = other Done reading s.heard (λ e. omega arith)
counted-carries (Ended r) last s reading k = k
counted-carries (Refused r) last s reading k = k

turn-carries : (judge : ℕ → Outcome) → ((status : ℕ) → Blames status (judge status)) → (least : ℕ) (t : Track) (reading : Reading)
    → let s = counted_of (turn_of least t (comes_to judge reading) reading) in CarriesStatus s.said reading s.heard
unfolding turn_of counted_of
turn-carries judge f least t reading =
    let u = act (choose_of least t) t (comes_to judge reading) reading in
    counted-carries u.said (last_of u) u reading (act-carries judge f (choose_of least t) t reading)

refused-carries : (r : Refusal) (reading : Reading) → CarriesStatus (Refused r) reading None
refused-carries r reading c e = let z : ◌≡◌ {A = ℕ} 0 1 = cc in absurd (omega arith)

pub traced-carries : (t : Track) (len room : ℕ) (reading : Reading) → let s = traced_call t len room reading in CarriesStatus s.said reading s.heard
unfolding traced_call
traced-carries t len room reading =
    let P : Step → Type 0 = λ s. CarriesStatus s.said reading s.heard in
    guarded-by P _ _ _
    (λ _. guarded-by P _ _ _
    (λ _. guarded-by P _ _ _
    (λ _. guarded-by P _ _ _ (λ _. turn-carries played_of played-blames t.descriptors t reading) (λ _. refused-carries _ reading))
    (λ _. refused-carries _ reading))
    (λ _. refused-carries _ reading))
    (λ _. refused-carries _ reading)

pub capture-carries : (t : Track) (len : ℕ) (c : Catch) → let s = capture_call t len c in CarriesStatus s.said c.reading s.heard
unfolding capture_call
capture-carries t len c =
    let P : Step → Type 0 = λ s. CarriesStatus s.said c.reading s.heard in
    let turn = turn-carries (captured_of t.period c.written) (captured-blames t.period c.written) t.descriptors t c.reading in
    guarded-by P _ _ _
    (λ _. guarded-by P _ _ _
    (λ _. guarded-by P _ _ _ (λ _. guarded-by P _ _ _ (λ _. turn) (λ _. refused-carries _ c.reading)) (λ _. refused-carries _ c.reading))
    (λ _. refused-carries _ c.reading))
    (λ _. refused-carries _ c.reading)
