-- Demand 3 and the auditor's questions, of a start and then turns, with as much room as a submission takes.
-- Assumes nothing.
use Rattle.std.specs.Prelude.{ℕ, zero, suc, ◌+◌, ◌*◌, ◌%◌, ◌≤◌, ◌<◌, ◌≡◌, refl, List, length, get_or, take, Bool, false, None}
use Rattle.std.proofs.Common.{arith, zero-add, ap, ◌∙◌, subst, eq-eqb}
use Rattle.std.proofs.Math.Path.{sym}
use Rattle.codes.specs.SaysLaws.{passes, guarded-by}
use Rattle.codes.specs.declared.answers.Refusal.{Refusal}
use Rattle.codes.specs.declared.answers.Refusal.TheVariants.{BadLength}
use Rattle.layout.specs.All.{All}
use Rattle.turns.specs.Cut.{cut, span_of}
use Rattle.turns.specs.CutLaws.{plan-count}
use Rattle.turns.specs.AccountLaws.{played-just}
use Rattle.turns.specs.Ring.{blank_slot, most_of}
use Rattle.turns.specs.Rules.{choose_of}
use Rattle.turns.specs.RuleLaws.{Chosen, chosen}
use Rattle.turns.specs.ConsistentLaws.{Consistent, mode_small, few, few-slots}
use Rattle.turns.specs.Calls.{begun, start_call, carry, ring_after}
use Rattle.turns.specs.Script.{script_of, transferred_of, transfer_by, transfer_of}
use Rattle.turns.specs.Log.{Line, Ran, onward, waiting_by, next_of, rest_of, loop_of, Told, Judge, played, judged_of, ruled, run, called, turn_by_turn, sends, frees}
use Rattle.turns.specs.Asked.{starts, plays, Accounted, Carried, AtMost}
use Rattle.turns.specs.CaseLaws.{goes_by, onward-cases, stays}
use Rattle.turns.specs.KeepLaws.{Fit, fit_of, fit-submit, turn-after}
use Rattle.turns.specs.StaysConsistentLaws.{start-keeps}
use Rattle.turns.specs.HostLaws.{seen, RunsAs, Runs, runs_on, link, Ends, run_ends, Begins, begins, never}
use Rattle.turns.specs.OwedLaws.{host-carries, carries-at}
use Rattle.turns.specs.RunLaws.{InTime, OnlyIf, run-in-time, run-only-if, run-accounted, run-timely}
use Rattle.turns.specs.Types.{Track, Ring, Sent, Said, Going, Done, Refused, Step, Reading, Choice, Submit, Finish, Wait, Transferred}

-- ---- a loop has as many lines as fuel at most

onward-length : {A : Type 0} (fuel : ℕ) (said : Said) (line : Line) (a : A) (rest : Ran A) → length rest.log ≤ fuel → length (onward said line a rest).log ≤ suc fuel
onward-length fuel said line a rest h = onward-cases (λ (o : Ran _). length o.log ≤ suc fuel) said line a rest (λ _. omega arith) (λ _. omega arith)

pub loop-length : {A R : Type 0} (quiet : R) (turn : A → R → Told A) (fuel : ℕ) (a : A) (script : List R) → length (loop_of quiet turn fuel a script).log ≤ fuel
unfolding loop_of
loop-length quiet turn zero a script = omega arith
loop-length quiet turn (suc fuel) a script = let t = turn a (next_of quiet script) in onward-length fuel t.line.said t.line t.left _ (loop-length quiet turn fuel t.left (rest_of script))

-- ---- at most 10 are in flight, or 32

waits-most : (least : ℕ) (t : Track) (c : Choice) → Chosen least t c → t.descriptors ≤ least → Fit t → waiting_by c t ≤ most_of t.descriptors
waits-most least t Submit ch le f = few _ (fit-submit least t le ch.0 ch.1 f).placed
waits-most least t Finish ch le f = omega arith
waits-most least t Wait ch le f = few t f.placed

onward-most : (most : ℕ) (said : Said) (line : Line) (t : Track) (rest : Ran Track) → AtMost most line → (said ≡ Going → All (AtMost most) rest.log) → All (AtMost most) (onward said line t rest).log
onward-most most said line t rest h k = onward-cases (λ (o : Ran Track). All (AtMost most) o.log) said line t rest (λ e. (h, k e)) (λ _. (h, tt))

pub run-most : {capture : Bool} {R : Type 0} (j : Judge R) (least len fuel : ℕ) (t : Track) (script : List R) → t.descriptors ≤ least → RunsAs capture len t → All (AtMost (most_of t.descriptors)) (run j least fuel t script).log
unfolding loop_of
run-most j least len zero t script le r = tt
run-most j least len (suc fuel) t script le r =
    let x = next_of j.quiet script in
    let s = ruled j least t x in
    let size : s.left.descriptors ≡ t.descriptors = ap (λ (z : ℕ × ℕ × ℕ × ℕ × ℕ). z.0) (turn-after least t (judged_of j t x) (j.reading x)).0 in
    onward-most (most_of t.descriptors) s.line.said s.line s.left (run j least fuel s.left (rest_of script)) (waits-most least t (choose_of least t) (chosen least t) le (fit_of t r.consistent))
    (λ e. subst (λ (d : ℕ). All (AtMost (most_of d)) (run j least fuel s.left (rest_of script)).log) size (run-most j least len fuel s.left (rest_of script) (omega arith) (runs_on least len t _ _ le r e)))

-- ---- a start that goes on, and then turns

module _ (r : Ring) (stream period budget : ℕ) (frames : List ℕ) (script : List Reading) (began : (starts r stream period budget frames).said ≡ Going) where
  from : Begins r.track stream (length frames) period budget (start_call r.track stream (length frames) period budget)
  from = begins r.track stream (length frames) period budget began

  pub some : 0 < period
  some = from.runs.consistent.paced.some refl

  abbrev least : ℕ
  least = r.track.descriptors

  -- the loop of k turns is the run of the rules from the beginning of the transfer
  pub as-run : (k : ℕ) → seen (λ (x : Ring). x.track) (turn_by_turn (length frames) k (starts r stream period budget frames).ring script) ≡ run played least k (begun r.track stream (length frames) period budget) script
  as-run k =
      link least (length frames) k (starts r stream period budget frames).ring script (ap (λ (t : Track). t.descriptors) from.track) (subst (Runs (length frames)) (sym from.track) from.runs)
      ∙ ap (λ (t : Track). run played least k t script) from.track

  pub plays-only-if : OnlyIf stream period frames (plays r stream period budget frames script)
  plays-only-if = subst (λ (o : Ran Track). OnlyIf stream period frames o) (sym (as-run budget)) (run-only-if least stream period budget frames r.track script some)

  pub plays-in-time : (g : ℕ) → 0 < g → length (cut period frames) * g + 1 ≤ budget → InTime (length (cut period frames)) g (plays r stream period budget frames script)
  plays-in-time g pos enough =
      let n = plan-count period frames in
      subst (λ (o : Ran Track). InTime (length (cut period frames)) g o) (sym (as-run budget))
      (subst (λ (n : ℕ). InTime n g (run played least budget (begun r.track stream (length frames) period budget) script)) n
      (run-in-time played played-just (λ e. omega arith) false (length frames) least stream period (length frames) budget r.track script some g (omega (arith, (mode_small least from.runs.consistent.placed.mode).1)) pos (rw n enough)))

  pub plays-accounted : (k : ℕ) → let h = turn_by_turn (length frames) k (starts r stream period budget frames).ring script in Accounted period frames h.said h.at.track h.log
  plays-accounted k = subst (λ (o : Ran Track). Accounted period frames o.said o.at o.log) (sym (as-run k)) (run-accounted least stream period budget frames r.track script some k)

  pub plays-timely : (k i : ℕ) → let h = turn_by_turn (length frames) k (starts r stream period budget frames).ring script in length (frees (take i h.log)) ≤ length (sends (take i h.log))
  plays-timely k i = subst (λ (o : Ran Track). length (frees (take i o.log)) ≤ length (sends (take i o.log))) (sym (as-run k)) (run-timely least stream period budget frames r.track script some k i)

  pub plays-ends : (k : ℕ) → Ends k (begun r.track stream (length frames) period budget) (seen (λ (x : Ring). x.track) (turn_by_turn (length frames) k (starts r stream period budget frames).ring script))
  plays-ends k = subst (Ends k (begun r.track stream (length frames) period budget)) (sym (as-run k)) (run_ends played least (length frames) k _ script (omega arith) from.runs)

  pub plays-most : (k : ℕ) → let h = turn_by_turn (length frames) k (starts r stream period budget frames).ring script in (h.at.track.inflight ≤ most_of least) × All (AtMost (most_of least)) h.log
  plays-most k =
      let e = plays-ends k in
      let h = turn_by_turn (length frames) k (starts r stream period budget frames).ring script in
      let mode : h.at.track.descriptors ≡ least = ap (λ (z : ℕ × ℕ × ℕ × ℕ × ℕ). z.0) e.after.0 in (
        subst (λ (d : ℕ). h.at.track.inflight ≤ most_of d) mode (few _ e.consistent.placed),
        subst (λ (o : Ran Track). All (AtMost (most_of least)) o.log) (sym (as-run k)) (run-most played least (length frames) k _ script (omega arith) from.runs),
      )

  pub plays-carried : length r.slots ≡ 32 → (k : ℕ) → Carried period frames (turn_by_turn (length frames) k (starts r stream period budget frames).ring script)
  plays-carried size k i past to =
      let h = turn_by_turn (length frames) k (starts r stream period budget frames).ring script in
      let a = plays-accounted k in
      let most = few-slots _ (plays-ends k).consistent.placed in
      let sized : length (starts r stream period budget frames).ring.slots ≡ 32 = ap (λ (x : Sent). length (carry r.slots x)) from.sent ∙ size in
      ap (λ (l : List _). get_or l (i % 32) blank_slot) (host-carries (length frames) k (starts r stream period budget frames).ring script)
      ∙ simp zero-add at (carries-at 0 (λ j. j * period) (λ j. span_of period (length frames) (j * period)) (starts r stream period budget frames).ring.slots i (sends h.log) (λ j b. simp zero-add (a.order j b)) sized to (omega (arith, a.owed)))

-- ---- a transfer over a script

module _ (r : Ring) (stream period budget : ℕ) (frames bytes : List ℕ) where
  -- a script of whole readings, on a start that goes on: the loop
  pub script-plays : length bytes % 12 ≡ 0 → (starts r stream period budget frames).said ≡ Going
      → transferred_of (plays r stream period budget frames (script_of bytes)) ≡ transfer_of r stream (length frames) period budget bytes
  unfolding transfer_of
  script-plays whole began =
      passes _ _ _ (eq-eqb (length bytes % 12) 0 whole)
      (sym (ap (λ (s : Said). transfer_by s (length frames) budget (starts r stream period budget frames).ring (script_of bytes)) began))

  abbrev Begun : Step → Type 0
  Begun s = (transfer_by s.said (length frames) budget (ring_after r s) (script_of bytes)).said ≡ Done → s.said ≡ Going

  not-ok : (x : Refusal) → Refused x ≡ Done → ⊥
  not-ok x e = let z : ◌≡◌ {A = ℕ} 0 1 = cc in omega arith

  started : Begun (start_call r.track stream (length frames) period budget)
  unfolding start_call
  started =
      guarded-by Begun _ _ _
      (λ _. guarded-by Begun _ _ _
      (λ _. guarded-by Begun _ _ _ (λ _. guarded-by Begun _ _ _ (λ _ e. refl) (λ _ e. absurd (not-ok _ e))) (λ _ e. absurd (not-ok _ e)))
      (λ _ e. absurd (not-ok _ e)))
      (λ _ e. absurd (not-ok _ e))

  -- Ok comes of whole readings, a start that goes on, and a loop that says Ok
  pub script-ok : (transfer_of r stream (length frames) period budget bytes).said ≡ Done
      → ((starts r stream period budget frames).said ≡ Going) × ((plays r stream period budget frames (script_of bytes)).said ≡ Done)
  unfolding transfer_of
  script-ok =
      guarded-by (λ (d : Transferred). d.said ≡ Done → ((starts r stream period budget frames).said ≡ Going) × ((plays r stream period budget frames (script_of bytes)).said ≡ Done)) _ _ _
      (λ _ e.
      let began = started e in
      (began, sym (ap (λ (s : Said). (transfer_by s (length frames) budget (starts r stream period budget frames).ring (script_of bytes)).said) began) ∙ e))
      (λ _ e. absurd (not-ok _ e))

  script-turns : (said : Said) (x : Ring) → (transfer_by said (length frames) budget x (script_of bytes)).turns ≤ budget
  script-turns said x = goes_by (λ (d : Transferred). d.turns ≤ budget) said _ _ (λ _. loop-length None (called (length frames)) budget x (script_of bytes)) (λ _. omega arith)

  pub script-within : (transfer_of r stream (length frames) period budget bytes).turns ≤ budget
  unfolding transfer_of
  script-within = guarded-by (λ (d : Transferred). d.turns ≤ budget) _ _ _ (λ _. script-turns (starts r stream period budget frames).said (starts r stream period budget frames).ring) (λ _. omega arith)

  answers_by : (said : Said) → (starts r stream period budget frames).said ≡ said
      → (transfer_by said (length frames) budget (starts r stream period budget frames).ring (script_of bytes)).said ≡ Going → ⊥
  answers_by said e =
      goes_by (λ (d : Transferred). d.said ≡ Going → ⊥) said _ _ (λ g. (plays-ends r stream period budget frames (script_of bytes) (e ∙ g) budget).answered (omega arith)) (λ o. stays o)

  pub script-answers : (transfer_of r stream (length frames) period budget bytes).said ≡ Going → ⊥
  unfolding transfer_of
  script-answers = guarded-by (λ (d : Transferred). d.said ≡ Going → ⊥) _ _ _ (λ _. answers_by (starts r stream period budget frames).said refl) (λ _. never BadLength)

  keeps-by : Consistent r.track → (said : Said) → (starts r stream period budget frames).said ≡ said
      → Consistent (transfer_by said (length frames) budget (starts r stream period budget frames).ring (script_of bytes)).ring.track
  keeps-by c said e =
      goes_by (λ (d : Transferred). Consistent d.ring.track) said _ _ (λ g. (plays-ends r stream period budget frames (script_of bytes) (e ∙ g) budget).consistent)
      (λ _. start-keeps r.track stream (length frames) period budget c)

  -- what it leaves is consistent
  pub script-keeps : Consistent r.track → Consistent (transfer_of r stream (length frames) period budget bytes).ring.track
  unfolding transfer_of
  script-keeps c = guarded-by (λ (d : Transferred). Consistent d.ring.track) _ _ _ (λ _. keeps-by c (starts r stream period budget frames).said refl) (λ _. c)
