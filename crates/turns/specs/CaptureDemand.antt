-- RECEIVE TURNS: DEMAND 3 of a capture, both halves, and what the recording holds however it ends (2026-09).
-- The time law and the account are playback's own, `run-in-time` and `run-through`, by another judgement of a completion.
-- Assumes nothing.
use Rattle.std.specs.Prelude.{ℕ, zero, suc, ◌+◌, ◌-◌, ◌*◌, ◌%◌, ◌≤◌, ◌<◌, ◌≡◌, refl, Bool, true, false, not, ◌&&◌, List, ◌++◌, eqb, length, take, drop, Ok, Err}
use Rattle.std.proofs.Common.{arith, zero-add, ap, sym, ◌∙◌, subst, inl, inr, ltb-true, leb-true, le-leb, lt-ltb, eq-eqb}
use Rattle.std.proofs.lemmas.Bool.{false≢true}
use Rattle.std.proofs.lemmas.List.Edits.{sets, sets-eq}
use Rattle.codes.specs.SaysLaws.{guarded-by, passes}
use Rattle.codes.specs.declared.answers.Refusal.{Refusal}
use Rattle.layout.specs.All.{All}
use Rattle.turns.specs.Cut.{join, span_of}
use Rattle.turns.specs.CutLaws.{spans, plan, spans-more, spans-done, plan-at}
use Rattle.turns.specs.Ring.{after, most_of, is_refused, says_said}
use Rattle.turns.specs.Calls.{refused_of, traced_call, turn_call, begun_as, turned_of}
use Rattle.turns.specs.Log.{Ran, run}
use Rattle.turns.specs.Asked.{NoFault, CompletesWithin, Idle, AtMost}
use Rattle.turns.specs.ConsistentLaws.{both, consistent-facts, mode_small}
use Rattle.turns.specs.CaseLaws.{plain}
use Rattle.turns.specs.StaysConsistentLaws.{begun-keeps}
use Rattle.turns.specs.HostLaws.{RunsAs, Ends, run_ends, never}
use Rattle.turns.specs.DemandLaws.{loop-length, run-most}
use Rattle.turns.specs.RefusalLaws.{Untouched, refuses, turn-answers, ring-untouched, capture-offers}
use Rattle.turns.specs.RunLaws.{InTime, Through, run-in-time, run-through}
use Rattle.turns.specs.Capture.{lends_all, capture_call, recording_after, capture_start, capture_offer}
use Rattle.turns.specs.Captured.{Came, nothing_came, captured, Taken, taking, capture_starts, captures, Lends, LengthGood, taken, Joined, Recorded}
use Rattle.turns.specs.TakenLaws.{TwoOrSeventeen, captured-just, bare, Taking, seen_as, takes_run, judges-status, status-just, run-alike, Roomy, Filled, takes-filled}
use Rattle.turns.specs.LoopLaws.{loop-prefix}
use Rattle.turns.specs.Types.{Track, Ring, Sent, Said, Going, Done, Refused, Step, Reading, Catch, sent_period}

-- ---- n whole periods are n submissions

spans-count : (n f p o s : ℕ) → 0 < p → n * p ≤ f → length (spans f p (o + n * p) o s) ≡ n
spans-count zero f p o s h b = ap length (spans-done f p (o + zero * p) o s (omega arith))
spans-count (suc n) zero p o s h b = absurd (omega arith)
spans-count (suc n) (suc f) p o s h b =
    let more = ap length (spans-more f p (o + suc n * p) o s (omega arith)) in
    let whole : span_of p (o + suc n * p) o ≡ p = omega arith in
    let same : o + suc n * p ≡ o + p + n * p = omega arith in
    let rest = spans-count n f p (o + p) (after s) h (omega arith) in
    more ∙ ap (λ (k : ℕ). suc (length (spans f p (o + suc n * p) (o + k) (after s)))) whole ∙ ap (λ (k : ℕ). suc (length (spans f p k (o + p) (after s)))) same ∙ ap suc rest

plan-whole : (n p : ℕ) → 0 < p → length (plan p (n * p)) ≡ n
plan-whole n p h = simp zero-add at (spans-count n (n * p) p 0 0 h (omega arith))

span-whole : (n p i : ℕ) → i < n → span_of p (n * p) (i * p) ≡ p
span-whole zero p i h = absurd (omega arith)
span-whole (suc n) p zero h = omega arith
span-whole (suc n) p (suc i) h = let e = span-whole n p i (omega arith) in omega arith

-- ---- THE START

-- a start that goes on has begun a capture, and the recording holds its periods
pub record Opens (t : Track) (stream periods period lent budget : ℕ) (s : Step) : Type 0 where
  pub track : s.track ≡ begun_as true lent t stream (periods * period) period budget
  pub runs : RunsAs true lent (begun_as true lent t stream (periods * period) period budget)
  pub holds : periods * period ≤ lent

pub opens : (t : Track) (stream periods period lent budget : ℕ) → (capture_start t stream periods period lent budget).said ≡ Going → Opens t stream periods period lent budget (capture_start t stream periods period lent budget)
unfolding capture_start
opens t stream periods period lent budget =
    let P : Step → Type 0 = λ s. s.said ≡ Going → Opens t stream periods period lent budget s in
    guarded-by P _ _ _
    (λ c. guarded-by P _ _ _
    (λ _. guarded-by P _ _ _
    (λ p. guarded-by P _ _ _
    (λ b. guarded-by P _ _ _
    (λ h _. record {
      track = refl;
      runs = record { consistent = begun-keeps 0 true lent t stream (periods * period) period budget (consistent-facts t c).placed.mode (ltb-true _ _ p) (ltb-true _ _ b); running = refl; direction = refl; whole = refl; lent_room = refl };
      holds = leb-true _ _ h;
    })
    (λ _ e. absurd (never _ e)))
    (λ _ e. absurd (never _ e)))
    (λ _ e. absurd (never _ e)))
    (λ _ e. absurd (never _ e)))
    (λ _ e. absurd (never _ e))

rests : (running empty : Bool) → running ≡ false → empty ≡ true → (not running && empty) ≡ true
rests running empty p q = rw (p, q)

capture-goes : (r : Ring) (stream periods period budget : ℕ) (recording : List ℕ) → Idle r → 0 < period → 0 < budget → periods * period ≤ length recording → Going ≡ (capture_starts r stream periods period budget recording).said
unfolding capture_start
capture-goes r stream periods period budget recording idle p b h =
    ap (λ (s : Step). s.said)
    (passes _ _ _ idle.consistent
    (passes _ _ _ (rests r.track.running (eqb r.track.inflight 0) idle.stopped (eq-eqb _ _ idle.empty))
    (passes _ _ _ (lt-ltb _ _ p) (passes _ _ _ (lt-ltb _ _ b) (passes _ _ _ (le-leb _ _ h) refl)))))

-- ---- of a start that goes on, and turns that are lent enough bytes

module _ (r : Ring) (stream periods period budget : ℕ) (recording : List ℕ) (script : List Came)
    (began : (capture_starts r stream periods period budget recording).said ≡ Going) (lends : All (Lends period) script) where
  from : Opens r.track stream periods period (length recording) budget (capture_start r.track stream periods period (length recording) budget)
  from = opens r.track stream periods period (length recording) budget began

  abbrev begin : Track
  begin = begun_as true (length recording) r.track stream (periods * period) period budget

  abbrev first : Taken
  first = record { ring = (capture_starts r stream periods period budget recording).ring; recording = recording }

  some : 0 < period
  some = from.runs.consistent.paced.some refl

  start-taking : Taking r.track.descriptors (length recording) period first
  start-taking =
      subst (λ (t : Track). (q : first.ring.track ≡ t) → RunsAs true (length recording) t → t.descriptors ≡ r.track.descriptors → t.period ≡ period → Taking r.track.descriptors (length recording) period first) from.track
      (λ q run mode each. record { runs = run; mode = mode; each = each; size = refl }) from.track from.runs refl refl

  as-run : seen_as (captures r stream periods period budget recording script) ≡ run captured r.track.descriptors budget begin script
  as-run =
      takes_run r.track.descriptors (length recording) period budget first script lends start-taking
      ∙ ap (λ (t : Track). run captured r.track.descriptors budget (bare t) script) from.track

  -- what the turns left in the recording
  filled : Filled (periods * period) period first script (captures r stream periods period budget recording script)
  filled =
      let roomy : Roomy (periods * period) first.ring.track = subst (Roomy (periods * period)) (sym from.track) (record { left = periods; all = omega arith; room = omega arith }) in
      takes-filled r.track.descriptors (length recording) period (periods * period) budget first script lends start-taking from.holds roomy

  -- "Accepted payloads are joined into a lent recording .. Only the recording's first accepted bytes change": however it ended
  pub recorded : Joined periods period recording script (captures r stream periods period budget recording script)
  recorded =
      let h = captures r stream periods period budget recording script in
      let f = filled in
      let zero-kept : first.ring.track.kept ≡ 0 = ap (λ (t : Track). t.kept) from.track in
      let j = join (taken period h.log script) in
      let kept : h.at.ring.track.kept ≡ length j = omega (arith, f.kept, zero-kept) in
      record {
        kept = kept;
        joined =
            f.recording
            ∙ ap (λ (n : ℕ). sets recording n j) zero-kept
            ∙ sets-eq j recording 0 (omega (arith, f.within, from.holds))
            ∙ ap (λ (n : ℕ). j ++ drop n recording) (zero-add (length j) ∙ sym kept);
        within = f.within;
      }

  -- "how long may the console sit inside" a capture? There is an answer after at most budget turns
  pub capture-answers : ((captures r stream periods period budget recording script).said ≡ Going → ⊥) × (length (captures r stream periods period budget recording script).log ≤ budget)
  capture-answers = (
    subst (λ (o : Ran Track). o.said ≡ Going → ⊥) (sym as-run) ((run_ends captured r.track.descriptors (length recording) budget begin script (omega arith) from.runs).answered (omega arith)),
    loop-length nothing_came taking budget first script,
  )

  ended : Ends budget begin (seen_as (captures r stream periods period budget recording script))
  ended = subst (Ends budget begin) (sym as-run) (run_ends captured r.track.descriptors (length recording) budget begin script (omega arith) from.runs)

  -- "the count reported is the number of turns of this definition that were run"
  pub capture-turns-counted : let h = captures r stream periods period budget recording script in h.at.ring.track.turns ≡ length h.log
  capture-turns-counted = ended.after.1 ∙ omega arith

  -- "a submission carries the stream id": the one that the ring tells
  pub capture-stream-told : (captures r stream periods period budget recording script).at.ring.track.stream ≡ stream
  capture-stream-told = ap (λ (z : ℕ × ℕ × ℕ × ℕ × ℕ). z.1) ended.after.0

  -- "At most 10 are in flight", or 32
  pub capture-most-in-flight : All (AtMost (most_of r.track.descriptors)) (captures r stream periods period budget recording script).log
  capture-most-in-flight =
      subst (λ (o : Ran Track). All (AtMost (most_of r.track.descriptors)) o.log) (sym as-run)
      (run-most captured r.track.descriptors (length recording) budget begin script (omega arith) from.runs)

  -- Ok only if all periods were submitted in order, whole ones, and each completed with 0x8000
  pub capture-only-if : (captures r stream periods period budget recording script).said ≡ Done → Recorded periods period script (captures r stream periods period budget recording script).log
  capture-only-if ok =
      let through =
      subst (λ (o : Ran Track). o.said ≡ Done → Through period (periods * period) o.log) (sym as-run)
      (run-through captured captured-just zero-is-none true (length recording) r.track.descriptors stream period (periods * period) budget r.track script some) ok in
      let n = plan-whole periods period some in
      let all = through.out in
      record {
        out = ap length all ∙ n;
        order = λ i h. rw all (plan-at period (periods * period) i some (omega arith) ∙ ap (λ (k : ℕ). sent_period (i % 32) (i * period) k) (span-whole periods period i h));
        heard = through.heard ∙ n;
        completed = λ i h. through.good i (omega (arith, through.heard));
        accepted = filled.count (λ f. zero-is-none (subst TwoOrSeventeen (ap (λ (x : Said). (says_said x).number) ok) f)) ∙ through.heard ∙ n;
        timely = through.timely;
      }
    where
      zero-is-none : TwoOrSeventeen 0 → ⊥
      zero-is-none (inl e) = omega arith
      zero-is-none (inr e) = omega arith

-- "demand 3's turn bound holds for n submitted periods .. if every written length is good": the premises of playback, and that the recording holds n periods
pub capture-in-time : (r : Ring) (stream periods period budget g : ℕ) (recording : List ℕ) (script : List Came) → Idle r → 0 < period → 0 < g → periods * g + 1 ≤ budget → periods * period ≤ length recording
    → All (Lends period) script → All (LengthGood period) script
    → let h = captures r stream periods period budget recording script in
    ((capture_starts r stream periods period budget recording).said ≡ Going)
    × (All NoFault h.log → CompletesWithin g h.log → (h.said ≡ Done) × (length h.log ≤ periods * g + 1))
capture-in-time r stream periods period budget g recording script idle some pos enough holds lends good =
    let began = sym (capture-goes r stream periods period budget recording idle some (omega arith) holds) in
    let o = opens r.track stream periods period (length recording) budget began in
    let n = plan-whole periods period some in
    let begin = begun_as true (length recording) r.track stream (periods * period) period budget in
    let least = r.track.descriptors in
    let same = as-run r stream periods period budget recording script began lends ∙ run-alike least budget begin script good in
    let bound = run-in-time judges-status status-just (λ e. omega arith) true (length recording) least stream period (periods * period) budget r.track script some g (omega (arith, (mode_small least o.runs.consistent.placed.mode).1)) pos (rw n enough) in
    (began, subst (λ (x : Ran Track). InTime periods g x) (sym same) (subst (λ (k : ℕ). InTime k g (run judges-status least budget begin script)) n bound))

-- the same, asked of the turns that were run alone: what a script holds behind them plays no part
pub capture-in-time-of-turns : (r : Ring) (stream periods period budget g : ℕ) (recording : List ℕ) (script : List Came) → Idle r → 0 < period → 0 < g
    → periods * g + 1 ≤ budget → periods * period ≤ length recording
    → let h = captures r stream periods period budget recording script in
    let heard = take (length h.log) script in
    All (Lends period) heard → All (LengthGood period) heard → All NoFault h.log → CompletesWithin g h.log → (h.said ≡ Done) × (length h.log ≤ periods * g + 1)
capture-in-time-of-turns r stream periods period budget g recording script idle some pos enough holds lends good =
    let h = captures r stream periods period budget recording script in
    let heard = take (length h.log) script in
    let first : Taken = record { ring = (capture_starts r stream periods period budget recording).ring; recording = recording } in
    subst (λ (x : Ran Taken). InTime periods g x) (loop-prefix nothing_came taking budget first script (length h.log) (omega arith))
    (capture-in-time r stream periods period budget g recording heard idle some pos enough holds lends good).1

-- ---- a capture's turn submits just what was offered, whatever it reads, if it is run; and it is refused, changing nothing, where the offer is and enough bytes are lent

pub capture-offered-is-sent : (t : Track) (len : ℕ) (sent : Sent) → capture_offer t len ≡ Ok sent → (c : Catch) → is_refused (capture_call t len c).said ≡ false
    → (capture_call t len c).sent ≡ sent
capture-offered-is-sent t len sent e c = (capture-offers t len c).is sent e

pub capture-offered-refused : (t : Track) (len : ℕ) (x : Refusal) → capture_offer t len ≡ Err x → (c : Catch) → lends_all t c ≡ true → capture_call t len c ≡ refused_of x t
capture-offered-refused t len x e c = (capture-offers t len c).refused x e

-- ---- a refusal changes neither the ring nor the recording

module _ (t : Track) (len : ℕ) where
  capture-untouched : (c : Catch) → Untouched t (capture_call t len c)
  unfolding capture_call
  capture-untouched c =
      let P : Step → Type 0 = Untouched t in
      guarded-by P _ _ _
      (λ _. guarded-by P _ _ _
      (λ _. guarded-by P _ _ _ (λ _. guarded-by P _ _ _ (λ _ x e. absurd (plain _ (turn-answers t.descriptors t _ c.reading) x e)) (λ _. refuses t _)) (λ _. refuses t _))
      (λ _. refuses t _))
      (λ _. refuses t _)

pub capture-refusal : (r : Ring) (len : ℕ) (c : Catch) (bytes recording : List ℕ) (x : Refusal) → let s = capture_call r.track len c in (turned_of r s).said ≡ Refused x
    → ((turned_of r s).ring ≡ r) × (recording_after r.track s bytes recording ≡ recording)
capture-refusal r len c bytes recording x e =
    let s = capture-untouched r.track len c in
    let same : capture_call r.track len c ≡ refused_of x r.track = s x e in
    let none : r.track.kept - r.track.kept ≡ 0 = omega arith in
    (ring-untouched r _ s x e, ap (λ (y : Step). recording_after r.track y bytes recording) same ∙ ap (λ (n : ℕ). sets recording r.track.kept (take n bytes)) none)

-- ---- A CAPTURE AND A PLAYBACK NEVER MIX: a turn of the other direction runs no turn

abbrev Refuses : Track → Step → Type 0
Refuses t s = (x : Refusal) × (s ≡ refused_of x t)

pub no_capture : (t : Track) (len : ℕ) (c : Catch) → t.capture ≡ false → Refuses t (capture_call t len c)
unfolding capture_call
no_capture t len c e =
    let P : Step → Type 0 = Refuses t in
    guarded-by P _ _ _
    (λ _. guarded-by P _ _ _
    (λ _. guarded-by P _ _ _ (λ _. guarded-by P _ _ _ (λ on. absurd (false≢true (sym e ∙ (both t.running t.capture on).1))) (λ _. (_, refl))) (λ _. (_, refl)))
    (λ _. (_, refl)))
    (λ _. (_, refl))

pub no-playback : (t : Track) (len : ℕ) (reading : Reading) → t.capture ≡ true → Refuses t (turn_call t len reading)
unfolding traced_call
no-playback t len reading e =
    let P : Step → Type 0 = Refuses t in
    guarded-by P _ _ _
    (λ _. guarded-by P _ _ _
    (λ _. guarded-by P _ _ _ (λ _. guarded-by P _ _ _ (λ on. absurd (false≢true (sym (ap not e) ∙ (both t.running (not t.capture) on).1))) (λ _. (_, refl))) (λ _. (_, refl)))
    (λ _. (_, refl)))
    (λ _. (_, refl))
