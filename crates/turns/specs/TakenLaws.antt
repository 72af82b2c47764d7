-- A capture's loop is the run of the rules by a capture's judgement, and what it leaves in the recording is what was accepted, joined.
-- Assumes nothing.
use Rattle.std.specs.Prelude.{ℕ, zero, suc, ◌+◌, ◌-◌, ◌*◌, ◌≤◌, ◌<◌, min, ◌≡◌, refl, ◌⊎◌, Bool, true, false, ◌||◌, not, List, [], ◌∷◌, ◌++◌, leb, eqb, length, take, Ok, Err, Some, None}
use Rattle.std.proofs.Common.{arith, sym, ap, ◌∙◌, subst, inl, inr, ⊎_elim, append-nil, length-append, length-take-le, le-leb, leb-true, eq-eqb}
use Rattle.std.proofs.lemmas.List.Edits.{sets}
use Rattle.std.proofs.Math.Seq.{length-sets}
use Rattle.codes.specs.Says.{pick}
use Rattle.codes.specs.SaysLaws.{picks, passes}
use Rattle.codes.specs.declared.answers.Refusal.TheVariants.{BadCapture}
use Rattle.layout.specs.All.{All}
use Rattle.layout.specs.StoreLaws.{sets-append}
use Rattle.turns.specs.Cut.{join}
use Rattle.turns.specs.Ring.{direct, new_track, says_said}
use Rattle.turns.specs.Rules.{choose_of, submit, sent_of, comes_to, played_of, is_oldest, judge_of, settle, hear, act, turn_of, counted_by, counted_of}
use Rattle.turns.specs.RuleLaws.{Chosen, chosen, Judged, judged}
use Rattle.turns.specs.ConsistentLaws.{both}
use Rattle.turns.specs.Calls.{refused_of, turned_of}
use Rattle.turns.specs.CaseLaws.{hear-cases, counted-cases, onward-cases}
use Rattle.turns.specs.KeepLaws.{turn-plain, turn-after}
use Rattle.turns.specs.HostLaws.{RunsAs, admits, runs_on}
use Rattle.turns.specs.AccountLaws.{Fair, FairOf, fair-of, Just, played-just, Two, more-frees}
use Rattle.turns.specs.Log.{Line, Ran, onward, waiting_by, line_of, next_of, rest_of, loop_of, Judge, judged_of, ruled, run, frees_more, frees}
use Rattle.turns.specs.Capture.{catch_of, length_good, captured_of, caught_of, reaches, accepts, payload_for, kept_more, keep_of, caught_turn, capture_call, recording_after}
use Rattle.turns.specs.CaptureLaws.{keeps-room}
use Rattle.turns.specs.Captured.{Came, nothing_came, catch_in, payload_of, captured, Taken, taking, takes, Lends, LengthGood, taken_more, taken}
use Rattle.turns.specs.Types.{Track, Sent, Heard, Said, Going, Done, Ended, Refused, Step, Reading, Choice, Submit, Finish, Wait, Outcome, Verdict, WrongSlot, Good, Bad, freed_slot}

-- ---- A CAPTURE'S JUDGEMENT

-- its faults are 2 and 17
abbrev pub TwoOrSeventeen : ℕ → Type 0
TwoOrSeventeen n = (n ≡ 2) ⊎ (n ≡ 17)

widen : (status : ℕ) (o : Outcome) → Fair Two o status → Fair TwoOrSeventeen o status
widen status (Ok tt) f = f
widen status (Err r) f = (inl f.0, f.1)

captured-by : (status : ℕ) (good : Bool) → Fair TwoOrSeventeen (pick good (played_of status) (Err BadCapture)) status
captured-by status true = widen status (played_of status) (played-just.fair (new_track direct) None status)
captured-by status false = (inr refl, λ e. omega arith)

pub captured-just : Just captured TwoOrSeventeen
unfolding captured_of
captured-just = record { fair = λ t x status. captured-by status (length_good t.period x.written); known = λ n e. e }

-- what is accepted is of a good length
fine-by : (period written status : ℕ) (good : Bool) → length_good period written ≡ good → pick good (played_of status) (Err BadCapture) ≡ Ok tt → (8 ≤ written) × (written ≤ period + 8)
fine-by period written status true g e = let b = both (leb 8 written) (leb written (period + 8)) g in (leb-true _ _ b.0, leb-true _ _ b.1)
fine-by period written status false g e = let z : ◌≡◌ {A = ℕ} 0 1 = cc in absurd (omega arith)

fine-good : (period written status : ℕ) → captured_of period written status ≡ Ok tt → (8 ≤ written) × (written ≤ period + 8)
unfolding captured_of
fine-good period written status e = fine-by period written status _ refl e

-- a completion of a good length comes to what its status does
good-plays : (period written : ℕ) (reading : Reading) → (8 ≤ written) × (written ≤ period + 8) → comes_to (captured_of period written) reading ≡ comes_to played_of reading
unfolding captured_of
good-plays period written None g = refl
good-plays period written (Some c) g =
    let e : length_good period written ≡ true = rw (le-leb 8 written g.0, le-leb written (period + 8) g.1) in
    picks (length_good period written) (played_of c.status) (Err BadCapture) e

-- ---- THE RULES DO NOT LOOK at what was accepted

abbrev pub bare : Track → Track
bare t =
    record {
      descriptors = t.descriptors;
      head = t.head;
      tail = t.tail;
      inflight = t.inflight;
      stream = t.stream;
      total = t.total;
      period = t.period;
      next = t.next;
      budget = t.budget;
      turns = t.turns;
      running = t.running;
      capture = t.capture;
      lent = t.lent;
      kept = 0;
      room = t.room;
      written = t.written;
      good = t.good;
    }

abbrev bare_step : Step → Step
bare_step s = record { track = bare s.track; sent = s.sent; heard = s.heard; said = s.said }

settle-bare : (v : Verdict) (sent : Sent) (t : Track) (slot status : ℕ) → bare_step (settle v sent t slot status) ≡ settle v sent (bare t) slot status
settle-bare WrongSlot sent t slot status = refl
settle-bare Good sent t slot status = refl
settle-bare (Bad r) sent t slot status = refl

hear-bare : (o : Outcome) (sent : Sent) (t : Track) (reading : Reading) → bare_step (hear o sent t reading) ≡ hear o sent (bare t) reading
unfolding judge_of is_oldest
hear-bare o sent t None = refl
hear-bare o sent t (Some c) = settle-bare (judge_of t c.slot o) sent t c.slot c.status

act-bare : (c : Choice) (t : Track) (o : Outcome) (reading : Reading) → bare_step (act c t o reading) ≡ act c (bare t) o reading
act-bare Submit t o reading = hear-bare o (sent_of t) (submit t) reading
act-bare Finish t o reading = refl
act-bare Wait t o reading = hear-bare o None t reading

counted-by : (said : Said) (last : Bool) (s : Step) → bare_step (counted_by said last s) ≡ counted_by said last (bare_step s)
counted-by Going true s = refl
counted-by Going false s = refl
counted-by Done last s = refl
counted-by (Ended r) last s = refl
counted-by (Refused r) last s = refl

counted-bare : (s : Step) → bare_step (counted_of s) ≡ counted_of (bare_step s)
unfolding counted_of
counted-bare s = counted-by s.said (eqb (s.track.turns + 1) s.track.budget) s

turn-bare : (least : ℕ) (t : Track) (o : Outcome) (reading : Reading) → bare_step (counted_of (turn_of least t o reading)) ≡ counted_of (turn_of least (bare t) o reading)
unfolding turn_of choose_of
turn-bare least t o reading = counted-bare (turn_of least t o reading) ∙ ap counted_of (act-bare (choose_of least t) t o reading)

waits-bare : (c : Choice) (t : Track) → waiting_by c t ≡ waiting_by c (bare t)
waits-bare Submit t = refl
waits-bare Finish t = refl
waits-bare Wait t = refl

-- ---- ONE TURN of a capture that runs, with enough bytes lent

reach : (reading : Reading) (lent need : ℕ) → need ≤ lent → reaches reading lent need ≡ true
reach None lent need h = refl
reach (Some c) lent need h = le-leb need lent h

or-true : (a b : Bool) → b ≡ true → (a || b) ≡ true
or-true true b e = refl
or-true false b e = e

quiet_of : (x : Came) → x.kind ≡ 0 → (catch_in x).reading ≡ None
unfolding catch_of
quiet_of x e = picks (eqb x.kind 0) None _ (eq-eqb _ _ e)

lends-reach : (period : ℕ) (x : Came) → Lends period x → reaches (catch_in x).reading (catch_in x).lent (min (catch_in x).written (period + 8)) ≡ true
unfolding catch_of
lends-reach period x (inl e) = ap (λ (y : Reading). reaches y (length x.bytes) (min x.written (period + 8))) (quiet_of x e)
lends-reach period x (inr h) = reach (catch_in x).reading (length x.bytes) (min x.written (period + 8)) h

-- lent enough, the call is the rules' turn and what it accepted
pub call-takes : (len : ℕ) (t : Track) (x : Came) → Lends t.period x → RunsAs true len t → caught_turn t.descriptors t (catch_in x) ≡ capture_call t len (catch_in x)
unfolding capture_call
call-takes len t x l r = passes _ _ _ (or-true (not t.running) _ (lends-reach t.period x l)) (admits true len t (λ y. refused_of y t) _ r)

-- what was accepted changes nothing else
keep-runs : (len more : ℕ) (t : Track) → t.kept + more ≤ t.lent → RunsAs true len t → RunsAs true len (kept_more more t)
keep-runs len more t h r =
    let c = r.consistent in
    record {
      consistent = record {
        placed = record { mode = c.placed.mode; head_in = c.placed.head_in; tail-in = c.placed.tail-in; room = c.placed.room; line = c.placed.line };
        paced = record { within = c.paced.within; some = c.paced.some; left = c.paced.left };
        kept = h;
        good = c.good;
      };
      running = r.running;
      direction = r.direction;
      whole = r.whole;
      lent_room = r.lent_room;
    }

-- a track that runs a capture of a period, lent a recording of a length
pub record Taking (least len period : ℕ) (a : Taken) : Type 0 where
  pub runs : RunsAs true len a.ring.track
  pub mode : a.ring.track.descriptors ≡ least
  pub each : a.ring.track.period ≡ period
  pub size : length a.recording ≡ len

-- the same line as the run of the rules, and the same track but for what was accepted; a turn that goes on leaves a capture that runs
abbrev Alike : ℕ → ℕ → ℕ → Taken → Came → Type 0
Alike least len period a x =
    ((taking a x).line ≡ (ruled captured least (bare a.ring.track) x).line)
    × (bare (taking a x).left.ring.track ≡ (ruled captured least (bare a.ring.track) x).left)
    × ((taking a x).line.said ≡ Going → Taking least len period (taking a x).left)

same_turn : (len period : ℕ) (a : Taken) (x : Came) → Lends period x → Taking a.ring.track.descriptors len period a → Alike a.ring.track.descriptors len period a x
unfolding catch_of choose_of
same_turn len period a x l k =
    let t = a.ring.track in
    let least = t.descriptors in
    let c = catch_in x in
    let o = caught_of t c in
    let s = counted_of (turn_of least t o c.reading) in
    let more = accepts o s.heard (payload_for t c) in
    let e : keep_of more s ≡ capture_call t (length a.recording) c =
    call-takes (length a.recording) t x (subst (λ (p : ℕ). Lends p x) (sym k.each) l) (subst (λ (n : ℕ). RunsAs true n t) (sym k.size) k.runs) in
    let b = turn-bare least t o c.reading in
    let moved = turn-after least t o c.reading in (
      ap (λ (y : Step). record { sent = y.sent; waiting = (taking a x).line.waiting; reading = c.reading; heard = y.heard; said = y.said }) (sym e)
          ∙ ap (λ (y : Step). record { sent = y.sent; waiting = (taking a x).line.waiting; reading = c.reading; heard = y.heard; said = y.said }) b
          ∙ ap (λ (w : ℕ). line_of w c.reading (counted_of (turn_of least (bare t) o c.reading))) (waits-bare (choose_of least t) t),
      ap (λ (y : Step). bare y.track) (sym e) ∙ ap (λ (y : Step). y.track) b,
      subst
          (λ (y : Step). y.said ≡ Going → Taking least len period (record { ring = (turned_of a.ring y).ring; recording = recording_after t y x.bytes a.recording })) e
          (λ g. record {
            runs = keep-runs len more s.track (keeps-room least t c o c.reading k.runs.consistent.kept) (runs_on least len t o c.reading (omega arith) k.runs g);
            mode = ap (λ (z : ℕ × ℕ × ℕ × ℕ × ℕ). z.0) moved.0;
            each = ap (λ (z : ℕ × ℕ × ℕ × ℕ × ℕ). z.3) moved.0 ∙ k.each;
            size = length-sets a.recording t.kept (take (s.track.kept + more - t.kept) x.bytes) ∙ k.size;
          }),
    )

-- ---- THE LINK: the capture's loop and the run of the rules by its judgement say the same

abbrev pub seen_as : Ran Taken → Ran Track
seen_as r = record { said = r.said; at = bare r.at.ring.track; log = r.log }

onward-alike : (said : Said) (line : Line) (a : Taken) (r : Ran Taken) (q : Ran Track) → (said ≡ Going → seen_as r ≡ q) → seen_as (onward said line a r) ≡ onward said line (bare a.ring.track) q
onward-alike Going line a r q h = ap (λ (x : Ran Track). onward Going line (bare a.ring.track) x) (h refl)
onward-alike Done line a r q h = refl
onward-alike (Ended x) line a r q h = refl
onward-alike (Refused x) line a r q h = refl

next-ok : (P : Came → Type 0) (script : List Came) → P nothing_came → All P script → P (next_of nothing_came script)
next-ok P [] n h = n
next-ok P (x ∷ xs) n h = h.0

rest_ok : (P : Came → Type 0) (script : List Came) → All P script → All P (rest_of script)
rest_ok P [] h = tt
rest_ok P (x ∷ xs) h = h.1

none-lends : (period : ℕ) → Lends period nothing_came
none-lends period = inl refl

pub takes_run : (least len period fuel : ℕ) (a : Taken) (script : List Came) → All (Lends period) script → Taking least len period a → seen_as (takes fuel a script) ≡ run captured least fuel (bare a.ring.track) script
unfolding loop_of
takes_run least len period zero a script l k = refl
takes_run least len period (suc fuel) a script l k =
    let x = next_of nothing_came script in
    let s = subst (λ (n : ℕ). Alike n len period a x) k.mode (same_turn len period a x (next-ok (Lends period) script (none-lends period) l) (subst (λ (n : ℕ). Taking n len period a) (sym k.mode) k)) in
    let rest : Track → Ran Track = λ b. run captured least fuel b (rest_of script) in
    let t = taking a x in
    let g = ruled captured least (bare a.ring.track) x in
    onward-alike t.line.said t.line t.left (takes fuel t.left (rest_of script)) (rest (bare t.left.ring.track))
    (λ going. takes_run least len period fuel t.left (rest_of script) (rest_ok (Lends period) script l) (s.2 going))
    ∙ ap (λ (l : Line). onward l.said l (bare t.left.ring.track) (rest (bare t.left.ring.track))) s.0
    ∙ ap (λ (b : Track). onward g.line.said g.line b (rest b)) s.1

-- ---- WITH GOOD LENGTHS a capture moves as a playback of as many bytes

pub judges-status : Judge Came
judges-status = record { quiet = nothing_came; reading = λ x. (catch_in x).reading; judge = λ t x. played_of }

pub status-just : Just judges-status Two
unfolding judges-status
status-just = record { fair = λ t x status. played-just.fair t None status; known = λ n e. inl e }

same_outcome : (t : Track) (script : List Came) → All (LengthGood t.period) script → let x = next_of nothing_came script in judged_of captured t x ≡ comes_to played_of (catch_in x).reading
unfolding catch_of
same_outcome t [] g = refl
same_outcome t (x ∷ xs) g = by g.0
  where
    by : LengthGood t.period x → comes_to (captured_of t.period x.written) (catch_in x).reading ≡ comes_to played_of (catch_in x).reading
    by (inl e) = let q = quiet_of x e in ap (comes_to (captured_of t.period x.written)) q ∙ sym (ap (comes_to played_of) q)
    by (inr h) = good-plays t.period x.written (catch_in x).reading h

pub run-alike : (least fuel : ℕ) (t : Track) (script : List Came) → All (LengthGood t.period) script → run captured least fuel t script ≡ run judges-status least fuel t script
unfolding loop_of judges-status
run-alike least zero t script g = refl
run-alike least (suc fuel) t script g =
    let x = next_of nothing_came script in
    let r = (catch_in x).reading in
    let o = same_outcome t script g in
    let s = ruled judges-status least t x in
    let same : s.left.period ≡ t.period = ap (λ (z : ℕ × ℕ × ℕ × ℕ × ℕ). z.3) (turn-after least t (comes_to played_of r) r).0 in
    ap (λ (y : Outcome). let u = counted_of (turn_of least t y r) in onward u.said (record { sent = u.sent; waiting = s.line.waiting; reading = r; heard = u.heard; said = u.said }) u.track (run captured least fuel u.track (rest_of script))) o
    ∙ ap (λ (h : Ran Track). onward s.line.said s.line s.left h) (run-alike least fuel s.left (rest_of script) (rest_ok (LengthGood s.left.period) script (subst (λ (p : ℕ). All (LengthGood p) script) (sym same) g)))

-- ---- THE RECORDING

-- what may still come fits: m periods have not gone out
pub record Roomy (most : ℕ) (t : Track) : Type 0 where
  pub left : ℕ
  pub all : t.total ≡ t.next + left * t.period
  pub room : t.kept + t.inflight * t.period + left * t.period ≤ most

one_less : (n p : ℕ) → 0 < n → (n - 1) * p + p ≡ n * p
one_less zero p h = absurd (omega arith)
one_less (suc n) p h = let e : suc n - 1 ≡ n = omega arith in rw e (omega arith)

submit-roomy : (most : ℕ) (t : Track) → 0 < t.period → t.next < t.total → Roomy most t → Roomy most (submit t)
submit-roomy most t p more r = by r.left r.all r.room
  where
    by : (m : ℕ) → t.total ≡ t.next + m * t.period → t.kept + t.inflight * t.period + m * t.period ≤ most → Roomy most (submit t)
    by zero all room = absurd (omega arith)
    by (suc m) all room = record { left = m; all = omega arith; room = omega arith }

-- what a turn accepts is at most a period
accepts-period : (o : Outcome) (heard : Heard) (payload period : ℕ) → (o ≡ Ok tt → payload ≤ period) → accepts o heard payload ≤ period
accepts-period (Ok tt) (Some f) payload period h = h refl
accepts-period (Ok tt) None payload period h = omega arith
accepts-period (Err r) heard payload period h = omega arith

silent-none : (o : Outcome) (payload : ℕ) → accepts o None payload ≡ 0
silent-none (Ok tt) payload = refl
silent-none (Err r) payload = refl

-- a completion that is fine brings at most a period
abbrev Small : Outcome → ℕ → ℕ → Reading → Type 0
Small o payload period None = Unit {0}
Small o payload period (Some c) = o ≡ Ok tt → payload ≤ period

-- after rule 2, with what it accepted
hear-roomy : (most payload : ℕ) (o : Outcome) (sent : Sent) (t : Track) (reading : Reading) → Small o payload t.period reading → Roomy most t
    → let s = hear o sent t reading in Roomy most (kept_more (accepts o s.heard payload) s.track)
hear-roomy most payload o sent t None small r = let z = silent-none o payload in record { left = r.left; all = r.all; room = omega (arith, r.room) }
hear-roomy most payload o sent t (Some c) small r =
    hear-cases (λ s. Roomy most (kept_more (accepts o s.heard payload) s.track)) sent t o (Some c)
    (λ _ _. let z = silent-none o payload in record { left = r.left; all = r.all; room = omega (arith, r.room) })
    (λ slot status _ _ some _ _.
    let n = one_less t.inflight t.period some in
    let a = accepts-period o (freed_slot slot status) payload t.period small in
    record { left = r.left; all = r.all; room = omega (arith, r.room) })

act-roomy : (least most payload : ℕ) (t : Track) (o : Outcome) (reading : Reading) (c : Choice) → Chosen least t c → 0 < t.period → Small o payload t.period reading → Roomy most t
    → let s = act c t o reading in Roomy most (kept_more (accepts o s.heard payload) s.track)
act-roomy least most payload t o reading Submit ch p small r = hear-roomy most payload o (sent_of t) (submit t) reading small (submit-roomy most t p ch.1 r)
act-roomy least most payload t o reading Finish ch p small r = let z = silent-none o payload in record { left = r.left; all = r.all; room = omega (arith, r.room) }
act-roomy least most payload t o reading Wait ch p small r = hear-roomy most payload o None t reading small r

turn-roomy : (least most payload : ℕ) (t : Track) (o : Outcome) (reading : Reading) → 0 < t.period → Small o payload t.period reading → Roomy most t
    → let s = counted_of (turn_of least t o reading) in Roomy most (kept_more (accepts o s.heard payload) s.track)
unfolding turn_of
turn-roomy least most payload t o reading p small r =
    let k = act-roomy least most payload t o reading (choose_of least t) (chosen least t) p small r in
    counted-cases (λ s. Roomy most (kept_more (accepts o s.heard payload) s.track)) (turn_of least t o reading) (turn-plain least t o reading)
    (λ _. record { left = k.left; all = k.all; room = k.room })
    (λ _ _. record { left = k.left; all = k.all; room = k.room })

-- a turn's payload is good for what it accepts, and no longer than a period
payload-by : (t : Track) (x : Came) (reading : Reading) → min x.written (t.period + 8) ≤ length x.bytes → comes_to (captured_of t.period x.written) reading ≡ Ok tt
    → (reading ≡ None) ⊎ ((x.written - 8 ≤ t.period) × (x.written ≤ length x.bytes))
payload-by t x None l e = inl refl
payload-by t x (Some c) l e = let g = fine-good t.period x.written c.status e in inr (omega arith, omega arith)

small-payload : (t : Track) (x : Came) → Lends t.period x → comes_to (captured_of t.period x.written) (catch_in x).reading ≡ Ok tt
    → ((catch_in x).reading ≡ None) ⊎ ((x.written - 8 ≤ t.period) × (x.written ≤ length x.bytes))
small-payload t x (inl k) e = inl (quiet_of x k)
small-payload t x (inr h) e = payload-by t x (catch_in x).reading h e

small_by : (period written payload : ℕ) (reading : Reading) → payload ≤ written - 8 → Small (comes_to (captured_of period written) reading) payload period reading
small_by period written payload None h = tt
small_by period written payload (Some c) h = λ e. let g = fine-good period written c.status e in omega arith

-- what a turn accepted, as bytes: the payload where it was accepted
abbrev accepted_of : Outcome → Heard → List ℕ → List ℕ
accepted_of o heard payload = join (taken_more o heard payload [])

more-joined : (o : Outcome) (heard : Heard) (payload : List ℕ) (rest : List (List ℕ)) → join (taken_more o heard payload rest) ≡ accepted_of o heard payload ++ join rest
more-joined (Ok tt) (Some f) payload rest = rw (append-nil payload)
more-joined (Ok tt) None payload rest = refl
more-joined (Err r) heard payload rest = refl

-- the first bytes of what was lent, as many as were accepted
accepted-bytes : (o : Outcome) (heard : Heard) (n m : ℕ) (bytes : List ℕ) → (o ≡ Ok tt → (slot status : ℕ) → heard ≡ freed_slot slot status → (n ≡ m) × (m ≤ length bytes))
    → (take (accepts o heard n) bytes ≡ accepted_of o heard (take m bytes)) × (accepts o heard n ≡ length (accepted_of o heard (take m bytes)))
accepted-bytes (Ok tt) (Some f) n m bytes h =
    let p = h refl f.slot f.status refl in
    (rw (append-nil (take m bytes), p.0), rw (append-nil (take m bytes)) (p.0 ∙ sym (length-take-le m bytes p.1)))
accepted-bytes (Ok tt) None n m bytes h = (refl, refl)
accepted-bytes (Err r) heard n m bytes h = (refl, refl)

-- a slot is freed only where its period was lent room
freed-room : (most : ℕ) (o : Outcome) (sent : Sent) (t : Track) (reading : Reading) → Roomy most t → (slot status : ℕ) → (hear o sent t reading).heard ≡ freed_slot slot status → t.kept + t.period ≤ most
freed-room most o sent t reading r =
    hear-cases (λ s. (slot status : ℕ) → s.heard ≡ freed_slot slot status → t.kept + t.period ≤ most) sent t o reading
    (λ _ _ slot status e. absurd (silent-freed slot status e))
    (λ _ _ _ _ some _ _ _ _ _. let n = one_less t.inflight t.period some in omega (arith, r.room))
  where
    silent-freed : (slot status : ℕ) → None ≡ freed_slot slot status → ⊥
    silent-freed slot status e = let z : ◌≡◌ {A = ℕ} 0 1 = cc in omega arith

act-freed : (least most : ℕ) (t : Track) (o : Outcome) (reading : Reading) (c : Choice) → Chosen least t c → 0 < t.period → Roomy most t → (slot status : ℕ) → (act c t o reading).heard ≡ freed_slot slot status → t.kept + t.period ≤ most
act-freed least most t o reading Submit ch p r = freed-room most o (sent_of t) (submit t) reading (submit-roomy most t p ch.1 r)
act-freed least most t o reading Finish ch p r = λ slot status e. let z : ◌≡◌ {A = ℕ} 0 1 = cc in absurd (omega arith)
act-freed least most t o reading Wait ch p r = freed-room most o None t reading r

turn-freed : (least most : ℕ) (t : Track) (o : Outcome) (reading : Reading) → 0 < t.period → Roomy most t → (slot status : ℕ) → (counted_of (turn_of least t o reading)).heard ≡ freed_slot slot status → t.kept + t.period ≤ most
unfolding turn_of
turn-freed least most t o reading p r slot status =
    let k = act-freed least most t o reading (choose_of least t) (chosen least t) p r slot status in
    counted-cases (λ s. s.heard ≡ freed_slot slot status → t.kept + t.period ≤ most) (turn_of least t o reading) (turn-plain least t o reading) (λ _. k) (λ _ _. k)

-- a quiet reading frees nothing
act-quiet : (c : Choice) (t : Track) (o : Outcome) → (act c t o None).heard ≡ None
act-quiet Submit t o = refl
act-quiet Finish t o = refl
act-quiet Wait t o = refl

turn-quiet : (least : ℕ) (t : Track) (o : Outcome) (reading : Reading) → reading ≡ None → (counted_of (turn_of least t o reading)).heard ≡ None
unfolding turn_of
turn-quiet least t o reading e =
    let k : (turn_of least t o reading).heard ≡ None = ap (λ (y : Reading). (act (choose_of least t) t o y).heard) e ∙ act-quiet (choose_of least t) t o in
    counted-cases (λ s. s.heard ≡ None) (turn_of least t o reading) (turn-plain least t o reading) (λ _. k) (λ _ _. k)

-- what a turn accepts, as bytes
abbrev got_of : ℕ → Came → Heard → List ℕ
got_of period x heard = accepted_of (comes_to (captured_of period x.written) (catch_in x).reading) heard (payload_of x)

-- the recording and the count after a step
abbrev TookBy : ℕ → ℕ → Taken → Came → Step → Type 0
TookBy most period a x y =
    (y.track.kept ≡ a.ring.track.kept + length (got_of period x y.heard))
    × (recording_after a.ring.track y x.bytes a.recording ≡ sets a.recording a.ring.track.kept (got_of period x y.heard))
    × Roomy most y.track

turn-took : (most : ℕ) (a : Taken) (x : Came) → let t = a.ring.track in 0 < t.period → most ≤ t.lent → Lends t.period x → Roomy most t → TookBy most t.period a x (caught_turn t.descriptors t (catch_in x))
unfolding catch_of
turn-took most a x some fits l r =
    let t = a.ring.track in
    let c = catch_in x in
    let o = caught_of t c in
    let s = counted_of (turn_of t.descriptors t o c.reading) in
    let kept : s.track.kept ≡ t.kept = ap (λ (z : Bool × ℕ × ℕ × ℕ × ℕ). z.2) (turn-after t.descriptors t o c.reading).2 in
    let more = accepts o s.heard (payload_for t c) in
    let exact : o ≡ Ok tt → (slot status : ℕ) → s.heard ≡ freed_slot slot status → (payload_for t c ≡ x.written - 8) × (x.written - 8 ≤ length x.bytes) =
    λ fine slot status e. by (turn-freed t.descriptors most t o c.reading some r slot status e) (small-payload t x l fine) slot status e in
    let b = accepted-bytes o s.heard (payload_for t c) (x.written - 8) x.bytes exact in
    let grown : s.track.kept + more - t.kept ≡ more = omega arith in (
      ap (λ (n : ℕ). n + more) kept ∙ ap (λ (n : ℕ). t.kept + n) b.1,
      ap (λ (n : ℕ). sets a.recording t.kept (take n x.bytes)) grown ∙ ap (sets a.recording t.kept) b.0,
      turn-roomy t.descriptors most (payload_for t c) t o c.reading some (small_by t.period x.written (payload_for t c) c.reading (omega arith)) r,
    )
  where
    by : a.ring.track.kept + a.ring.track.period ≤ most
        → (catch_in x).reading ≡ None ⊎ ((x.written - 8 ≤ a.ring.track.period) × (x.written ≤ length x.bytes))
        → (slot status : ℕ) → (counted_of (turn_of a.ring.track.descriptors a.ring.track (caught_of a.ring.track (catch_in x)) (catch_in x).reading)).heard ≡ freed_slot slot status
        → (payload_for a.ring.track (catch_in x) ≡ x.written - 8) × (x.written - 8 ≤ length x.bytes)
    by room (inl q) slot status e =
        let n = turn-quiet a.ring.track.descriptors a.ring.track (caught_of a.ring.track (catch_in x)) (catch_in x).reading q in
        let z : ◌≡◌ {A = Heard} None (freed_slot slot status) = sym n ∙ e in
        let w : ◌≡◌ {A = ℕ} 0 1 = cc in
        absurd (omega arith)
    by room (inr h) slot status e = (omega arith, omega arith)

-- ---- a completion that freed its slot was accepted, unless the turn says 2 or 17

abbrev Blameless : Said → Type 0
Blameless said = TwoOrSeventeen (says_said said).number → ⊥

abbrev ones : Outcome → Heard → ℕ
ones o heard = length (taken_more o heard [] [])

settle-counts : (sent : Sent) (t : Track) (slot status : ℕ) (o : Outcome) (v : Verdict) → Fair TwoOrSeventeen o status → Judged t slot o v
    → let s = settle v sent t slot status in Blameless s.said → ones o s.heard ≡ length (frees_more s.heard [])
settle-counts sent t slot status (Ok tt) WrongSlot f j b = refl
settle-counts sent t slot status (Err r) WrongSlot f j b = refl
settle-counts sent t slot status (Ok tt) Good f j b = refl
settle-counts sent t slot status (Err r) Good f j b = let z : ◌≡◌ {A = ℕ} 0 1 = cc in absurd (omega arith)
settle-counts sent t slot status (Ok tt) (Bad a) f j b = let z : ◌≡◌ {A = ℕ} 0 1 = cc in absurd (omega arith)
settle-counts sent t slot status (Err r) (Bad a) f j b = absurd (b (subst (λ (x : Outcome). Fair TwoOrSeventeen x status) j.2 f).0)

hear-counts : (sent : Sent) (t : Track) (o : Outcome) (reading : Reading) → FairOf TwoOrSeventeen o reading → let s = hear o sent t reading in Blameless s.said → ones o s.heard ≡ length (frees_more s.heard [])
hear-counts sent t o None f b = silent-ones o
  where
    silent-ones : (o : Outcome) → ones o None ≡ 0
    silent-ones (Ok tt) = refl
    silent-ones (Err r) = refl
hear-counts sent t o (Some c) f b = settle-counts sent t c.slot c.status o (judge_of t c.slot o) f (judged t c.slot o) b

act-counts : (c : Choice) (t : Track) (o : Outcome) (reading : Reading) → FairOf TwoOrSeventeen o reading → let s = act c t o reading in Blameless s.said → ones o s.heard ≡ length (frees_more s.heard [])
act-counts Submit t o reading f b = hear-counts (sent_of t) (submit t) o reading f b
act-counts Finish t o reading f b = silent-ones o
  where
    silent-ones : (o : Outcome) → ones o None ≡ 0
    silent-ones (Ok tt) = refl
    silent-ones (Err r) = refl
act-counts Wait t o reading f b = hear-counts None t o reading f b

-- the count of turns changes what is said to 9 alone
blameless-by : (said : Said) (last : Bool) (s : Step) → Blameless (counted_by said last s).said → Blameless said
blameless-by Going last s b = λ f. ⊎_elim (λ e. omega arith) (λ e. omega arith) f
blameless-by Done last s b = b
blameless-by (Ended r) last s b = b
blameless-by (Refused r) last s b = b

heard-by : (said : Said) (last : Bool) (s : Step) → (counted_by said last s).heard ≡ s.heard
heard-by Going true s = refl
heard-by Going false s = refl
heard-by Done last s = refl
heard-by (Ended r) last s = refl
heard-by (Refused r) last s = refl

turn-counts : (least : ℕ) (t : Track) (o : Outcome) (reading : Reading) → FairOf TwoOrSeventeen o reading → let s = counted_of (turn_of least t o reading) in Blameless s.said → ones o s.heard ≡ length (frees_more s.heard [])
unfolding turn_of counted_of
turn-counts least t o reading f b =
    let u = act (choose_of least t) t o reading in
    let last = eqb (u.track.turns + 1) u.track.budget in
    subst (λ (h : Heard). ones o h ≡ length (frees_more h [])) (sym (heard-by u.said last u)) (act-counts (choose_of least t) t o reading f (blameless-by u.said last u b))

more-taken : (o : Outcome) (heard : Heard) (payload : List ℕ) (rest : List (List ℕ)) → length (taken_more o heard payload rest) ≡ ones o heard + length rest
more-taken (Ok tt) (Some f) payload rest = omega arith
more-taken (Ok tt) None payload rest = omega arith
more-taken (Err r) heard payload rest = omega arith

-- THE RECORDING after some turns: what was accepted is joined behind what was there
pub record Filled (most period : ℕ) (a : Taken) (script : List Came) (h : Ran Taken) : Type 0 where
  pub kept : h.at.ring.track.kept ≡ a.ring.track.kept + length (join (taken period h.log script))
  pub recording : h.at.recording ≡ sets a.recording a.ring.track.kept (join (taken period h.log script))
  pub within : h.at.ring.track.kept ≤ most
  pub count : Blameless h.said → length (taken period h.log script) ≡ length (frees h.log)

caught-counts : (t : Track) (x : Came) → let s = caught_turn t.descriptors t (catch_in x) in Blameless s.said → ones (comes_to (captured_of t.period x.written) (catch_in x).reading) s.heard ≡ length (frees_more s.heard [])
unfolding catch_of
caught-counts t x = turn-counts t.descriptors t (caught_of t (catch_in x)) (catch_in x).reading (fair-of captured captured-just t x)

going-blameless : (said : Said) → said ≡ Going → Blameless said
going-blameless said e f = ⊎_elim (λ z. omega (arith, ap (λ (y : Said). (says_said y).number) e)) (λ z. omega (arith, ap (λ (y : Said). (says_said y).number) e)) f

filled_on : (most period : ℕ) (a left : Taken) (line : Line) (script : List Came) (rest : Ran Taken) → let x = next_of nothing_came script in
    let got = accepted_of (comes_to (captured_of period x.written) line.reading) line.heard (payload_of x) in
    left.ring.track.kept ≡ a.ring.track.kept + length got → left.recording ≡ sets a.recording a.ring.track.kept got
    → (Blameless rest.said → ones (comes_to (captured_of period x.written) line.reading) line.heard ≡ length (frees_more line.heard []))
    → Filled most period left (rest_of script) rest → Filled most period a script (record { said = rest.said; at = rest.at; log = line ∷ rest.log })
filled_on most period a left line script rest k e c f =
    let x = next_of nothing_came script in
    let o = comes_to (captured_of period x.written) line.reading in
    let got = accepted_of o line.heard (payload_of x) in
    let later = taken period rest.log (rest_of script) in
    let j = more-joined o line.heard (payload_of x) later in
    record {
      kept = f.kept ∙ omega (arith, k, ap length j, length-append got (join later));
      recording =
          f.recording
          ∙ ap (λ (l : List ℕ). sets l left.ring.track.kept (join later)) e
          ∙ ap (λ (n : ℕ). sets (sets a.recording a.ring.track.kept got) n (join later)) k
          ∙ sets-append a.recording a.ring.track.kept got (join later)
          ∙ ap (sets a.recording a.ring.track.kept) (sym j);
      within = f.within;
      count = λ b. omega (arith, more-taken o line.heard (payload_of x) later, c b, f.count b, more-frees line.heard (frees rest.log));
    }

pub takes-filled : (least len period most fuel : ℕ) (a : Taken) (script : List Came) → All (Lends period) script → Taking least len period a → most ≤ len → Roomy most a.ring.track → Filled most period a script (takes fuel a script)
unfolding loop_of
takes-filled least len period most zero a script l k fits r = record { kept = omega arith; recording = refl; within = omega (arith, r.room); count = λ b. refl }
takes-filled least len period most (suc fuel) a script l k fits r =
    let x = next_of nothing_came script in
    let t = a.ring.track in
    let lends : Lends t.period x = subst (λ (p : ℕ). Lends p x) (sym k.each) (next-ok (Lends period) script (none-lends period) l) in
    let some = k.runs.consistent.paced.some k.runs.running in
    let e = call-takes (length a.recording) t x lends (subst (λ (n : ℕ). RunsAs true n t) (sym k.size) k.runs) in
    let room : most ≤ t.lent = omega (arith, k.runs.whole) in
    let took : TookBy most period a x (capture_call t (length a.recording) (catch_in x)) =
    subst (TookBy most period a x) e (subst (λ (p : ℕ). TookBy most p a x (caught_turn t.descriptors t (catch_in x))) k.each (turn-took most a x some room lends r)) in
    let s = taking a x in
    let counts : Blameless s.line.said → ones (comes_to (captured_of period x.written) s.line.reading) s.line.heard ≡ length (frees_more s.line.heard []) =
    subst (λ (y : Step). Blameless y.said → ones (comes_to (captured_of period x.written) (catch_in x).reading) y.heard ≡ length (frees_more y.heard [])) e
    (subst (λ (p : ℕ). Blameless (caught_turn t.descriptors t (catch_in x)).said → ones (comes_to (captured_of p x.written) (catch_in x).reading) (caught_turn t.descriptors t (catch_in x)).heard ≡ length (frees_more (caught_turn t.descriptors t (catch_in x)).heard [])) k.each (caught-counts t x)) in
    let next = (same_turn len period a x (next-ok (Lends period) script (none-lends period) l) (subst (λ (n : ℕ). Taking n len period a) (sym k.mode) k)).2 in
    onward-cases (Filled most period a script) s.line.said s.line s.left (takes fuel s.left (rest_of script))
    (λ going. filled_on most period a s.left s.line script (takes fuel s.left (rest_of script)) took.0 took.1 (λ _. counts (going-blameless s.line.said going))
    (takes-filled t.descriptors len period most fuel s.left (rest_of script) (rest_ok (Lends period) script l) (next going) fits took.2))
    (λ _. filled_on most period a s.left s.line script (record { said = s.line.said; at = s.left; log = [] }) took.0 took.1 counts (record { kept = omega arith; recording = refl; within = omega (arith, took.2.room); count = λ b. refl }))
