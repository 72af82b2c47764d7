-- Theorems: in a state and ring that calls left, slots and tokens are never in flight together, and never take more than 32 descriptors.
-- Assumes nothing.
use Rattle.std.specs.Prelude.{◌≡◌, ℕ, ◌+◌, ◌*◌, ◌%◌, ◌≤◌, Bool, true, false, not, ◌&&◌, ltb, ◌⊎◌, List, [], length, ◌==◌, ◌≢◌, nat_le, nat_lt, Some, None}
use Rattle.std.proofs.Math.Path.{refl, subst}
use Rattle.std.proofs.Common.{sym, ap, ◌∙◌, zero-mul, mul-zero, arith, eqb-true}
use Rattle.std.proofs.Math.Bool.{false≢true}
use Rattle.std.proofs.Math.Logic.{inl, inr}
use Rattle.layout.specs.Lent.{message_size}
use Rattle.codes.specs.Says.{pick}
use Rattle.codes.specs.SaysLaws.{guarded-by}
use Rattle.pending.specs.Table.{new_pending, none_in, count_in, lowest_in, waits, mark_of, finish_of}
use Rattle.pending.specs.TableLaws.{bound-is, waits-pending}
use Rattle.pending.specs.CallLaws.{mark-by, finish-by}
use Rattle.pending.specs.Count.{none_then, AboveFree, other, completes-above, finishes-above, few-pending}
use Rattle.turns.specs.Ring.{indirect}
use Rattle.turns.specs.Calls as calls
use Rattle.turns.specs.Calls.{idle_of, traced_call, drain_call, start_call}
use Rattle.turns.specs.Capture.{capture_call}
use Rattle.turns.specs.declared.capture.Catch.{Catch}
use Rattle.turns.specs.Script.{transfer_of}
use Rattle.turns.specs.Rules.{is_oldest}
use Rattle.turns.specs.ConsistentLaws.{both, Consistent}
use Rattle.turns.specs.declared.ring.Step as ring
use Rattle.exchange.specs.Tables.{sound_after}
use Rattle.exchange.specs.Exchange.{call_of}
use Rattle.exchange.specs.Feed.{plan_of, page_of}
use Rattle.exchange.specs.Xfer.{refused_step, set_up_step, done_step, start_of, start_traced_of, xfer_of, capture_of}
use Rattle.exchange.specs.XferLaws.{xfer-by, start-as-by, start-by, script-by, traced-by, capture-by}
use Rattle.exchange.specs.Submit.{places_of, nb_of, mark_step, mark_by, finish_step}
use Rattle.exchange.specs.SubmitLaws.{few-places}
use Rattle.exchange.specs.Submitted.{nb-ends, effect-pending}
use Rattle.exchange.specs.Reached.{Reached, fresh, called, fed, started, scripted, turned, traced, penned, captured, received, drained, submitted, marked, finished, begun, listened, logged, ran, renewed, reached-kept}
use Rattle.exchange.specs.Types.{Track, Ring, Reading, Pending, Judged, Core, Effect, Sound, XferStep, NbStep, NbEnd}

-- nothing is pending, or no transfer runs and no slot is in flight
abbrev pub Exclusive : Pending → Track → Type 0
Exclusive p t = (none_in p ≡ true) ⊎ (idle_of t ≡ true)

-- the ring was never started by itself, beside the state
abbrev pub ByCalls : {s : Sound} {r : Ring} → Reached s r → Type 0
ByCalls (fresh descriptors mode guard jacks streams maps) = Unit {0}
ByCalls (called call n h) = ByCalls h
ByCalls (fed f h) = ByCalls h
ByCalls (started stream len budget n h) = ByCalls h
ByCalls (scripted stream frames budget script n h) = ByCalls h
ByCalls (turned len room reading h) = ByCalls h
ByCalls (traced stream len budget room n h) = ByCalls h
ByCalls (penned written h) = ByCalls h
ByCalls (captured stream periods lent budget n h) = ByCalls h
ByCalls (received len c h) = ByCalls h
ByCalls (drained reading h) = ByCalls h
ByCalls (submitted stream n len m h) = ByCalls h
ByCalls (marked reading h) = ByCalls h
ByCalls (finished token h) = ByCalls h
ByCalls (begun stream len period budget h) = ⊥
ByCalls (listened stream periods period lent budget h) = ⊥
ByCalls (logged stream len period budget room h) = ⊥
ByCalls (ran stream period budget frames script h) = ⊥
ByCalls (renewed descriptors mode h) = ByCalls h

-- ---- turns of a ring where nothing runs and nothing is in flight leave it

module _ (t : Track) (idle : idle_of t ≡ true) where
  still : not t.running ≡ true
  still = (both (not t.running) (t.inflight == 0) idle).0

  running-not : t.running ≡ true → ⊥
  running-not e = false≢true (ap not (sym e) ∙ still)

  none-held : t.inflight ≡ 0
  none-held = eqb-true t.inflight 0 (both (not t.running) (t.inflight == 0) idle).1

  turn-idle : (len room : ℕ) (reading : Reading) → (traced_call t len room reading).track ≡ t
  unfolding traced_call
  turn-idle len room reading =
      let P : ring.Step → Type 0 = λ x. x.track ≡ t in
      guarded-by P _ _ _
      (λ _. guarded-by P _ _ _ (λ _. guarded-by P _ _ _ (λ _. guarded-by P _ _ _ (λ e. absurd (running-not (both t.running (not t.capture) e).0)) (λ _. refl)) (λ _. refl)) (λ _. refl))
      (λ _. refl)

  capture-idle : (len : ℕ) (c : Catch) → (capture_call t len c).track ≡ t
  unfolding capture_call
  capture-idle len c =
      let P : ring.Step → Type 0 = λ x. x.track ≡ t in
      guarded-by P _ _ _
      (λ _. guarded-by P _ _ _ (λ _. guarded-by P _ _ _ (λ _. guarded-by P _ _ _ (λ e. absurd (running-not (both t.running t.capture e).0)) (λ _. refl)) (λ _. refl)) (λ _. refl))
      (λ _. refl)

  none-oldest : (slot : ℕ) → is_oldest t slot ≢ true
  unfolding is_oldest
  none-oldest slot e = false≢true (sym (ap (λ (n : ℕ). ltb 0 n) none-held) ∙ (both (nat_lt 0 t.inflight) (slot == t.tail) e).0)

  drained-idle : (reading : Reading) → (calls.drained t reading).track ≡ t
  drained-idle None = refl
  drained-idle (Some c) = guarded-by (λ (x : ring.Step). x.track ≡ t) _ _ _ (λ e. absurd (none-oldest c.slot e)) (λ _. refl)

  drain-idle : (reading : Reading) → (drain_call t reading).track ≡ t
  unfolding drain_call
  drain-idle reading =
      let P : ring.Step → Type 0 = λ x. x.track ≡ t in
      guarded-by P _ _ _ (λ _. guarded-by P _ _ _ (λ _. refl) (λ _. drained-idle reading)) (λ _. refl)

-- ---- where nothing is pending, completions and finishing leave the table

module _ (p : Pending) (none : none_in p ≡ true) where
  none-mark : (token status : ℕ) → (mark_of p token status).table ≡ p
  none-mark token status = mark-by (λ (j : Judged). j.table ≡ p) p token status (λ e. absurd (false≢true (sym (none_then p none token) ∙ waits-pending p token e))) refl

  none-finish : (token : ℕ) → (finish_of p token).table ≡ p
  none-finish token = finish-by (λ (j : Judged). j.table ≡ p) p token (λ e. absurd (false≢true (sym (none_then p none token) ∙ e))) refl refl

-- ---- each call

module _ (s : Sound) (r : Ring) (h : Exclusive s.pending r.track) where
  abbrev t : Track
  t = r.track

  turned_by : (u : ring.Step) → (idle_of t ≡ true → u.track ≡ t) → Exclusive s.pending u.track
  turned_by u f = elim h [ inl e ↦ inl e | inr i ↦ inr (ap idle_of (f i) ∙ i) ]

  start-exclusive : (stream len budget n : ℕ) → Exclusive (start_of s r stream len budget n).sound.pending (start_of s r stream len budget n).ring.track
  unfolding start_of
  start-exclusive stream len budget n =
      start-as-by (λ (x : XferStep). Exclusive x.sound.pending x.ring.track) false (λ period. start_call t stream len period budget) s r stream n (λ _. h) (λ _ _ _. h) (λ none. inl none)

  script-exclusive : (stream len budget : ℕ) (script : List ℕ) (n : ℕ) → Exclusive (xfer_of s r stream len budget script n).sound.pending (xfer_of s r stream len budget script n).ring.track
  unfolding xfer_of
  script-exclusive stream len budget script n =
      xfer-by (λ (x : XferStep). Exclusive x.sound.pending x.ring.track) (nat_le message_size n && length script % 12 == 0) (none_in s.pending) s t stream (refused_step s r) (set_up_step s r stream)
      (λ period. done_step s (transfer_of r stream len period budget script)) (λ _. h) (λ _ _ _. h) (λ c _. inl c)

  traced-exclusive : (stream len budget room n : ℕ) → Exclusive (start_traced_of s r stream len budget room n).sound.pending (start_traced_of s r stream len budget room n).ring.track
  traced-exclusive stream len budget room n =
      traced-by (λ (x : XferStep). Exclusive x.sound.pending x.ring.track) s r stream len budget room n (λ _. h) (λ _ _ _. h) (λ none. inl none)

  capture-exclusive : (stream periods lent budget n : ℕ) → Exclusive (capture_of s r stream periods lent budget n).sound.pending (capture_of s r stream periods lent budget n).ring.track
  capture-exclusive stream periods lent budget n =
      capture-by (λ (x : XferStep). Exclusive x.sound.pending x.ring.track) s r stream periods lent budget n (λ _. h) (λ _ _ _. h) (λ none. inl none)

  nb-exclusive : (stream n len m : ℕ) → Exclusive (nb_of s r stream n len m).sound.pending t
  nb-exclusive stream n len m = nb-ends (λ (u : NbStep). Exclusive u.sound.pending t) s r stream n len m (λ _. h) (λ _ _ _. h) (λ g. inr g.idle)

  mark-by-exclusive : (reading : Reading) → Exclusive (mark_by s reading).sound.pending t
  mark-by-exclusive None = h
  mark-by-exclusive (Some c) = elim h [ inl e ↦ inl (ap none_in (none-mark s.pending e c.slot c.status) ∙ e) | inr i ↦ inr i ]

  mark-exclusive : (reading : Reading) → Exclusive (mark_step s reading).sound.pending t
  unfolding mark_step
  mark-exclusive reading = guarded-by (λ (u : NbEnd). Exclusive u.sound.pending t) _ _ _ (λ _. mark-by-exclusive reading) (λ _. h)

  finish-exclusive : (token : ℕ) → Exclusive (finish_step s token).sound.pending t
  unfolding finish_step
  finish-exclusive token = guarded-by (λ (u : NbEnd). Exclusive u.sound.pending t) _ _ _ (λ _. elim h [ inl e ↦ inl (ap none_in (none-finish s.pending e token) ∙ e) | inr i ↦ inr i ]) (λ _. h)

  effect-exclusive : (x : Effect) (c : Core) (page : List ℕ) → Exclusive (sound_after x c s page).pending t
  effect-exclusive x c page = subst (λ (p : Pending). Exclusive p t) (sym (effect-pending x c s page)) h

-- THE THEOREM. "A blocking transfer while any is pending is Busy, as is a submission while a transfer's slots are owed"
pub exclusive : {s : Sound} {r : Ring} (h : Reached s r) → ByCalls h → Exclusive s.pending r.track
exclusive (fresh descriptors mode guard jacks streams maps) b = inl refl
exclusive (called {s} {r} call n h) b = effect-exclusive s r (exclusive h b) (call_of s r.track call n).effect (call_of s r.track call n).core []
exclusive (fed {s} {r} f h) b = effect-exclusive s r (exclusive h b) (plan_of s f).effect (plan_of s f).core (page_of f)
exclusive (started {s} {r} stream len budget n h) b = start-exclusive s r (exclusive h b) stream len budget n
exclusive (scripted {s} {r} stream frames budget script n h) b = script-exclusive s r (exclusive h b) stream (length frames) budget script n
exclusive (turned {s} {r} len room reading h) b = turned_by s r (exclusive h b) (traced_call r.track len room reading) (λ i. turn-idle r.track i len room reading)
exclusive (traced {s} {r} stream len budget room n h) b = traced-exclusive s r (exclusive h b) stream len budget room n
exclusive (penned written h) b = exclusive h b
exclusive (captured {s} {r} stream periods lent budget n h) b = capture-exclusive s r (exclusive h b) stream periods lent budget n
exclusive (received {s} {r} len c h) b = turned_by s r (exclusive h b) (capture_call r.track len c) (λ i. capture-idle r.track i len c)
exclusive (drained {s} {r} reading h) b = turned_by s r (exclusive h b) (drain_call r.track reading) (λ i. drain-idle r.track i reading)
exclusive (submitted {s} {r} stream n len m h) b = nb-exclusive s r (exclusive h b) stream n len m
exclusive (marked {s} {r} reading h) b = mark-exclusive s r (exclusive h b) reading
exclusive (finished {s} {r} token h) b = finish-exclusive s r (exclusive h b) token
exclusive (begun stream len period budget h) b = absurd b
exclusive (listened stream periods period lent budget h) b = absurd b
exclusive (logged stream len period budget room h) b = absurd b
exclusive (ran stream period budget frames script h) b = absurd b
exclusive (renewed descriptors mode h) b = inr refl

-- ---- tokens past the places stay free, where every submission was handed a ring with so many

abbrev pub Placed : {s : Sound} {r : Ring} → ℕ → Reached s r → Type 0
Placed n (fresh descriptors mode guard jacks streams maps) = Unit {0}
Placed n (called call k h) = Placed n h
Placed n (fed f h) = Placed n h
Placed n (started stream len budget k h) = Placed n h
Placed n (scripted stream frames budget script k h) = Placed n h
Placed n (turned len room reading h) = Placed n h
Placed n (traced stream len budget room k h) = Placed n h
Placed n (penned written h) = Placed n h
Placed n (captured stream periods lent budget k h) = Placed n h
Placed n (received len c h) = Placed n h
Placed n (drained reading h) = Placed n h
Placed n (submitted {r} stream k len m h) = (places_of r.track.descriptors ≡ n) × Placed n h
Placed n (marked reading h) = Placed n h
Placed n (finished token h) = Placed n h
Placed n (begun stream len period budget h) = Placed n h
Placed n (listened stream periods period lent budget h) = Placed n h
Placed n (logged stream len period budget room h) = Placed n h
Placed n (ran stream period budget frames script h) = Placed n h
Placed n (renewed descriptors mode h) = Placed n h

module _ (places : ℕ) where
  abbrev Above : Sound → Type 0
  Above s = AboveFree places s.pending

  above-by : (s : Sound) (reading : Reading) → Above s → Above (mark_by s reading).sound
  above-by s None a = a
  above-by s (Some c) a = completes-above places s.pending a c.slot c.status

  pub above : {s : Sound} {r : Ring} (h : Reached s r) → Placed places h → AboveFree places s.pending
  unfolding mark_step finish_step
  above (fresh descriptors mode guard jacks streams maps) p = λ k _. none_then new_pending refl k
  above (called {s} {r} call n h) p = subst (AboveFree places) (sym (effect-pending (call_of s r.track call n).effect (call_of s r.track call n).core s [])) (above h p)
  above (fed {s} f h) p = subst (AboveFree places) (sym (effect-pending (plan_of s f).effect (plan_of s f).core s (page_of f))) (above h p)
  above (started {s} {r} stream len budget n h) p = start-by (λ (x : XferStep). Above x.sound) s r stream len budget n (λ _. above h p) (λ _ _ _. above h p) (above h p)
  above (scripted {s} {r} stream frames budget script n h) p = script-by (λ (x : XferStep). Above x.sound) s r stream (length frames) budget n (λ _. above h p) (λ _ _ _. above h p) script (above h p)
  above (turned len room reading h) p = above h p
  above (traced {s} {r} stream len budget room n h) p = traced-by (λ (x : XferStep). Above x.sound) s r stream len budget room n (λ _. above h p) (λ _ _ _. above h p) (λ _. above h p)
  above (penned written h) p = above h p
  above (captured {s} {r} stream periods lent budget n h) p = capture-by (λ (x : XferStep). Above x.sound) s r stream periods lent budget n (λ _. above h p) (λ _ _ _. above h p) (λ _. above h p)
  above (received len c h) p = above h p
  above (drained reading h) p = above h p
  above (submitted {s} {r} stream n len m h) p =
      nb-ends (λ (u : NbStep). Above u.sound) s r stream n len m (λ _. above h p.1) (λ _ _ _. above h p.1)
      (λ g. other places s.pending (above h p.1) (lowest_in s.pending (places_of r.track.descriptors)) waits (omega (arith, g.free, p.0)))
  above (marked {s} reading h) p = guarded-by (λ (u : NbEnd). Above u.sound) _ _ _ (λ _. above-by s reading (above h p)) (λ _. above h p)
  above (finished {s} token h) p = guarded-by (λ (u : NbEnd). Above u.sound) _ _ _ (λ _. finishes-above places s.pending (above h p) token) (λ _. above h p)
  above (begun stream len period budget h) p = above h p
  above (listened stream periods period lent budget h) p = above h p
  above (logged stream len period budget room h) p = above h p
  above (ran stream period budget frames script h) p = above h p
  above (renewed descriptors mode h) p = above h p

  -- no more than so many are pending
  pub few-tokens : {s : Sound} {r : Ring} (h : Reached s r) → places ≤ 32 → Placed places h → count_in s.pending ≤ places
  few-tokens {s} h small p =
      let b = bound-is places small in
      subst (λ (n : ℕ). count_in s.pending ≤ n) b (few-pending s.pending places (reached-kept h).0.pending (subst (λ (n : ℕ). AboveFree n s.pending) (sym b) (above h p)))

-- "A submission is .. two descriptors", and one where they are indirect (2026-14)
unfoldable pub taken_of : ℕ → ℕ
taken_of descriptors = pick (descriptors == indirect) 1 2

taken-by : (b : Bool) (n : ℕ) → n ≤ pick b 32 16 → pick b 1 2 * n ≤ 32
taken-by true n h = omega arith
taken-by false n h = omega arith

-- with those of the slots in flight there are never more than 32, where every submission was handed a ring of one mode
descriptors-by : (d : ℕ) (p : Pending) (u : Track) → Exclusive p u → Consistent u → count_in p ≤ places_of d → u.inflight * u.descriptors + taken_of d * count_in p ≤ 32
unfolding places_of taken_of
descriptors-by d p u x c few =
    elim x [
      | inl e ↦ (let z : count_in p ≡ 0 = eqb-true _ _ e in let y : taken_of d * count_in p ≡ 0 = ap (λ (n : ℕ). taken_of d * n) z ∙ mul-zero (taken_of d) in let m = c.placed.room in omega (arith, y, m))
      | inr i ↦ (let z : u.inflight * u.descriptors ≡ 0 = ap (λ (n : ℕ). n * u.descriptors) (none-held u i) ∙ zero-mul u.descriptors in omega (arith, z, taken-by (d == indirect) (count_in p) few))
    ]

pub descriptors : {s : Sound} {r : Ring} (h : Reached s r) → ByCalls h → (d : ℕ) → Placed (places_of d) h → r.track.inflight * r.track.descriptors + taken_of d * count_in s.pending ≤ 32
descriptors {s} {r} h b d p = descriptors-by d s.pending r.track (exclusive h b) (reached-kept h).1 (few-tokens (places_of d) h (few-places d) p)
