-- Theorems of a submission that does not wait: what it writes, what a refusal leaves, what is Busy, when it is Full; and that set-up submits nothing.
-- Assumes nothing.
use Rattle.std.specs.Prelude.{◌≡◌, ℕ, ◌+◌, ◌%◌, ◌<◌, ◌≤◌, Bool, true, false, ◌&&◌, List, length, ◌==◌, nat_le, refl, Some, None, Result, Ok, Err}
use Rattle.std.proofs.Common.{sym, ap, ◌∙◌, subst, arith, le-leb, lt-ltb, leb-true, eqb-true, ltb-true}
use Rattle.std.proofs.lemmas.Bool.{false≢true}
use Rattle.std.proofs.lemmas.List.Edits.{sets}
use Rattle.layout.specs.Lent.{message_size}
use Rattle.codes.specs.SaysLaws.{guarded-by, passes, stops}
use Rattle.pending.specs.Table.{pending_at, none_in, lowest_in}
use Rattle.pending.specs.Places.{size_of, start_of as place_of, message_of, placed_in}
use Rattle.pending.specs.Count.{none_then}
use Rattle.pending.specs.Ledger.{mark-sized, finish-sized, put-sized}
use Rattle.turns.specs.Calls.{idle_of, start_call, start_traced, started_of}
use Rattle.turns.specs.declared.ring.Step as step
use Rattle.turns.specs.Capture.{capture_start}
use Rattle.turns.specs.Script.{transfer_of}
use Rattle.turns.specs.Consistent as ring
use Rattle.sound_core.specs.Consistent.{consistent_of, stream_ok}
use Rattle.sound_core.specs.Plan.{is_idle}
use Rattle.exchange.specs.State.{params_of, with_core}
use Rattle.exchange.specs.Tables.{sound_after}
use Rattle.exchange.specs.Xfer.{xfer_as, waiting_as, refused_step, set_up_step_with, set_up_step, start_step, done_step, start_as, start_of, start_traced_of, xfer_of, capture_of, set_up_plan}
use Rattle.exchange.specs.XferLaws.{xfer-by, set-up-kept}
use Rattle.exchange.specs.Kept.{Kept}
use Rattle.exchange.specs.Unrun as unrun
use Rattle.exchange.specs.Submit.{with_pending, places_of, refused_nb, set_up_nb, token_nb, submit_of, nb_of, nb_store, nb_message, mark_by, mark_step, finish_step}
use Rattle.exchange.specs.declared.nonblocking.NbReply.TheVariants.{Send, Token}
use Rattle.exchange.specs.Types.{Refusal, Busy, Track, Ring, Reading, Pending, Core, Idle, Sound, Effect, Nothing, FillJacks, FillStreams, FillMaps, Store, Move, NbReply, NbStep, NbEnd}

-- ---- a submission, by its ends

-- a submission that got its token: nothing runs or is owed, it is one whole period, its place is long enough, and one is free
pub record Given (s : Sound) (r : Ring) (stream n len : ℕ) : Type 0 where
  pub idle : idle_of r.track ≡ true
  pub whole : n ≡ (params_of s stream).period
  pub room : n + 4 ≤ size_of len (places_of r.track.descriptors)
  pub free : lowest_in s.pending (places_of r.track.descriptors) < places_of r.track.descriptors

-- what holds at each end holds of what it comes to
pub nb-ends : (P : NbStep → Type 0) (s : Sound) (r : Ring) (stream n len m : ℕ) → ((x : Refusal) → P (refused_nb s x))
    → (consistent_of s.core ≡ true → s.core.stage ≡ Idle → s.core.ready ≡ false → P (set_up_nb s stream))
    → (Given s r stream n len → P (token_nb s (lowest_in s.pending (places_of r.track.descriptors)))) → P (nb_of s r stream n len m)
unfolding nb_of
nb-ends P s r stream n len m a b g =
    xfer-by P (nat_le message_size m) true s r.track stream (refused_nb s) (set_up_nb s stream) (submit_of (places_of r.track.descriptors) s n len) a b
    (λ _ i. guarded-by P _ _ _
    (λ w. guarded-by P _ _ _
    (λ l. guarded-by P _ _ _
    (λ f.
    let e : n ≡ (params_of s stream).period = eqb-true _ _ w in
    let h : (params_of s stream).period + 4 ≤ size_of len (places_of r.track.descriptors) = leb-true _ _ l in
    g (record { idle = i; whole = e; room = subst (λ (k : ℕ). k + 4 ≤ size_of len (places_of r.track.descriptors)) (sym e) h; free = ltb-true _ _ f }))
    (λ _. a _)) (λ _. a _)) (λ _. a _))

-- the same of the state alone; of a completion, and of finishing
pub nb-sound : (P : Sound → Type 0) (s : Sound) (r : Ring) (stream n len m : ℕ) → P s
    → (consistent_of s.core ≡ true → s.core.stage ≡ Idle → s.core.ready ≡ false → P (with_core (set_up_plan s stream).core s)) → ((p : Pending) → P (with_pending s p)) → P (nb_of s r stream n len m).sound
nb-sound P s r stream n len m a b g = nb-ends (λ (u : NbStep). P u.sound) s r stream n len m (λ _. a) b (λ _. g _)

module _ (P : Sound → Type 0) (s : Sound) (a : P s) (g : (p : Pending) → P (with_pending s p)) where
  mark-by-sound : (reading : Reading) → P (mark_by s reading).sound
  mark-by-sound None = a
  mark-by-sound (Some c) = g _

  pub mark-sound : (reading : Reading) → P (mark_step s reading).sound
  unfolding mark_step
  mark-sound reading = guarded-by (λ (u : NbEnd). P u.sound) _ _ _ (λ _. mark-by-sound reading) (λ _. a)

  pub finish-sound : (token : ℕ) → P (finish_step s token).sound
  unfolding finish_step
  finish-sound token = guarded-by (λ (u : NbEnd). P u.sound) _ _ _ (λ _. g _) (λ _. a)

refused? : Result NbReply Refusal → Bool
refused? (Ok (Send n)) = false
refused? (Ok (Token k)) = false
refused? (Err x) = true

sent? : Result NbReply Refusal → Bool
sent? (Ok (Send n)) = true
sent? (Ok (Token k)) = false
sent? (Err x) = false

given? : Result NbReply Refusal → Bool
given? (Ok (Send n)) = false
given? (Ok (Token k)) = true
given? (Err x) = false

token-is : {j k : ℕ} → ◌≡◌ {A = Result NbReply Refusal} (Ok (Token j)) (Ok (Token k)) → j ≡ k
token-is e = cc

-- ---- THE THEOREMS

-- "no other byte of the store changes": a refused submission leaves the state, its table with it, the store and the message
pub nb-refused : (s : Sound) (r : Ring) (stream n len m : ℕ) (payload store message : List ℕ) (x : Refusal) → (nb_of s r stream n len m).reply ≡ Err x
    → ((nb_of s r stream n len m).sound ≡ s) × (nb_store (places_of r.track.descriptors) (nb_of s r stream n len m).reply stream payload store ≡ store) × (nb_message (nb_of s r stream n len m).reply s stream message ≡ message)
unfolding refused?
nb-refused s r stream n len m payload store message x =
    nb-ends (λ (u : NbStep). u.reply ≡ Err x → (u.sound ≡ s) × (nb_store (places_of r.track.descriptors) u.reply stream payload store ≡ store) × (nb_message u.reply s stream message ≡ message)) s r stream n len m
    (λ _ _. (refl, refl, refl)) (λ _ _ _ e. absurd (false≢true (ap refused? e))) (λ _ e. absurd (false≢true (ap refused? e)))

-- set-up that a submission begins takes no token and copies nothing; it waits as a transfer does, which never runs at a feed (Unrun)
pub nb-set-up-never-submits : (s : Sound) (r : Ring) (stream n len m k : ℕ) (payload store : List ℕ) → (nb_of s r stream n len m).reply ≡ Ok (Send k)
    → ((nb_of s r stream n len m).sound.pending ≡ s.pending) × (nb_store (places_of r.track.descriptors) (nb_of s r stream n len m).reply stream payload store ≡ store) × unrun.Pending false (nb_of s r stream n len m).sound.core.stage stream
unfolding sent?
nb-set-up-never-submits s r stream n len m k payload store =
    nb-ends (λ (u : NbStep). u.reply ≡ Ok (Send k) → (u.sound.pending ≡ s.pending) × (nb_store (places_of r.track.descriptors) u.reply stream payload store ≡ store) × unrun.Pending false u.sound.core.stage stream) s r stream n len m
    (λ _ e. absurd (false≢true (ap sent? e))) (λ _ _ _ _. (refl, refl, record { asks = refl; call = refl })) (λ _ e. absurd (false≢true (ap sent? e)))

-- "A submission is stream id and one whole period in one buffer .. It is copied into the lowest free of 16 equal places of a lent store, whose number is its token"; of 32 where descriptors are indirect
pub record Writes (places : ℕ) (s : Sound) (stream k period : ℕ) (payload a b : List ℕ) : Type 0 where
  pub token : k ≡ lowest_in s.pending places
  pub place : k < places
  pub whole : length payload ≡ period
  pub fits : 4 + length payload ≤ size_of (length a) places
  pub written : b ≡ sets a (place_of (length a) places k) (message_of stream payload)

pub submit-writes : (s : Sound) (r : Ring) (stream m k : ℕ) (payload store : List ℕ) → (nb_of s r stream (length payload) (length store) m).reply ≡ Ok (Token k)
    → Writes (places_of r.track.descriptors) s stream k (params_of s stream).period payload store (nb_store (places_of r.track.descriptors) (nb_of s r stream (length payload) (length store) m).reply stream payload store)
unfolding given? placed_in
submit-writes s r stream m k payload store =
    nb-ends (λ (u : NbStep). u.reply ≡ Ok (Token k) → Writes (places_of r.track.descriptors) s stream k (params_of s stream).period payload store (nb_store (places_of r.track.descriptors) u.reply stream payload store)) s r stream (length payload) (length store) m
    (λ _ e. absurd (false≢true (ap given? e))) (λ _ _ _ e. absurd (false≢true (ap given? e)))
    (λ g e.
    let z : k ≡ lowest_in s.pending (places_of r.track.descriptors) = sym (token-is e) in
    let h = g.room in
    record {
      token = z;
      place = subst (λ (j : ℕ). j < places_of r.track.descriptors) (sym z) g.free;
      whole = g.whole;
      fits = omega arith;
      written =
          sym (passes _ store _ (lt-ltb _ _ g.free) refl)
          ∙ ap (λ (j : ℕ). sets store (place_of (length store) (places_of r.track.descriptors) j) (message_of stream payload)) (sym z);
    })

-- ---- what is Busy

module _ (s : Sound) (t : Track) (stream : ℕ) (sound : (consistent_of s.core && (ring.consistent_of t && stream_ok s.core (params_of s stream) stream)) ≡ true) where
  busy-by : {A : Type 0} (capture lengths clear : Bool) (refuse : Refusal → A) (set_up : A) (go : ℕ → A) → lengths ≡ true → (is_idle s.core.stage && (idle_of t && clear)) ≡ false
      → refuse Busy ≡ xfer_as capture lengths clear s t stream refuse set_up go
  busy-by capture lengths clear refuse set_up go long taken = passes _ _ _ long (passes _ _ _ sound (stops _ _ _ taken refl))

third : (a b c : Bool) → c ≡ false → (a && (b && c)) ≡ false
third true true c e = e
third true false c e = refl
third false b c e = refl

second : (a b c : Bool) → b ≡ false → (a && (b && c)) ≡ false
second true true c e = absurd (false≢true (sym e))
second true false c e = refl
second false b c e = refl

some-by : (p : Pending) (k : ℕ) (b : Bool) → none_in p ≡ b → pending_at p k ≡ true → b ≡ false
some-by p k true e h = absurd (false≢true (sym (none_then p e k) ∙ h))
some-by p k false e h = refl

-- one token is enough, marked or not
pub some-pending : (p : Pending) (k : ℕ) → pending_at p k ≡ true → none_in p ≡ false
some-pending p k = some-by p k (none_in p) refl

-- "A blocking transfer while any is pending is Busy": a start of either direction, and a transfer over a script
module _ (s : Sound) (r : Ring) (stream len budget n : ℕ) (sound : (consistent_of s.core && (ring.consistent_of r.track && stream_ok s.core (params_of s stream) stream)) ≡ true)
    (long : message_size ≤ n) (k : ℕ) (taken : pending_at s.pending k ≡ true) where
  full : (is_idle s.core.stage && (idle_of r.track && none_in s.pending)) ≡ false
  full = third (is_idle s.core.stage) (idle_of r.track) (none_in s.pending) (some-pending s.pending k taken)

  start-as-busy : (capture : Bool) (begin : ℕ → step.Step) → refused_step s r Busy ≡ start_as capture begin s r stream n
  start-as-busy capture begin =
      busy-by s r.track stream sound capture (nat_le message_size n) (none_in s.pending) (refused_step s r) (set_up_step_with s r (waiting_as capture stream)) (λ period. start_step s r (started_of r (begin period)))
      (le-leb message_size n long) full

  pub start-busy-pending : refused_step s r Busy ≡ start_of s r stream len budget n
  unfolding start_of
  start-busy-pending = start-as-busy false (λ period. start_call r.track stream len period budget)

  pub traced-busy-pending : (room : ℕ) → refused_step s r Busy ≡ start_traced_of s r stream len budget room n
  unfolding start_traced_of
  traced-busy-pending room = start-as-busy false (λ period. start_traced r.track stream len period budget room)

  pub script-busy-pending : (script : List ℕ) → (length script % 12 == 0) ≡ true → refused_step s r Busy ≡ xfer_of s r stream len budget script n
  unfolding xfer_of
  script-busy-pending script whole =
      busy-by s r.track stream sound false (nat_le message_size n && length script % 12 == 0) (none_in s.pending) (refused_step s r) (set_up_step s r stream)
      (λ period. done_step s (transfer_of r stream len period budget script)) (rw (le-leb message_size n long, whole)) full

  pub capture-busy-pending : (periods : ℕ) → refused_step s r Busy ≡ capture_of s r stream periods len budget n
  unfolding capture_of
  capture-busy-pending periods = start-as-busy true (λ period. capture_start r.track stream periods period len budget)

-- "as is a submission while a transfer's slots are owed"
pub nb-busy-owed : (s : Sound) (r : Ring) (stream n len m : ℕ) → (consistent_of s.core && (ring.consistent_of r.track && stream_ok s.core (params_of s stream) stream)) ≡ true → message_size ≤ m
    → idle_of r.track ≡ false → refused_nb s Busy ≡ nb_of s r stream n len m
unfolding nb_of
nb-busy-owed s r stream n len m sound long taken =
    busy-by s r.track stream sound false (nat_le message_size m) true (refused_nb s) (set_up_nb s stream) (submit_of (places_of r.track.descriptors) s n len) (le-leb message_size m long)
    (second (is_idle s.core.stage) (idle_of r.track) true taken)

-- ---- they keep the invariant

with-kept : (s : Sound) (p : Pending) → Kept s → length p.tokens ≡ 32 → Kept (with_pending s p)
with-kept s p k e =
    record {
      consistent = k.consistent;
      tables = k.tables;
      params = k.params;
      lives = k.lives;
      pending = e;
      fine = k.fine;
      unset = k.unset;
      beyond = k.beyond;
      early = k.early;
    }

pub nb-kept : (s : Sound) (r : Ring) (stream n len m : ℕ) → Kept s → Kept (nb_of s r stream n len m).sound
nb-kept s r stream n len m k =
    nb-ends (λ (u : NbStep). Kept u.sound) s r stream n len m (λ _. k) (set-up-kept s stream k) (λ _. with-kept s _ k (put-sized s.pending (lowest_in s.pending (places_of r.track.descriptors)) _ ∙ k.pending))

mark-by-kept : (s : Sound) (reading : Reading) → Kept s → Kept (mark_by s reading).sound
mark-by-kept s None k = k
mark-by-kept s (Some c) k = with-kept s _ k (mark-sized s.pending c.slot c.status ∙ k.pending)

pub mark-kept : (s : Sound) (reading : Reading) → Kept s → Kept (mark_step s reading).sound
unfolding mark_step
mark-kept s reading k = guarded-by (λ (u : NbEnd). Kept u.sound) _ _ _ (λ _. mark-by-kept s reading k) (λ _. k)

pub finish-kept : (s : Sound) (token : ℕ) → Kept s → Kept (finish_step s token).sound
unfolding finish_step
finish-kept s token k = guarded-by (λ (u : NbEnd). Kept u.sound) _ _ _ (λ _. with-kept s _ k (finish-sized s.pending token ∙ k.pending)) (λ _. k)

-- ---- "Control calls go on meanwhile": calls and feeds leave the table as it is

pub effect-pending : (x : Effect) (c : Core) (s : Sound) (page : List ℕ) → (sound_after x c s page).pending ≡ s.pending
effect-pending Nothing c s page = refl
effect-pending (FillJacks n) c s page = refl
effect-pending (FillStreams n) c s page = refl
effect-pending (FillMaps n) c s page = refl
effect-pending (Store stream to) c s page = refl
effect-pending (Move stream life) c s page = refl
