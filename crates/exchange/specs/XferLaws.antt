-- The start of a transfer and a transfer over a script keep the invariant; and under demand 3's premises every check is passed.
-- Assumes nothing.
use Rattle.std.specs.Prelude.{◌≡◌, ℕ, ◌%◌, ◌≤◌, Bool, true, false, not, ◌&&◌, ◌||◌, ltb, List, [], length, ◌==◌, ◌≢◌, nat_le, nat_lt}
use Rattle.std.proofs.Math.Path.{refl}
use Rattle.std.proofs.Common.{ap, le-leb, ltb-false, eqb-true, eq-eqb, ne_eqb}
use Rattle.layout.specs.Lent.{message_size}
use Rattle.codes.specs.Says.{guard}
use Rattle.codes.specs.SaysLaws.{guarded-by, passes}
use Rattle.codes.specs.Life.{takes_of}
use Rattle.turns.specs.Calls.{idle_of, start_call, start_traced, started_of}
use Rattle.turns.specs.Capture.{capture_start}
use Rattle.turns.specs.Script.{transfer_of}
use Rattle.sound_core.specs.GateLaws.{faces, faced-by}
use Rattle.turns.specs.Consistent as ring
use Rattle.turns.specs.declared.ring.Step as step
use Rattle.turns.specs.ConsistentLaws.{both}
use Rattle.pending.specs.Table.{none_in}
use Rattle.exchange.specs.State.{params_of, life_of, pcm_of, with_core}
use Rattle.sound_core.specs.Consistent.{call_ok, numbers_ok, period_ok, params_ok, consistent_of, stream_ok, held_to}
use Rattle.exchange.specs.ConsistentLaws.{both_of, either-of, Paced, period-facts}
use Rattle.sound_core.specs.Plan.{is_idle}
use Rattle.exchange.specs.PlanLaws.{idle-is}
use Rattle.exchange.specs.Xfer.{xfer_as, xfer_by, waiting_as, set_up_with, set_up_plan, refused_step, set_up_step_with, set_up_step, start_step, done_step, start_as, start_of, start_traced_of, xfer_of, capture_of}
use Rattle.exchange.specs.Kept.{Kept, Playable}
use Rattle.exchange.specs.FineLaws.{ask-fine}
use Rattle.exchange.specs.KeptLaws.{step_kept}
use Rattle.exchange.specs.Types.{NoStatus, Refusal, InvalidParam, IoError, Track, Ring, Params, Call, Xfer, Capture, Idle, Sound, XferStep}

-- what holds of each end of the checks holds of what they come to
pub xfer-as-by : {A : Type 0} (P : A → Type 0) (capture lengths clear : Bool) (s : Sound) (t : Track) (stream : ℕ) (refuse : Refusal → A) (set_up : A) (go : ℕ → A) →
    ((x : Refusal) → P (refuse x)) → (consistent_of s.core ≡ true → s.core.stage ≡ Idle → s.core.ready ≡ false → P set_up)
    → (clear ≡ true → idle_of t ≡ true → P (go (params_of s stream).period)) → P (xfer_as capture lengths clear s t stream refuse set_up go)
xfer-as-by P capture lengths clear s t stream refuse set_up go a b g =
    guarded-by P _ _ _
    (λ _. guarded-by P _ _ _
    (λ ok. guarded-by P _ _ _
    (λ free. guarded-by P _ _ _
    (λ _. guarded-by P _ _ _
    (λ _. guarded-by P _ _ _
    (λ _. faced-by P capture (pcm_of s stream).direction (refuse InvalidParam) (guard (not ((params_of s stream).known == 0)) (refuse (IoError NoStatus)) (go (params_of s stream).period))
    (λ _. guarded-by P _ _ _ (λ _. let f = both (idle_of t) clear (both (is_idle s.core.stage) (idle_of t && clear) free).1 in g f.1 f.0) (λ _. a _))
    (a InvalidParam)) (λ _. a _)) (λ _. a _))
    (λ r.
    let e = (both (consistent_of s.core) (ring.consistent_of t && stream_ok s.core (params_of s stream) stream) ok).0 in
    let i = idle-is s.core.stage (both (is_idle s.core.stage) (idle_of t && clear) free).0 in
    b e i r))
    (λ _. a _))
    (λ _. a _))
    (λ _. a _)

pub xfer-by : {A : Type 0} (P : A → Type 0) (lengths clear : Bool) (s : Sound) (t : Track) (stream : ℕ) (refuse : Refusal → A) (set_up : A) (go : ℕ → A) →
    ((x : Refusal) → P (refuse x)) → (consistent_of s.core ≡ true → s.core.stage ≡ Idle → s.core.ready ≡ false → P set_up)
    → (clear ≡ true → idle_of t ≡ true → P (go (params_of s stream).period)) → P (xfer_by lengths clear s t stream refuse set_up go)
xfer-by P lengths clear s t stream refuse set_up go a b g = xfer-as-by P false lengths clear s t stream refuse set_up go a b g

-- the same of the start of any transfer
pub start-as-by : (P : XferStep → Type 0) (capture : Bool) (begin : ℕ → step.Step) (s : Sound) (r : Ring) (stream n : ℕ) → ((x : Refusal) → P (refused_step s r x))
    → (consistent_of s.core ≡ true → s.core.stage ≡ Idle → s.core.ready ≡ false → P (set_up_step_with s r (waiting_as capture stream)))
    → (none_in s.pending ≡ true → P (start_step s r (started_of r (begin (params_of s stream).period)))) → P (start_as capture begin s r stream n)
start-as-by P capture begin s r stream n a b g =
    xfer-as-by P capture (nat_le message_size n) (none_in s.pending) s r.track stream (refused_step s r) (set_up_step_with s r (waiting_as capture stream)) (λ period. start_step s r (started_of r (begin period))) a b
    (λ none _. g none)

-- of a capture, and of a playback that writes a trace
pub capture-by : (P : XferStep → Type 0) (s : Sound) (r : Ring) (stream periods lent budget n : ℕ) → ((x : Refusal) → P (refused_step s r x))
    → (consistent_of s.core ≡ true → s.core.stage ≡ Idle → s.core.ready ≡ false → P (set_up_step_with s r (Capture stream)))
    → (none_in s.pending ≡ true → P (start_step s r (started_of r (capture_start r.track stream periods (params_of s stream).period lent budget)))) → P (capture_of s r stream periods lent budget n)
unfolding capture_of
capture-by P s r stream periods lent budget n a b g = start-as-by P true (λ period. capture_start r.track stream periods period lent budget) s r stream n a b g

pub traced-by : (P : XferStep → Type 0) (s : Sound) (r : Ring) (stream len budget room n : ℕ) → ((x : Refusal) → P (refused_step s r x))
    → (consistent_of s.core ≡ true → s.core.stage ≡ Idle → s.core.ready ≡ false → P (set_up_step s r stream))
    → (none_in s.pending ≡ true → P (start_step s r (started_of r (start_traced r.track stream len (params_of s stream).period budget room)))) → P (start_traced_of s r stream len budget room n)
unfolding start_traced_of
traced-by P s r stream len budget room n a b g = start-as-by P false (λ period. start_traced r.track stream len period budget room) s r stream n a b g

-- of the start of a playback, and of one over a script
module _ (P : XferStep → Type 0) (s : Sound) (r : Ring) (stream len budget n : ℕ) (a : (x : Refusal) → P (refused_step s r x))
    (b : consistent_of s.core ≡ true → s.core.stage ≡ Idle → s.core.ready ≡ false → P (set_up_step s r stream)) where
  pub start-by : P (start_step s r (started_of r (start_call r.track stream len (params_of s stream).period budget))) → P (start_of s r stream len budget n)
  unfolding start_of
  start-by g = start-as-by P false (λ period. start_call r.track stream len period budget) s r stream n a b (λ _. g)

  pub script-by : (script : List ℕ) → P (done_step s (transfer_of r stream len (params_of s stream).period budget script)) → P (xfer_of s r stream len budget script n)
  unfolding xfer_of
  script-by script g =
      xfer-by P (nat_le message_size n && length script % 12 == 0) (none_in s.pending) s r.track stream (refused_step s r) (set_up_step s r stream) (λ period. done_step s (transfer_of r stream len period budget script)) a b (λ _ _. g)

-- ---- they keep the invariant

with-set-up-kept : (s : Sound) (call : Call) → call_ok call ≡ true → Kept s → consistent_of s.core ≡ true → s.core.stage ≡ Idle → s.core.ready ≡ false → Kept (with_core (set_up_with s call).core s)
with-set-up-kept s call ok k e g f = step_kept s (set_up_with s call) [] k (record { counts = refl; guard = refl; ready = λ h. h }) (record { consistent = ask-fine s.core call e g f ok; effect = tt })

pub set-up-kept : (s : Sound) (stream : ℕ) → Kept s → consistent_of s.core ≡ true → s.core.stage ≡ Idle → s.core.ready ≡ false → Kept (with_core (set_up_plan s stream).core s)
set-up-kept s stream = with-set-up-kept s (Xfer stream) refl

pub capture-kept : (s : Sound) (r : Ring) (stream periods lent budget n : ℕ) → Kept s → Kept (capture_of s r stream periods lent budget n).sound
capture-kept s r stream periods lent budget n k = capture-by (λ x. Kept x.sound) s r stream periods lent budget n (λ _. k) (with-set-up-kept s (Capture stream) refl k) (λ _. k)

pub traced-kept : (s : Sound) (r : Ring) (stream len budget room n : ℕ) → Kept s → Kept (start_traced_of s r stream len budget room n).sound
traced-kept s r stream len budget room n k = traced-by (λ x. Kept x.sound) s r stream len budget room n (λ _. k) (set-up-kept s stream k) (λ _. k)

module _ (s : Sound) (r : Ring) (stream len budget n : ℕ) (k : Kept s) where
  pub start-kept : Kept (start_of s r stream len budget n).sound
  start-kept = start-by (λ x. Kept x.sound) s r stream len budget n (λ _. k) (set-up-kept s stream k) k

  pub xfer-kept : (script : List ℕ) → Kept (xfer_of s r stream len budget script n).sound
  xfer-kept script = script-by (λ x. Kept x.sound) s r stream len budget n (λ _. k) (set-up-kept s stream k) script k

-- ---- a stream with parameters set, in a state that calls left

module _ (s : Sound) (k : Kept s) (stream : ℕ) (known : (params_of s stream).known ≡ 0 → ⊥) where
  ready_by : (b : Bool) → s.core.ready ≡ b → s.core.ready ≡ true
  ready_by true e = e
  ready_by false e = absurd (known (k.unset e stream))

  -- set-up is done
  pub set-ready : s.core.ready ≡ true
  set-ready = ready_by s.core.ready refl

  range-by : (b : Bool) → nat_lt stream s.core.counts.streams ≡ b → nat_lt stream s.core.counts.streams ≡ true
  range-by true e = e
  range-by false e = absurd (known (k.beyond stream (ltb-false _ _ e)))

  -- the stream is in range
  pub set-range : ltb stream s.core.counts.streams ≡ true
  set-range = range-by _ refl

  known_by : (p : Params) (a b : Bool) → (p.known == 0) ≡ a → (a || b) ≡ true → (p.known ≢ 0) → b ≡ true
  known_by p true b z e h = absurd (h (eqb-true _ _ z))
  known_by p false b z e h = e

  -- "period 0, period above buffer, or buffer not a multiple of period gives 1": of parameters that are set, the period is above 0, within the buffer, and divides it
  pub period-divides : Paced (params_of s stream)
  period-divides =
      let p = params_of s stream in
      period-facts p (both (numbers_ok p) (period_ok p.buffer p.period) (known_by p _ (numbers_ok p && period_ok p.buffer p.period) refl (k.fine stream) known)).1

-- ---- under demand 3's premises every check is passed

-- what calls left passes the start's own test, for every stream
pub stream-fine : (s : Sound) (stream : ℕ) → Kept s → stream_ok s.core (params_of s stream) stream ≡ true
unfolding stream_ok
stream-fine s stream k = either-of (not (s.core.ready && nat_lt stream s.core.counts.streams)) (params_ok (params_of s stream)) (k.fine stream)

-- a test that is made under the guard alone
pub held : (guard test : Bool) → (guard ≡ true → test ≡ true) → held_to guard test ≡ true
held true test h = h refl
held false test h = refl

pub passed-as : {A : Type 0} (capture lengths : Bool) (s : Sound) (r : Ring) (stream : ℕ) (refuse : Refusal → A) (set_up : A) (go : ℕ → A) → lengths ≡ true → Playable s r stream
    → held_to capture ((pcm_of s stream).direction == 1) ≡ true → go (params_of s stream).period ≡ xfer_as capture lengths (none_in s.pending) s r.track stream refuse set_up go
passed-as capture lengths s r stream refuse set_up go long o turned =
    let k = o.state in
    let fine = stream-fine s stream k in
    let ok = both_of (consistent_of s.core) (ring.consistent_of r.track && stream_ok s.core (params_of s stream) stream) k.consistent (both_of (ring.consistent_of r.track) (stream_ok s.core (params_of s stream) stream) o.ring fine) in
    let idle : idle_of r.track ≡ true = both_of (not r.track.running) (r.track.inflight == 0) (ap not o.still) (eq-eqb _ _ o.empty) in
    let free : (is_idle s.core.stage && (idle_of r.track && none_in s.pending)) ≡ true = both_of (is_idle s.core.stage) (idle_of r.track && none_in s.pending) (ap is_idle o.closed) (both_of (idle_of r.track) (none_in s.pending) idle o.clear) in
    let known : not ((params_of s stream).known == 0) ≡ true = ap not (ne_eqb _ _ o.set) in
    passes _ _ _ long (passes _ _ _ ok (passes _ _ _ free (passes _ _ _ (set-ready s k stream o.set) (passes _ _ _ (set-range s k stream o.set) (passes _ _ _ (held s.core.guard (takes_of (life_of s stream)) o.live)
    (faces capture (pcm_of s stream).direction (refuse InvalidParam) (guard (not ((params_of s stream).known == 0)) (refuse (IoError NoStatus)) (go (params_of s stream).period)) turned (passes _ _ _ known refl)))))))

pub passed-all : {A : Type 0} (lengths : Bool) (s : Sound) (r : Ring) (stream : ℕ) (refuse : Refusal → A) (set_up : A) (go : ℕ → A) → lengths ≡ true → Playable s r stream
    → go (params_of s stream).period ≡ xfer_by lengths (none_in s.pending) s r.track stream refuse set_up go
passed-all lengths s r stream refuse set_up go long o = passed-as false lengths s r stream refuse set_up go long o refl

-- so a start does what it does to the ring
pub start-as-is : (capture : Bool) (begin : ℕ → step.Step) (s : Sound) (r : Ring) (stream n : ℕ) → Playable s r stream → held_to capture ((pcm_of s stream).direction == 1) ≡ true → message_size ≤ n
    → start_step s r (started_of r (begin (params_of s stream).period)) ≡ start_as capture begin s r stream n
start-as-is capture begin s r stream n o turned long =
    passed-as capture (nat_le message_size n) s r stream (refused_step s r) (set_up_step_with s r (waiting_as capture stream)) (λ period. start_step s r (started_of r (begin period))) (le-leb message_size n long) o turned

-- a capture, where its stream is an input
pub capture-is : (s : Sound) (r : Ring) (stream periods lent budget n : ℕ) → Playable s r stream → (pcm_of s stream).direction ≡ 1 → message_size ≤ n
    → start_step s r (started_of r (capture_start r.track stream periods (params_of s stream).period lent budget)) ≡ capture_of s r stream periods lent budget n
unfolding capture_of
capture-is s r stream periods lent budget n o input long = start-as-is true (λ period. capture_start r.track stream periods period lent budget) s r stream n o (eq-eqb _ _ input) long

module _ (s : Sound) (r : Ring) (stream len budget n : ℕ) (o : Playable s r stream) (long : message_size ≤ n) where
  pub start_is : start_step s r (started_of r (start_call r.track stream len (params_of s stream).period budget)) ≡ start_of s r stream len budget n
  unfolding start_of
  start_is = start-as-is false (λ period. start_call r.track stream len period budget) s r stream n o refl long

  pub traced-is : (room : ℕ) → start_step s r (started_of r (start_traced r.track stream len (params_of s stream).period budget room)) ≡ start_traced_of s r stream len budget room n
  unfolding start_traced_of
  traced-is room = start-as-is false (λ period. start_traced r.track stream len period budget room) s r stream n o refl long

  pub xfer-is : (script : List ℕ) → length script % 12 ≡ 0 → done_step s (transfer_of r stream len (params_of s stream).period budget script) ≡ xfer_of s r stream len budget script n
  unfolding xfer_of
  xfer-is script whole =
      passed-all (nat_le message_size n && length script % 12 == 0) s r stream (refused_step s r) (set_up_step s r stream) (λ period. done_step s (transfer_of r stream len period budget script))
      (both_of (nat_le message_size n) (length script % 12 == 0) (le-leb message_size n long) (eq-eqb _ _ whole)) o
