-- DEMAND 3 of `pcm_xfer` itself, under the customer's premises: of its start and then turns, and of a transfer over a script.
-- `Playable` (Kept) is what it takes of state and ring; `NoFault`, `CompletesWithin` and `Whole` stand in turns' Asked.
-- Assumes nothing.
use Rattle.std.specs.Prelude.{◌≡◌, ℕ, ◌+◌, ◌*◌, ◌%◌, ◌<◌, ◌≤◌, List, [], length, ◌≢◌}
use Rattle.std.proofs.Common.{sym, ap, subst, arith}
use Rattle.layout.specs.Lent.{message_size}
use Rattle.turns.specs.Cut.{cut}
use Rattle.turns.specs.Log.{Ran, turn_by_turn}
use Rattle.turns.specs.Script.{script_of}
use Rattle.turns.specs.Asked as asked
use Rattle.layout.specs.All.{All}
use Rattle.turns.specs.Asked.{starts, plays, NoFault, CompletesWithin, Whole, Accounted}
use Rattle.turns.specs.Demand as turns
use Rattle.turns.specs.Heard as heard
use Rattle.turns.specs.Heard.{HeardOut}
use Rattle.turns.specs.declared.ring.Said.TheVariants.{Done}
use Rattle.exchange.specs.State.{params_of}
use Rattle.exchange.specs.Xfer.{start_of, xfer_of}
use Rattle.exchange.specs.Kept.{Playable}
use Rattle.exchange.specs.XferLaws.{start-by, script-by, period-divides, start_is, xfer-is}
use Rattle.exchange.specs.ResultLaws.{wrong, says-said}
use Rattle.exchange.specs.Types.{Ring, Going, Reading, Sound, Says, XferStep}

-- the stream's period_bytes
abbrev pub period_of : Sound → ℕ → ℕ
period_of s stream = (params_of s stream).period

-- the start of a transfer of frames with a message buffer of m bytes, and the host's turns after it. The number n of periods is length (cut (period_of s stream) frames)
abbrev pub starting : Sound → Ring → ℕ → ℕ → ℕ → List ℕ → XferStep
starting s r stream budget m frames = start_of s r stream (length frames) budget m

abbrev pub playing : Sound → Ring → ℕ → ℕ → ℕ → List ℕ → List Reading → Ran Ring
playing s r stream budget m frames script = turn_by_turn (length frames) budget (starting s r stream budget m frames).ring script

pub idle-ring : (s : Sound) (r : Ring) (stream : ℕ) → Playable s r stream → asked.Idle r
idle-ring s r stream o = record { consistent = o.ring; stopped = o.still; empty = o.empty }

-- "Take a state and ring that calls left, lent lengths that answer 10 does not refuse, a stream with parameters set, no exchange or transfer open, nothing in
-- flight, and frames that make n periods. If no turn reports a wrong token or a status other than 0x8000, and among any g turns running (g at least 1), each with
-- something in flight at its reading, one reports a completion, then the transfer answers Ok no later than turn n times g plus 1, given a turn budget of at least that."
pub ok-in-time : (s : Sound) (r : Ring) (stream budget m g : ℕ) (frames : List ℕ) (script : List Reading) → Playable s r stream → message_size ≤ m → 0 < g
    → length (cut (period_of s stream) frames) * g + 1 ≤ budget →
    let x = starting s r stream budget m frames in
    let h = playing s r stream budget m frames script in
    (x.reply ≡ Says Going) × (All NoFault h.log → CompletesWithin g h.log → (h.said ≡ Done) × (length h.log ≤ length (cut (period_of s stream) frames) * g + 1))
ok-in-time s r stream budget m g frames script o long pos enough =
    let period = period_of s stream in
    let a = turns.ok-in-time r stream period budget g frames script (idle-ring s r stream o) (period-divides s o.state stream o.set).some pos enough in
    subst (λ (x : XferStep). let h = turn_by_turn (length frames) budget x.ring script in (x.reply ≡ Says Going) × (All NoFault h.log → CompletesWithin g h.log → (h.said ≡ Done) × (length h.log ≤ length (cut period frames) * g + 1)))
    (start_is s r stream (length frames) budget m o long) (ap Says a.0, a.1)

-- what holds of the ring of a start that goes on
module _ (s : Sound) (r : Ring) (stream budget m : ℕ) (frames : List ℕ) where
  begun-by : (P : Ring → Type 0) → ((starts r stream (period_of s stream) budget frames).said ≡ Going → P (starts r stream (period_of s stream) budget frames).ring)
      → (starting s r stream budget m frames).reply ≡ Says Going → P (starting s r stream budget m frames).ring
  begun-by P f = start-by (λ x. x.reply ≡ Says Going → P x.ring) s r stream (length frames) budget m (λ _ e. absurd (wrong (cc))) (λ _ _ _ e. absurd (wrong (cc))) (λ e. f (says-said e))

-- "With no premise about the queue: Ok is answered only if all n periods went out in order, each was completed with 0x8000, their payloads joined equal the frames,
-- and each but the last is exactly period_bytes long." There is no premise about state and ring either
module _ (s : Sound) (r : Ring) (stream budget m : ℕ) (frames : List ℕ) (script : List Reading) (began : (starting s r stream budget m frames).reply ≡ Says Going) where
  pub ok-only-if : (playing s r stream budget m frames script).said ≡ Done → Whole stream (period_of s stream) frames (playing s r stream budget m frames script).log
  ok-only-if =
      begun-by s r stream budget m frames (λ x. let h = turn_by_turn (length frames) budget x script in h.said ≡ Done → Whole stream (period_of s stream) frames h.log)
      (turns.ok-only-if r stream (period_of s stream) budget frames script) began

  -- "which bytes did the device accept?" However the transfer ended: the first periods, in order, as many as were completed with 0x8000
  pub accounted : let h = playing s r stream budget m frames script in Accounted (period_of s stream) frames h.said h.at.track h.log
  accounted =
      begun-by s r stream budget m frames (λ x. let h = turn_by_turn (length frames) budget x script in Accounted (period_of s stream) frames h.said h.at.track h.log)
      (turns.accounted r stream (period_of s stream) budget frames script) began

  -- 2026-13: "the accepted payloads are exactly the first k periods, the failing one is the next, and those still owed follow it without a gap; for WrongToken and
  -- OutOfTurns the same without the failing one"
  pub heard-out : length r.slots ≡ 32 → HeardOut (period_of s stream) frames (playing s r stream budget m frames script)
  heard-out size =
      begun-by s r stream budget m frames (λ x. HeardOut (period_of s stream) frames (turn_by_turn (length frames) budget x script))
      (λ e. heard.heard-out r stream (period_of s stream) budget frames script e size) began

  -- "how long may the console sit inside one announcement?" There is an answer after at most budget turns
  pub always-answers : ((playing s r stream budget m frames script).said ≢ Going) × (length (playing s r stream budget m frames script).log ≤ budget)
  always-answers =
      begun-by s r stream budget m frames (λ x. let h = turn_by_turn (length frames) budget x script in (h.said ≢ Going) × (length h.log ≤ budget))
      (λ e. (turns.always-answers r stream (period_of s stream) budget frames script e, (turns.turns-within-budget r stream (period_of s stream) budget frames [] script).0)) began

-- ---- the same of a transfer over a script of whole readings: what it answers, and the number of its turns

pub ok-in-time-script : (s : Sound) (r : Ring) (stream budget m g : ℕ) (frames bytes : List ℕ) → Playable s r stream → message_size ≤ m → length bytes % 12 ≡ 0 → 0 < g
    → length (cut (period_of s stream) frames) * g + 1 ≤ budget →
    let h = playing s r stream budget m frames (script_of bytes) in
    let x = xfer_of s r stream (length frames) budget bytes m in
    All NoFault h.log → CompletesWithin g h.log → (x.reply ≡ Says (Done)) × (x.turns ≤ length (cut (period_of s stream) frames) * g + 1)
ok-in-time-script s r stream budget m g frames bytes o long whole pos enough right every =
    let period = period_of s stream in
    let same : XferStep → Ran Ring = λ x. turn_by_turn (length frames) budget x.ring (script_of bytes) in
    let is = sym (start_is s r stream (length frames) budget m o long) in
    let a = turns.ok-in-time-script r stream period budget g frames bytes (idle-ring s r stream o) (period-divides s o.state stream o.set).some pos enough whole
    (subst (λ (x : XferStep). All NoFault (same x).log) is right) (subst (λ (x : XferStep). CompletesWithin g (same x).log) is every) in
    subst (λ (x : XferStep). (x.reply ≡ Says (Done)) × (x.turns ≤ length (cut period frames) * g + 1)) (xfer-is s r stream (length frames) budget m o long bytes whole) (ap Says a.0, a.1)

-- the log is that of the turns by themselves
pub ok-only-if-script : (s : Sound) (r : Ring) (stream budget m : ℕ) (frames bytes : List ℕ) → (xfer_of s r stream (length frames) budget bytes m).reply ≡ Says (Done) →
    Whole stream (period_of s stream) frames (plays r stream (period_of s stream) budget frames (script_of bytes)).log
ok-only-if-script s r stream budget m frames bytes =
    script-by (λ x. x.reply ≡ Says (Done) → Whole stream (period_of s stream) frames (plays r stream (period_of s stream) budget frames (script_of bytes)).log) s r stream (length frames) budget m
    (λ _ e. absurd (wrong (cc))) (λ _ _ _ e. absurd (wrong (cc))) bytes (λ e. turns.ok-only-if-script r stream (period_of s stream) budget frames bytes (says-said e))

pub always-answers-script : (s : Sound) (r : Ring) (stream budget m : ℕ) (frames bytes : List ℕ) → (xfer_of s r stream (length frames) budget bytes m).reply ≢ Says Going
always-answers-script s r stream budget m frames bytes =
    script-by (λ x. x.reply ≢ Says Going) s r stream (length frames) budget m (λ _ e. wrong (cc)) (λ _ _ _ e. wrong (cc)) bytes
    (λ e. turns.always-answers-script r stream (period_of s stream) budget frames bytes (says-said e))

pub turns-within-budget : (s : Sound) (r : Ring) (stream budget m : ℕ) (frames bytes : List ℕ) → (xfer_of s r stream (length frames) budget bytes m).turns ≤ budget
turns-within-budget s r stream budget m frames bytes =
    script-by (λ x. x.turns ≤ budget) s r stream (length frames) budget m (λ _. omega arith) (λ _ _ _. omega arith) bytes (turns.turns-within-budget r stream (period_of s stream) budget frames bytes []).1
