-- DEMAND 3 of a capture (2026-09), of `pcm_capture_start` itself and then a capture's turns, under playback's premises and a stream of direction 1.
-- `captures`, `Lends`, `LengthGood`, `Joined` and `Recorded` stand in turns' Captured.
-- Assumes nothing.
use Rattle.std.specs.Prelude.{◌≡◌, ℕ, ◌+◌, ◌*◌, ◌<◌, ◌≤◌, List, length}
use Rattle.std.proofs.Common.{ap, subst}
use Rattle.layout.specs.All.{All}
use Rattle.layout.specs.Lent.{message_size}
use Rattle.turns.specs.Log.{Ran}
use Rattle.turns.specs.Asked.{NoFault, CompletesWithin}
use Rattle.turns.specs.Captured.{Came, Taken, takes, capture_starts, Lends, LengthGood, Joined, Recorded}
use Rattle.turns.specs.CaptureDemand as turns
use Rattle.turns.specs.declared.ring.Said.TheVariants.{Done}
use Rattle.exchange.specs.State.{pcm_of}
use Rattle.exchange.specs.Xfer.{capture_of}
use Rattle.exchange.specs.Kept.{Playable}
use Rattle.exchange.specs.Demand.{period_of, idle-ring}
use Rattle.exchange.specs.XferLaws.{period-divides, capture-by, capture-is}
use Rattle.exchange.specs.ResultLaws.{wrong, says-said}
use Rattle.exchange.specs.Types.{Ring, Going, Sound, Says, XferStep}

-- the turns after a start, lent its recording
abbrev pub capturing_from : XferStep → ℕ → List ℕ → List Came → Ran Taken
capturing_from x budget recording script = takes budget (record { ring = x.ring; recording = recording }) script

-- the start of a capture of so many periods with a message buffer of m bytes, and the host's turns after it
abbrev pub opening : Sound → Ring → ℕ → ℕ → ℕ → ℕ → List ℕ → XferStep
opening s r stream periods budget m recording = capture_of s r stream periods (length recording) budget m

abbrev pub capturing : Sound → Ring → ℕ → ℕ → ℕ → ℕ → List ℕ → List Came → Ran Taken
capturing s r stream periods budget m recording script = capturing_from (opening s r stream periods budget m recording) budget recording script

-- "demand 3's turn bound holds for n submitted periods of a stream of direction 1 if every written length is good"
pub capture-in-time : (s : Sound) (r : Ring) (stream periods budget m g : ℕ) (recording : List ℕ) (script : List Came) → Playable s r stream → (pcm_of s stream).direction ≡ 1 → message_size ≤ m → 0 < g
    → periods * g + 1 ≤ budget → periods * period_of s stream ≤ length recording → All (Lends (period_of s stream)) script → All (LengthGood (period_of s stream)) script →
    let h = capturing s r stream periods budget m recording script in
    ((opening s r stream periods budget m recording).reply ≡ Says Going) × (All NoFault h.log → CompletesWithin g h.log → (h.said ≡ Done) × (length h.log ≤ periods * g + 1))
capture-in-time s r stream periods budget m g recording script o input long pos enough holds lends good =
    let a = turns.capture-in-time r stream periods (period_of s stream) budget g recording script (idle-ring s r stream o) (period-divides s o.state stream o.set).some pos enough holds lends good in
    subst (λ (x : XferStep). let h = capturing_from x budget recording script in (x.reply ≡ Says Going) × (All NoFault h.log → CompletesWithin g h.log → (h.said ≡ Done) × (length h.log ≤ periods * g + 1)))
    (capture-is s r stream periods (length recording) budget m o input long) (ap Says a.0, a.1)

-- what holds of the ring of a start that goes on
module _ (s : Sound) (r : Ring) (stream periods budget m : ℕ) (recording : List ℕ) where
  opened-by : (P : Ring → Type 0) → ((capture_starts r stream periods (period_of s stream) budget recording).said ≡ Going → P (capture_starts r stream periods (period_of s stream) budget recording).ring)
      → (opening s r stream periods budget m recording).reply ≡ Says Going → P (opening s r stream periods budget m recording).ring
  opened-by P f =
      capture-by (λ x. x.reply ≡ Says Going → P x.ring) s r stream periods (length recording) budget m (λ _ e. absurd (wrong (cc))) (λ _ _ _ e. absurd (wrong (cc))) (λ _ e. f (says-said e))

-- there is no premise about state, ring or queue; the host lends the bytes of a completion
module _ (s : Sound) (r : Ring) (stream periods budget m : ℕ) (recording : List ℕ) (script : List Came)
    (began : (opening s r stream periods budget m recording).reply ≡ Says Going) (lends : All (Lends (period_of s stream)) script) where
  -- Ok only if all periods went out in order, whole ones, and each was completed with 0x8000
  pub capture-only-if : (capturing s r stream periods budget m recording script).said ≡ Done → Recorded periods (period_of s stream) script (capturing s r stream periods budget m recording script).log
  capture-only-if =
      opened-by s r stream periods budget m recording
      (λ x. let h = takes budget (record { ring = x; recording = recording }) script in h.said ≡ Done → Recorded periods (period_of s stream) script h.log)
      (λ e. turns.capture-only-if r stream periods (period_of s stream) budget recording script e lends) began

  -- however it ended: the recording is what was accepted, joined, and then what stood there
  pub recorded : Joined periods (period_of s stream) recording script (capturing s r stream periods budget m recording script)
  recorded =
      opened-by s r stream periods budget m recording (λ x. Joined periods (period_of s stream) recording script (takes budget (record { ring = x; recording = recording }) script))
      (λ e. turns.recorded r stream periods (period_of s stream) budget recording script e lends) began
