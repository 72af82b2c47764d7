-- 2026-09 OF THE STORES: a start of a capture in a ring's store, and a host's turns after it on that store and the lent recording. Demand 3 of them, and the recording's bytes.
-- Assumes nothing.
use Rattle.std.specs.Prelude.{ℕ, ◌+◌, ◌*◌, ◌≤◌, ◌<◌, ◌^◌, ◌≡◌, refl, List, ◌++◌, length}
use Rattle.std.proofs.Common.{arith, sym, ◌∙◌}
use Rattle.std.proofs.Math.Path.{ap, subst}
use Rattle.std.proofs.Math.ListN.{drop}
use Rattle.layout.specs.All.{All}
use Rattle.layout.specs.Bytes.{Bytes}
use Rattle.layout.specs.Lent.{Made}
use Rattle.codes.specs.AnswersLaws.{numbered}
use Rattle.turns.specs.Cut.{join}
use Rattle.turns.specs.Ring.{said_word}
use Rattle.turns.specs.Log.{Ran}
use Rattle.turns.specs.Asked.{NoFault, CompletesWithin, Idle}
use Rattle.turns.specs.Captured.{Came, Taken, takes, capture_starts, captures, Lends, LengthGood, taken, Recorded}
use Rattle.turns.specs.CaptureDemand.{capture-in-time, capture-only-if, recorded}
use Rattle.ring_store.specs.Types.{Ring, Said, Going, Done, Ended, Refused}
use Rattle.ring_store.specs.Store.{ring_size, track_at, ring_of}
use Rattle.ring_store.specs.Calls.{Caught, capture_start_in}
use Rattle.ring_store.specs.Holds.{capture-start-holds}
use Rattle.ring_store.specs.Run.{captures_in, HoldsCaptured, captures-hold, capture-start-again}

pub zero-done : (said : Said) → said_word said ≡ 0 → said ≡ Done
zero-done Going e = absurd (omega arith)
zero-done Done e = refl
zero-done (Ended r) e = absurd (omega (arith, (numbered r).least))
zero-done (Refused r) e = absurd (omega (arith, (numbered r).least))

-- the arguments are machine numbers
module _ (s recording : List ℕ) (stream periods period budget : ℕ) (script : List Came) (b : Bytes s) (h : ring_size ≤ length s)
    (m : stream < 256 ^ 4) (p : period < 256 ^ 8) (n : length recording < 256 ^ 8) (q : budget < 256 ^ 8) where
  -- the start, and the turns after it
  abbrev pub begins : Made
  begins = capture_start_in s stream periods period (length recording) budget

  abbrev pub ends : Caught
  ends = captures_in budget (record { ring = begins.store; recording = recording }) script

  -- the same by value
  abbrev pub ran : Ran Taken
  ran = captures (ring_of s) stream periods period budget recording script

  held : HoldsCaptured ends ran
  unfolding ring_of
  held =
      let again = capture-start-again s stream periods period (length recording) budget b in
      subst (λ (r : Ring). HoldsCaptured ends (takes budget (record { ring = r; recording = recording }) script))
      (capture-start-holds s stream periods period (length recording) budget b h m p n q)
      (captures-hold begins.store recording again.0 (omega (arith, again.1, h)) budget script)

  -- "demand 3's turn bound holds for n submitted periods .. if every written length is good": the last turn answers 0
  pub capture-in-time-in : (g : ℕ) → Idle (ring_of s) → 0 < period → 0 < g → periods * g + 1 ≤ budget → periods * period ≤ length recording
      → All (Lends period) script → All (LengthGood period) script → All NoFault ran.log → CompletesWithin g ran.log
      → (ends.answer ≡ 0) × (length ran.log ≤ periods * g + 1)
  capture-in-time-in g idle some pos enough holds lends good right every =
      let a = (capture-in-time (ring_of s) stream periods period budget g recording script idle some pos enough holds lends good).1 right every in
      (held.1 ∙ ap said_word a.0, a.1)

  module _ (began : (capture_starts (ring_of s) stream periods period budget recording).said ≡ Going) (lends : All (Lends period) script) where
    -- 0 only if all periods went out in order and each was completed with 0x8000 and accepted
    pub capture-only-if-in : ends.answer ≡ 0 → Recorded periods period script ran.log
    capture-only-if-in e =
        capture-only-if (ring_of s) stream periods period budget recording script began lends (zero-done ran.said (sym held.1 ∙ e))

    -- "Accepted payloads are joined into a lent recording .. Only the recording's first accepted bytes change": however it ended, and the store tells how many
    pub recorded-in : ends.lent ≡ join (taken period ran.log script) ++ drop (track_at ends.ring).kept recording
    unfolding ring_of
    recorded-in =
        ap (λ (a : Taken). a.recording) held.0
        ∙ (recorded (ring_of s) stream periods period budget recording script began lends).joined
        ∙ ap (λ (a : Taken). join (taken period ran.log script) ++ drop a.ring.track.kept recording) (sym held.0)
