-- DEMAND 3 of the C entries: `snd_pcm_xfer_start`, then `snd_turn` after `snd_turn` on what it left, as long as they answer 512. The premises on numbers are the widths
-- in which the entries take them; a store is bytes, and as long as its size.
-- Assumes nothing.
use Rattle.std.specs.Prelude.{◌≡◌, ℕ, ◌+◌, ◌*◌, ◌^◌, ◌<◌, ◌≤◌, false, List, map, length, refl, Result, Ok, Err}
use Rattle.std.proofs.Common.{sym, ap, ◌∙◌, arith, le-leb}
use Rattle.std.proofs.Math.Path.{subst}
use Rattle.layout.specs.All.{All}
use Rattle.layout.specs.Bytes.{Bytes}
use Rattle.layout.specs.Lent.{Made, message_size}
use Rattle.layout.specs.WrittenLaws.{Again}
use Rattle.codes.specs.AnswersLaws.{numbered}
use Rattle.turns.specs.Cut.{cut}
use Rattle.turns.specs.Ring.{said_word}
use Rattle.turns.specs.Log.{turn_by_turn}
use Rattle.turns.specs.Asked.{NoFault, CompletesWithin, Whole}
use Rattle.turns.specs.declared.ring.Ring.{Ring}
use Rattle.turns.specs.declared.ring.Said.{Said}
use Rattle.turns.specs.declared.ring.Step.{Step}
use Rattle.turns.specs.declared.ring.Said.TheVariants.{Going, Done, Ended, Refused}
use Rattle.turns.specs.Types.{Reading}
use Rattle.exchange.specs.Xfer.{start_of, xfer_word}
use Rattle.exchange.specs.Kept.{Playable}
use Rattle.exchange.specs.XferLaws.{start-by}
use Rattle.exchange.specs.declared.state.Sound.{Sound}
use Rattle.exchange.specs.Demand as exchange
use Rattle.exchange.specs.Demand.{period_of, starting, playing}
use Rattle.exchange.specs.declared.xfer.XferReply.TheVariants.{Says}
use Rattle.ring_store.specs.Store.{ring_size, track_at, ring_of}
use Rattle.ring_store.specs.Calls.{start_in}
use Rattle.ring_store.specs.Run.{Words, reading_by, turn_by_turn_in, Holds, run_holds, start-again}
use Rattle.state_store.specs.Places.{state_size}
use Rattle.state_store.specs.Store.{sound_of}
use Rattle.state_store.specs.Calls.{open_in}
use Rattle.console.specs.Entries.{Begun, start_entry}
use Rattle.console.specs.EntryLaws.{start_opening, start_is, plays}
use Rattle.console.specs.Holds.{entry-is, start-entry-holds}

-- the start entry, and the turn entries after it on the ring's store: the last answer, and what that store holds then
abbrev pub starts_in : List ℕ → List ℕ → List ℕ → ℕ → ℕ → List ℕ → Begun
starts_in s ring m stream budget frames = start_entry s ring stream (length frames) budget m

abbrev pub plays_in : List ℕ → List ℕ → List ℕ → ℕ → ℕ → List ℕ → List Words → Made
plays_in s ring m stream budget frames script = turn_by_turn_in (length frames) budget (starts_in s ring m stream budget frames).ring script

-- 0 is said by Done alone, and 512 at a start by Going alone
done-by : (said : Said) → said_word said ≡ 0 → said ≡ Done
done-by Going e = absurd (omega arith)
done-by Done e = refl
done-by (Ended r) e = absurd (omega (arith, (numbered r).least))
done-by (Refused r) e = absurd (omega (arith, (numbered r).least))

going-by : (said : Said) → said_word said ≡ 512 → said ≡ Going
going-by Going e = refl
going-by Done e = absurd (omega arith)
going-by (Ended r) e = absurd (omega (arith, (numbered r).small))
going-by (Refused r) e = absurd (omega (arith, (numbered r).small))

goes_on : (x : Sound) (y : Ring) (stream len budget n : ℕ) → xfer_word (start_of x y stream len budget n).reply ≡ 512 → (start_of x y stream len budget n).reply ≡ Says Going
goes_on x y stream len budget n =
    start-by (λ z. xfer_word z.reply ≡ 512 → z.reply ≡ Says Going) x y stream len budget n
    (λ w e. absurd (omega (arith, (numbered w).small))) (λ _ _ _ e. absurd (omega arith)) (λ e. ap Says (going-by _ e))

module _ (s ring m : List ℕ) (b : Bytes s) (c : Bytes ring) (h : state_size ≤ length s) (k : ring_size ≤ length ring) (stream budget : ℕ) (frames : List ℕ)
    (p : stream < 256 ^ 4) (q : length frames < 256 ^ 8) (r : budget < 256 ^ 8) (script : List Words) where
  abbrev readings : List Reading
  readings = map reading_by script

  abbrev begin : ℕ → Step
  begin = plays s ring stream (length frames) budget m

  opening-again : (x : Result ℕ ℕ) (st after : List ℕ) → Again ring (start_opening false begin s ring stream x st after).ring
  unfolding start_in
  opening-again (Err n) st after = (c, refl)
  opening-again (Ok period) st after = start-again ring stream (length frames) period budget c

  -- what the start leaves is a ring's store again
  again : Again ring (starts_in s ring m stream budget frames).ring
  unfolding open_in start_entry start_of ring_of
  again =
      let x = open_in s (track_at ring) stream m in
      subst (λ (z : Begun). Again ring z.ring) (start_is false begin s ring stream m b (le-leb ring_size (length ring) k)) (opening-again x.opening x.state x.message)

  run_is : Holds (plays_in s ring m stream budget frames script) (playing (sound_of s) (ring_of ring) stream budget (length m) frames readings)
  run_is =
      subst (λ (x : Ring). Holds (plays_in s ring m stream budget frames script) (turn_by_turn (length frames) budget x readings))
      (start-entry-holds s ring m b c h k stream (length frames) budget p q r)
      (run_holds (starts_in s ring m stream budget frames).ring again.0 (omega (arith, again.1)) (length frames) budget script)

  start-says : (starts_in s ring m stream budget frames).answer ≡ xfer_word (starting (sound_of s) (ring_of ring) stream budget (length m) frames).reply
  start-says = ap (λ (x : Begun). x.answer) (entry-is s ring m b c h k stream (length frames) budget)

  -- THE FIRST HALF: the start answers 512, and then a turn answers 0, no later than turn n * g + 1
  pub entries-in-time : (g : ℕ) → Playable (sound_of s) (ring_of ring) stream → message_size ≤ length m → 0 < g → length (cut (period_of (sound_of s) stream) frames) * g + 1 ≤ budget →
      let log = (playing (sound_of s) (ring_of ring) stream budget (length m) frames readings).log in
      ((starts_in s ring m stream budget frames).answer ≡ 512)
      × (All NoFault log → CompletesWithin g log
      → ((plays_in s ring m stream budget frames script).answer ≡ 0) × (length log ≤ length (cut (period_of (sound_of s) stream) frames) * g + 1))
  entries-in-time g o long pos enough =
      let a = exchange.ok-in-time (sound_of s) (ring_of ring) stream budget (length m) g frames readings o long pos enough in (
        start-says ∙ ap xfer_word a.0,
        λ right within. let d = a.1 right within in (run_is.1 ∙ ap said_word d.0, d.1),
      )

  -- THE SECOND HALF, with no premise about the queue: a turn answers 0 only where all periods went out in order, were completed with 0x8000, and are the frames
  pub entries-only-if : (starts_in s ring m stream budget frames).answer ≡ 512 → (plays_in s ring m stream budget frames script).answer ≡ 0
      → Whole stream (period_of (sound_of s) stream) frames (playing (sound_of s) (ring_of ring) stream budget (length m) frames readings).log
  entries-only-if began zero =
      exchange.ok-only-if (sound_of s) (ring_of ring) stream budget (length m) frames readings
      (goes_on (sound_of s) (ring_of ring) stream (length frames) budget (length m) (sym start-says ∙ began)) (done-by _ (sym run_is.1 ∙ zero))
