-- 2026-11 ON THE BYTES: a start in a ring's store that goes on, and the host's turns after it, leave their trace at the front of the room. What stands behind it is as it was, the store tells how
-- long the trace is, and the judge accepts it.
-- Assumes nothing.
use Rattle.std.specs.Prelude.{◌≡◌, refl, List, ◌++◌, map, ℕ, ◌+◌, ◌*◌, ◌≤◌, ◌<◌, ◌^◌, length, take, drop, Ok}
use Rattle.std.proofs.Common.{sym, ◌∙◌, arith}
use Rattle.std.proofs.Math.Path.{ap, subst}
use Rattle.layout.specs.Bytes.{Bytes}
use Rattle.layout.specs.Lent.{Made}
use Rattle.codes.specs.AnswersLaws.{numbered}
use Rattle.turns.specs.Ring.{going, said_word}
use Rattle.turns.specs.Calls.{start_traced, ring_after}
use Rattle.turns.specs.Log.{Ran}
use Rattle.trace.specs.Field.{trace_bytes}
use Rattle.trace.specs.Trace.{trace_of}
use Rattle.trace.specs.Judge.{judges}
use Rattle.trace.specs.Runs.{AllReal}
use Rattle.trace.specs.Writer.{Penned, traces}
use Rattle.trace.specs.Written.{trace-written, written-accepted}
use Rattle.trace.specs.TracedDemand.{traced-in-time, traced-only-if}
use Rattle.turns.specs.Cut.{cut}
use Rattle.turns.specs.Asked.{NoFault, CompletesWithin, Idle, Whole}
use Rattle.layout.specs.All.{All}
use Rattle.ring_store.specs.Captures.{zero-done}
use Rattle.ring_store.specs.Types.{Ring, Said, Going, Done, Ended, Refused, Step, Reading}
use Rattle.ring_store.specs.Store.{ring_size, track_at, ring_of}
use Rattle.ring_store.specs.Calls.{Caught, start_traced_in}
use Rattle.ring_store.specs.Holds.{traced-start-holds}
use Rattle.ring_store.specs.Run.{Words, reading_by, traces_in, HoldsTraced, traces-hold, traced-start-again, traced-start-answers}

going-said : (said : Said) → said_word said ≡ going → said ≡ Going
going-said Going e = refl
going-said Done e = absurd (omega arith)
going-said (Ended r) e = absurd (omega (arith, (numbered r).small))
going-said (Refused r) e = absurd (omega (arith, (numbered r).small))

-- the arguments are machine numbers
module _ (s room frames : List ℕ) (stream period budget : ℕ) (script : List Words) (b : Bytes s) (h : ring_size ≤ length s) (m : stream < 256 ^ 4) (n : length frames < 256 ^ 8) (p : period < 256 ^ 4)
    (q : budget < 256 ^ 8) (w : length room < 256 ^ 8) where
  -- the start, and the turns after it
  abbrev pub begins : Made
  begins = start_traced_in s stream (length frames) period budget (length room)

  abbrev pub ends : Caught
  ends = traces_in (length frames) budget (record { ring = begins.store; room = room }) script

  -- the same by value
  abbrev readings : List Reading
  readings = map reading_by script

  abbrev opening : Step
  opening = start_traced (ring_of s).track stream (length frames) period budget (length room)

  abbrev pub ran : Ran Penned
  ran = traces (length frames) budget (record { ring = ring_after (ring_of s) opening; room = room }) readings

  abbrev pub trace : List ℕ
  trace = trace_bytes (trace_of stream (length frames) period ran.log)

  held : HoldsTraced ends ran
  unfolding ring_of
  held =
      let again = traced-start-again s stream (length frames) period budget (length room) b in
      subst (λ (r : Ring). HoldsTraced ends (traces (length frames) budget (record { ring = r; room = room }) readings))
      (traced-start-holds s stream (length frames) period budget (length room) b h m n (omega (arith, p)) q w)
      (traces-hold begins.store room again.0 (omega (arith, again.1, h)) (length frames) budget script)

  module _ (e : begins.answer ≡ going) where
    goes : opening.said ≡ Going
    goes = going-said opening.said (sym (traced-start-answers s stream (length frames) period budget (length room) h) ∙ e)

    low : period < 4294967296
    low = omega (arith, p)

    -- THE ROOM, and the length that the store tells
    pub trace-in-room : (length trace ≤ length room) × (ends.lent ≡ trace ++ drop (length trace) room) × ((track_at ends.ring).written ≡ length trace)
    unfolding ring_of
    trace-in-room =
        let k = trace-written (ring_of s) stream period budget frames room readings goes low in
        (k.0, ap (λ (a : Penned). a.room) held.0 ∙ k.1, ap (λ (a : Penned). a.ring.track.written) held.0 ∙ k.2)

    -- "so any our writer emits": the judge in the ring's own mode
    pub trace-accepted : AllReal readings → let mode = (ring_of s).track.descriptors in judges mode mode (take (track_at ends.ring).written ends.lent) ≡ Ok tt
    unfolding ring_of
    trace-accepted real =
        let mode = (ring_of s).track.descriptors in
        ap (λ (a : Penned). judges mode mode (take a.ring.track.written a.room)) held.0
        ∙ written-accepted (ring_of s) stream period budget frames room readings goes low (omega (arith, m)) real

    -- DEMAND 3 of it: the last turn answers 0 no later than turn n times g plus 1, and 0 is answered only if all n periods went out in order and came back good
    pub traced-in-time-in : (g : ℕ) → Idle (ring_of s) → 0 < period → 0 < g → length (cut period frames) * g + 1 ≤ budget → All NoFault ran.log
        → CompletesWithin g ran.log → (ends.answer ≡ 0) × (length ran.log ≤ length (cut period frames) * g + 1)
    traced-in-time-in g idle some pos enough right every =
        let a = traced-in-time (ring_of s) stream period budget frames room readings goes low g idle some pos enough right every in
        (held.1 ∙ ap said_word a.0, a.1)

    pub traced-only-if-in : ends.answer ≡ 0 → Whole stream period frames ran.log
    traced-only-if-in z = traced-only-if (ring_of s) stream period budget frames room readings goes low (zero-done ran.said (sym held.1 ∙ z))
