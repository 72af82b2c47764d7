-- 2026-11, the writer: what a start and the turns after it leave in the room, as a host calls them. "Our writer emits it."
-- Assumes nothing.
use Rattle.std.specs.Prelude.{List, [], ◌∷◌, ◌++◌, ◌≡◌, refl, ℕ, ◌≤◌, ◌<◌, eqb, length, take, drop, replicate, Ok}
use Rattle.std.proofs.Common.{ap}
use Rattle.std.proofs.lemmas.List.Edits.{sets}
use Rattle.codes.specs.SaysLaws.{picks}
use Rattle.codes.specs.declared.answers.Refusal.{Refusal}
use Rattle.layout.specs.Bytes.{le}
use Rattle.layout.specs.Rows.{rows_bytes}
use Rattle.codes.specs.Says.{guard}
use Rattle.turns.specs.Ring.{direct, new_track, new_ring, is_refused}
use Rattle.turns.specs.Consistent.{placed_of, paced_of}
use Rattle.turns.specs.Rules.{choose_of, turn_of, counted_of}
use Rattle.turns.specs.Log.{Ran, loop_of}
use Rattle.turns.specs.Calls.{refused_of, traced_call, turn_call, drain_call, start_traced, ring_after}
use Rattle.turns.specs.Asked.{plays}
use Rattle.trace.specs.Field.{trace_bytes}
use Rattle.trace.specs.Trace.{trace_of}
use Rattle.trace.specs.Judge.{judges}
use Rattle.trace.specs.Runs.{AllReal}
use Rattle.trace.specs.Writer.{ink_of, writes_none, writing_call, room_after, Penned, traces}
use Rattle.trace.specs.InkLaws.{none-ran}
use Rattle.trace.specs.TracedLaws.{room-holds, same_log, accepts-room, writing-refused, drains-keep}
use Rattle.trace.specs.Types.{Track, Ring, Step, Going, Refused, Reading}

-- THE ROOM after a start that goes on, and its turns: it holds their trace and behind it what was there, it was long enough, and the ring tells how long the trace is.
-- The code takes the period as a u32
pub trace-written : (r : Ring) (stream period budget : ℕ) (frames room : List ℕ) (script : List Reading) → let s = start_traced r.track stream (length frames) period budget (length room) in
    let h = traces (length frames) budget (record { ring = ring_after r s; room = room }) script in
    let trace = trace_bytes (trace_of stream (length frames) period h.log) in
    s.said ≡ Going → period < 4294967296 → (length trace ≤ length room) × (h.at.room ≡ trace ++ drop (length trace) room) × (h.at.ring.track.written ≡ length trace)
trace-written r stream period budget frames room script going low = room-holds r stream period budget frames room going low script

-- A TRACE CHANGES NOTHING ELSE: line for line the transfer says what it says without one
pub trace-says-same : (r : Ring) (stream period budget : ℕ) (frames room : List ℕ) (script : List Reading) → let s = start_traced r.track stream (length frames) period budget (length room) in
    s.said ≡ Going → period < 4294967296 → (traces (length frames) budget (record { ring = ring_after r s; room = room }) script).log ≡ (plays r stream period budget frames script).log
trace-says-same r stream period budget frames room script going low = same_log r stream period budget frames room going low script

-- "so any our writer emits": the judge accepts what stands in the room after the last turn, as far as the ring tells
pub written-accepted : (r : Ring) (stream period budget : ℕ) (frames room : List ℕ) (script : List Reading) → let s = start_traced r.track stream (length frames) period budget (length room) in
    let h = traces (length frames) budget (record { ring = ring_after r s; room = room }) script in
    s.said ≡ Going → period < 4294967296 → stream < 4294967296 → AllReal script → judges r.track.descriptors r.track.descriptors (take h.at.ring.track.written h.at.room) ≡ Ok tt
written-accepted r stream period budget frames room script going low wide real = accepts-room r stream period budget frames room going low script wide real

-- lent no room it is the turn that writes no trace
pub no-room-no-trace : (t : Track) (len : ℕ) (reading : Reading) → writing_call t len 0 reading ≡ turn_call t len reading
unfolding writing_call
no-room-no-trace t len reading = refl

-- refused, it leaves the track and the room
pub refused-writes-nothing : (t : Track) (len : ℕ) (reading : Reading) (room : List ℕ) (x : Refusal) → let s = writing_call t len (length room) reading in
    s.said ≡ Refused x → (s ≡ refused_of x t) × (room_after t s room ≡ room)
refused-writes-nothing t len reading room x e =
    let s = writing_call t len (length room) reading in (
      writing-refused t len (length room) reading x e,
      picks (writes_none (length room) s) room (sets room t.written (ink_of t s)) (none-ran (eqb (length room) 0) (is_refused s.said) (ap is_refused e)),
    )

-- a drain turn keeps the trace's length: it writes nothing
pub drain-keeps-written : (t : Track) (reading : Reading) → (drain_call t reading).track.written ≡ t.written
drain-keeps-written t reading = drains-keep t reading

-- ---- AN INSTANCE: of one byte and a budget of one turn, in a room of 39 bytes. The start, the submission and the end with 9 are written, 31 bytes
abbrev opened : Step
opened = start_traced (new_track direct) 5 1 1 1 39

abbrev once : Ran Penned
once = traces 1 1 (record { ring = ring_after (new_ring direct) opened; room = replicate 39 7 }) []

pub instance : (opened.said ≡ Going) × (once.at.ring.track.written ≡ 31)
    × (once.at.room ≡ 0 ∷ 12 ∷ 0 ∷ 5 ∷ 0 ∷ 0 ∷ 0 ∷ 1 ∷ 0 ∷ 0 ∷ 0 ∷ 1 ∷ 0 ∷ 0 ∷ 0 ∷ 1 ∷ 9 ∷ 0 ∷ 0 ∷ 0 ∷ 0 ∷ 0 ∷ 0 ∷ 1 ∷ 0 ∷ 0 ∷ 0 ∷ 3 ∷ 1 ∷ 0 ∷ 9 ∷ replicate 8 7)
unfolding start_traced guard placed_of paced_of loop_of writing_call traced_call turn_of counted_of choose_of rows_bytes le
instance = (refl, refl, refl)
