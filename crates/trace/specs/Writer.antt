-- THE WRITER (2026-11): what a turn writes into a lent room, and where: behind what is written there, whose length the track keeps.
-- Assumes nothing.
use Rattle.std.specs.Prelude.{Bool, true, false, ◌&&◌, ◌||◌, List, ◌∷◌, ℕ, ◌+◌, ltb, leb, eqb, length}
use Rattle.std.proofs.lemmas.List.Edits.{sets}
use Rattle.codes.specs.Says.{pick, guard}
use Rattle.codes.specs.declared.answers.Refusal.TheVariants.{InvalidParam}
use Rattle.turns.specs.Rules.{choose_of}
use Rattle.turns.specs.Ring.{is_refused}
use Rattle.turns.specs.Calls.{refused_of, traced_call, written_in, turned_of}
use Rattle.turns.specs.Log.{Told, waiting_by, Ran, loop}
use Rattle.trace.specs.Field.{trace_bytes}
use Rattle.trace.specs.Private.{turn_fields}
use Rattle.trace.specs.declared.field.Field.TheVariants as field
use Rattle.trace.specs.Types.{Track, Ring, Step, Reading, Field}

-- the start stands before the first turn's fields: "a transfer that ran no turn writes nothing"
abbrev pub opening_by : Bool → Track → List Field → List Field
opening_by true t fs = field.Start t.stream t.total t.period ∷ fs
opening_by false t fs = fs

abbrev pub opening : Track → List Field → List Field
opening t fs = opening_by (eqb t.turns 0) t fs

-- what a turn that ran writes: its submission, its completion, the end
abbrev pub pen_of : Track → Step → List Field
pen_of t s = opening t (turn_fields s.sent s.heard s.said)

abbrev pub ink_of : Track → Step → List ℕ
ink_of t s = trace_bytes (pen_of t s)

-- its numbers fit their fields, and behind what is written there is room: so it is with every ring that a traced start left
abbrev pub pen_fits : Track → Step → ℕ → Bool
pen_fits t s room = ltb t.total 4294967296 && (ltb t.period 4294967296 && leb (t.written + length (ink_of t s)) room)

-- the track keeps how long the trace is
abbrev pub inked : Track → Step → Step
inked t s = record { track = written_in (t.written + length (ink_of t s)) s.track; sent = s.sent; heard = s.heard; said = s.said }

-- a refused turn writes nothing, and neither does one of a transfer that was lent no room at its start
abbrev pub writes_none : ℕ → Step → Bool
writes_none room s = eqb room 0 || is_refused s.said

abbrev pub inked_by : Track → Step → ℕ → Step
inked_by t s room =
    pick (writes_none room s) s
    (guard (pen_fits t s room) (refused_of InvalidParam t)
    (inked t s))

-- A TURN THAT WRITES, lent frames and room, each of some length: refused as a turn is, and with 1 where the ring is none that a traced start left
unfoldable pub writing_call : Track → ℕ → ℕ → Reading → Step
writing_call t len room reading = inked_by t (traced_call t len room reading) room

-- THE ROOM after it: nothing past the trace is touched
abbrev pub room_after : Track → Step → List ℕ → List ℕ
room_after t s room = pick (writes_none (length room) s) room (sets room t.written (ink_of t s))

-- ---- THE HOST'S LOOP: the call of a turn, again and again, lent frames of one length, and the same room

pub record Penned : Type 0 where
  pub ring : Ring
  pub room : List ℕ

abbrev pub tracing : ℕ → Penned → Reading → Told Penned
tracing len a reading =
    let t = a.ring.track in
    let s = writing_call t len (length a.room) reading in
    let u = turned_of a.ring s in
    record {
      left = record { ring = u.ring; room = room_after t s a.room };
      line = record { sent = u.sent; waiting = waiting_by (choose_of t.descriptors t) t; reading = reading; heard = u.heard; said = u.said };
    }

abbrev pub traces : ℕ → ℕ → Penned → List Reading → Ran Penned
traces len = loop (tracing len)
