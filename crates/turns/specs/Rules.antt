-- The turn rules of a transfer, over the track. `least` is the least room that a submission needs.
-- Assumes nothing.
use Rattle.std.specs.Prelude.{Bool, true, false, ◌&&◌, ℕ, ◌+◌, ◌-◌, ltb, leb, eqb, Ok, Err, Some, None}
use Rattle.codes.specs.declared.answers.Cause.TheVariants.{Status}
use Rattle.codes.specs.declared.answers.Refusal.TheVariants.{IoError, WrongToken, OutOfTurns}
use Rattle.codes.specs.Says.{pick}
use Rattle.turns.specs.Cut.{span_of}
use Rattle.turns.specs.Ring.{after, free, goes_on}
use Rattle.turns.specs.Types.{Track, Sent, Said, Going, Done, Ended, Step, Reading, Choice, Submit, Finish, Wait, Outcome, Verdict, WrongSlot, Good, Bad, freed_slot, sent_period}

-- ---- RULE 1. "If 3 or more descriptors are free: if a period remains, submit it at head (3 descriptors), showing that part of the caller's
-- frames itself; else if nothing is in flight, end with Ok and do not look at the reading."

abbrev pub pick_choice : Bool → Bool → Bool → Choice
pick_choice true true none = Submit
pick_choice true false true = Finish
pick_choice true false false = Wait
pick_choice false remains none = Wait

unfoldable pub choose_of : ℕ → Track → Choice
choose_of least t = pick_choice (leb least (free t)) (ltb t.next t.total) (eqb t.inflight 0)

-- the length of the period that goes out next
abbrev pub next_span : Track → ℕ
next_span t = span_of t.period t.total t.next

-- what goes out, at head
abbrev pub sent_of : Track → Sent
sent_of t = sent_period t.head t.next (next_span t)

abbrev pub submit : Track → Track
submit t =
    record {
      descriptors = t.descriptors;
      head = after t.head;
      tail = t.tail;
      inflight = t.inflight + 1;
      stream = t.stream;
      total = t.total;
      period = t.period;
      next = t.next + next_span t;
      budget = t.budget;
      turns = t.turns;
      running = t.running;
      capture = t.capture;
      lent = t.lent;
      kept = t.kept;
      room = t.room;
      written = t.written;
      good = t.good;
    }

-- ---- RULE 2. "The turn's reading is quiet, or a completed slot with a status. Not the oldest in flight, or nothing in flight: end with 6.
-- Otherwise free the slot; a status other than 0x8000 ends with 2."

-- The judgement of a completion's status is the caller's: a playback has its own, and so has a capture (2026-09).
abbrev pub comes_to : (ℕ → Outcome) → Reading → Outcome
comes_to judge None = Ok tt
comes_to judge (Some c) = judge c.status

-- what the completion of a period that was played comes to: 2 carries the status (2026-05)
unfoldable pub played_of : ℕ → Outcome
played_of status = pick (eqb status 0x8000) (Ok tt) (Err (IoError (Status status)))

unfoldable pub is_oldest : Track → ℕ → Bool
is_oldest t slot = ltb 0 t.inflight && eqb slot t.tail

abbrev pub verdict_of : Outcome → Verdict
verdict_of (Ok tt) = Good
verdict_of (Err r) = Bad r

unfoldable pub judge_of : Track → ℕ → Outcome → Verdict
judge_of t slot outcome = pick (is_oldest t slot) (verdict_of outcome) WrongSlot

-- the oldest in flight is free, and so many completions were good
abbrev pub freeing : ℕ → Track → Track
freeing good t =
    record {
      descriptors = t.descriptors;
      head = t.head;
      tail = after t.tail;
      inflight = t.inflight - 1;
      stream = t.stream;
      total = t.total;
      period = t.period;
      next = t.next;
      budget = t.budget;
      turns = t.turns;
      running = t.running;
      capture = t.capture;
      lent = t.lent;
      kept = t.kept;
      room = t.room;
      written = t.written;
      good = good;
    }

abbrev pub release : Track → Track
release t = freeing t.good t

-- a good one is counted
abbrev pub accept : Track → Track
accept t = freeing (t.good + 1) t

abbrev pub settle : Verdict → Sent → Track → ℕ → ℕ → Step
settle WrongSlot sent t slot status = record { track = t; sent = sent; heard = None; said = Ended WrongToken }
settle Good sent t slot status = record { track = accept t; sent = sent; heard = freed_slot slot status; said = Going }
settle (Bad r) sent t slot status = record { track = release t; sent = sent; heard = freed_slot slot status; said = Ended r }

-- the reading, and what it comes to
abbrev pub hear : Outcome → Sent → Track → Reading → Step
hear outcome sent t None = record { track = t; sent = sent; heard = None; said = Going }
hear outcome sent t (Some c) = settle (judge_of t c.slot outcome) sent t c.slot c.status

-- ---- ONE TURN: rule 1, then rule 2

abbrev pub act : Choice → Track → Outcome → Reading → Step
act Submit t outcome reading = hear outcome (sent_of t) (submit t) reading
act Finish t outcome reading = record { track = t; sent = None; heard = None; said = Done }
act Wait t outcome reading = hear outcome None t reading

unfoldable pub turn_of : ℕ → Track → Outcome → Reading → Step
turn_of least t outcome reading = act (choose_of least t) t outcome reading

-- ---- ITS COUNT. "Each turn, the last included, counts one against the budget. The turn that spends the last one without another answer gives 9."

abbrev pub ticked : Bool → Track → Track
ticked running t =
    record {
      descriptors = t.descriptors;
      head = t.head;
      tail = t.tail;
      inflight = t.inflight;
      stream = t.stream;
      total = t.total;
      period = t.period;
      next = t.next;
      budget = t.budget;
      turns = t.turns + 1;
      running = running;
      capture = t.capture;
      lent = t.lent;
      kept = t.kept;
      room = t.room;
      written = t.written;
      good = t.good;
    }

-- a turn that goes on and spends the last of the budget says 9; a transfer that was answered runs no more
abbrev pub counted_by : Said → Bool → Step → Step
counted_by said last s =
    let ends : Said → Step = λ x. record { track = ticked false s.track; sent = s.sent; heard = s.heard; said = x } in
    pick (goes_on said) (pick last (ends (Ended OutOfTurns)) (record { track = ticked true s.track; sent = s.sent; heard = s.heard; said = Going })) (ends said)

unfoldable pub counted_of : Step → Step
counted_of s = counted_by s.said (eqb (s.track.turns + 1) s.track.budget) s
