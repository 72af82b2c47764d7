-- The calls on a ring, with their refusals: a turn, a drain turn, the start of a transfer, and what the next turn submits.
-- Assumes nothing.
use Rattle.std.specs.Prelude.{Bool, true, false, ◌&&◌, ◌||◌, not, List, [], ◌∷◌, ℕ, ◌+◌, ◌*◌, ◌/◌, ◌%◌, ltb, leb, eqb, set, Result, Ok, Err, Some, None}
use Rattle.codes.specs.Says.{guard, pick, Says, says}
use Rattle.codes.specs.declared.answers.Refusal.{Refusal}
use Rattle.codes.specs.declared.answers.Refusal.TheVariants.{InvalidParam, WrongToken, Busy, OutOfTurns, BadLength}
use Rattle.turns.specs.Cut.{payload}
use Rattle.turns.specs.Rules.{choose_of, sent_of, comes_to, played_of, is_oldest, release, turn_of, counted_of}
use Rattle.turns.specs.Consistent.{consistent_of}
use Rattle.turns.specs.Types.{Slot, Track, Ring, Sent, Said, Going, Done, Ended, Refused, Step, Turned, Reading, Choice, Submit, Finish, Wait, freed_slot}
use Rattle.codes.specs.Answers.{says_refusal}

-- nothing was submitted and nothing freed: so it is with every refusal
abbrev pub unchanged_of : Said → Track → Step
unchanged_of said t = record { track = t; sent = None; heard = None; said = said }

abbrev pub refused_of : Refusal → Track → Step
refused_of r t = unchanged_of (Refused r) t

-- "A turn's frames not as long as at the start" get 10; where no transfer runs there is no start to compare with
abbrev pub length_agrees : Track → ℕ → Bool
length_agrees t len = not t.running || eqb len t.lent

-- a transfer runs, and it is a capture (2026-09), or it is none
abbrev pub runs_as : Bool → Track → Bool
runs_as true t = t.running && t.capture
runs_as false t = t.running && not t.capture

-- a turn or an offer of either direction, lent something of a length: 10, then 1 for an inconsistent ring, 1 where no transfer of this direction runs
abbrev pub admit : {A : Type 0} → Bool → Track → ℕ → (Refusal → A) → A → A
admit capture t len refused rest =
    guard (length_agrees t len) (refused BadLength)
    (guard (consistent_of t) (refused InvalidParam)
    (guard (runs_as capture t) (refused InvalidParam)
    rest))

-- 2026-11: 10 too "at a turn for room not as long as at the start"
abbrev pub room_agrees : Track → ℕ → Bool
room_agrees t room = not t.running || eqb room t.room

-- A TURN, lent frames and room for its trace, each of some length
unfoldable pub traced_call : Track → ℕ → ℕ → Reading → Step
traced_call t len room reading =
    guard (room_agrees t room) (refused_of BadLength t)
    (admit false t len (λ r. refused_of r t) (counted_of (turn_of t.descriptors t (comes_to played_of reading) reading)))

-- a track whose trace is so long (crate trace has what a turn writes); nothing else of it is another
abbrev pub written_in : ℕ → Track → Track
written_in written t =
    record {
      descriptors = t.descriptors;
      head = t.head;
      tail = t.tail;
      inflight = t.inflight;
      stream = t.stream;
      total = t.total;
      period = t.period;
      next = t.next;
      budget = t.budget;
      turns = t.turns;
      running = t.running;
      capture = t.capture;
      lent = t.lent;
      kept = t.kept;
      room = t.room;
      written = written;
      good = t.good;
    }

-- one that writes no trace is lent no room
abbrev pub turn_call : Track → ℕ → Reading → Step
turn_call t len reading = traced_call t len 0 reading

-- "After 2, 6 or 9 drain turns free owed slots, oldest first, ignoring status; a wrong slot, or any when none is owed, gives 6 and frees none;
-- a right slot or a quiet reading gives Ok."
abbrev pub freed_of : Track → ℕ → ℕ → Step
freed_of t slot status =
    guard (is_oldest t slot) (unchanged_of (Ended WrongToken) t)
    (record { track = release t; sent = None; heard = freed_slot slot status; said = Done })

abbrev pub drained : Track → Reading → Step
drained t None = unchanged_of Done t
drained t (Some c) = freed_of t c.slot c.status

-- A DRAIN TURN: 1 for an inconsistent ring, 1 while a transfer runs
unfoldable pub drain_call : Track → Reading → Step
drain_call t reading =
    guard (consistent_of t) (refused_of InvalidParam t)
    (guard t.running (drained t reading)
    (refused_of InvalidParam t))

-- "A transfer starts with 32 free descriptors, head and tail 0." Something of a length is lent, and room for a trace; nothing was accepted yet
abbrev pub begun_in : ℕ → Bool → ℕ → Track → ℕ → ℕ → ℕ → ℕ → Track
begun_in room capture lent t stream total period budget =
    record {
      descriptors = t.descriptors;
      head = 0;
      tail = 0;
      inflight = 0;
      stream = stream;
      total = total;
      period = period;
      next = 0;
      budget = budget;
      turns = 0;
      running = true;
      capture = capture;
      lent = lent;
      kept = 0;
      room = room;
      written = 0;
      good = 0;
    }

-- without a trace
abbrev pub begun_as : Bool → ℕ → Track → ℕ → ℕ → ℕ → ℕ → Track
begun_as capture lent t stream total period budget = begun_in 0 capture lent t stream total period budget

-- a playback is lent its frames
abbrev pub begun : Track → ℕ → ℕ → ℕ → ℕ → Track
begun t stream total period budget = begun_as false total t stream total period budget

-- no transfer runs and no slot is in flight
abbrev pub idle_of : Track → Bool
idle_of t = not t.running && eqb t.inflight 0

-- the start of either direction: 1 for an inconsistent ring, 8, 1 for a period of 0, 9 for a budget of 0
abbrev pub ready : {A : Type 0} → Track → ℕ → ℕ → (Refusal → A) → A → A
ready t period budget refused rest =
    guard (consistent_of t) (refused InvalidParam)
    (guard (idle_of t) (refused Busy)
    (guard (ltb 0 period) (refused InvalidParam)
    (guard (ltb 0 budget) (refused OutOfTurns)
    rest)))

-- THE START of a transfer, "nothing submitted"
unfoldable pub start_call : Track → ℕ → ℕ → ℕ → ℕ → Step
start_call t stream total period budget = ready t period budget (λ r. refused_of r t) (unchanged_of Going (begun t stream total period budget))

-- the periods of so many bytes, the last one perhaps shorter
abbrev pub periods_of : ℕ → ℕ → ℕ
periods_of total period = total / period + pick (eqb (total % period) 0) 0 1

-- 2026-11, THE START of a transfer that writes a trace: the refusals of a start, and then 10, "last before the first turn, for frames of 2^32 bytes or more or room
-- under 19 + 20n"
unfoldable pub start_traced : Track → ℕ → ℕ → ℕ → ℕ → ℕ → Step
start_traced t stream total period budget room =
    ready t period budget (λ r. refused_of r t)
    (guard (ltb total 4294967296) (refused_of BadLength t)
    (guard (leb (19 + 20 * periods_of total period) room) (refused_of BadLength t)
    (unchanged_of Going (begun_in room false total t stream total period budget))))

-- ---- the same of the ring: what was submitted stands in its slot

abbrev pub carry : List Slot → Sent → List Slot
carry slots None = slots
carry slots (Some p) = set slots p.slot (record { offset = p.offset; len = p.len })

abbrev pub ring_after : Ring → Step → Ring
ring_after r s = record { track = s.track; slots = carry r.slots s.sent }

-- the number of turns run in this transfer is the ring's; a start has run none
abbrev pub turned_of : Ring → Step → Turned
turned_of r s = record { ring = ring_after r s; sent = s.sent; heard = s.heard; said = s.said; turns = s.track.turns }

abbrev pub started_of : Ring → Step → Turned
started_of r s = record { ring = ring_after r s; sent = s.sent; heard = s.heard; said = s.said; turns = 0 }

-- ---- what the next turn submits, and its refusals: those of the turn

abbrev pub offer_by : Choice → Track → Sent
offer_by Submit t = sent_of t
offer_by Finish t = None
offer_by Wait t = None

unfoldable pub offer_as : Bool → Track → ℕ → Result Sent Refusal
offer_as capture t len = admit capture t len Err (Ok (offer_by (choose_of t.descriptors t) t))

abbrev pub offer_call : Track → ℕ → Result Sent Refusal
offer_call = offer_as false

-- the period itself, as a part of the frames; where there is none, or the turn would be refused, an empty part
abbrev pub shown_by : {A : Type 0} → Result Sent Refusal → List A → List A
shown_by (Ok sent) frames = payload frames sent
shown_by (Err r) frames = []

-- what the next turn submits: 1, slot, offset and length; or four zeros
abbrev pub says_sent : Sent → Says
says_sent None = says 0 (0 ∷ 0 ∷ 0 ∷ 0 ∷ [])
says_sent (Some p) = says 0 (1 ∷ p.slot ∷ p.offset ∷ p.len ∷ [])

abbrev pub says_offer : Result Sent Refusal → Says
says_offer (Ok sent) = says_sent sent
says_offer (Err r) = says_refusal r
