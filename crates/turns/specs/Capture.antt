-- RECEIVE TURNS (2026-09): the calls of a capture. Turn order, ring and budget are playback's: `turn_of`, `counted_of`, `admit` and `ready` are the very same.
-- Assumes nothing.
use Rattle.std.specs.Prelude.{Bool, true, ◌&&◌, ◌||◌, not, ◌≡◌, List, ℕ, ◌+◌, ◌-◌, ◌*◌, min, leb, length, take, Result, Ok, Err, Some, None}
use Rattle.std.proofs.lemmas.List.Edits.{sets}
use Rattle.codes.specs.Says.{pick, guard}
use Rattle.codes.specs.declared.answers.Refusal.{Refusal}
use Rattle.codes.specs.declared.answers.Refusal.TheVariants.{BadLength, BadCapture}
use Rattle.layout.specs.Bytes.{num_at}
use Rattle.turns.specs.Rules.{comes_to, played_of, turn_of, counted_of}
use Rattle.turns.specs.Calls.{unchanged_of, refused_of, admit, begun_as, ready, turned_of, offer_as}
use Rattle.turns.specs.Script.{reading_of}
use Rattle.turns.specs.Types.{Track, Ring, Sent, Heard, Going, Step, Turned, Reading, Outcome, Catch}

-- "the completion gives the bytes written, payload then the 8-byte status": its 4 bytes of status stand right behind the payload
unfoldable pub catch_of : ℕ → ℕ → ℕ → List ℕ → Catch
catch_of kind slot written bytes = record { reading = reading_of kind slot (num_at (written - 8) 4 bytes); written = written; lent = length bytes }

-- "17 BadCapture for a written length under 8 or above period plus 8"
abbrev pub length_good : ℕ → ℕ → Bool
length_good period written = leb 8 written && leb written (period + 8)

-- "then 17 .., then 2": what a completion comes to, by its written length and then by its status
unfoldable pub captured_of : ℕ → ℕ → ℕ → Outcome
captured_of period written status = pick (length_good period written) (played_of status) (Err BadCapture)

abbrev pub caught_of : Track → Catch → Outcome
caught_of t c = comes_to (captured_of t.period c.written) c.reading

-- a completion is lent what the device wrote, or all that it could have written: period plus 8 bytes
abbrev pub reaches : Reading → ℕ → ℕ → Bool
reaches None lent need = true
reaches (Some c) lent need = leb need lent

abbrev pub lends_all : Track → Catch → Bool
lends_all t c = not t.running || reaches c.reading c.lent (min c.written (t.period + 8))

-- "both last free the slot and accept nothing": a payload is accepted where its slot was freed and it came to no refusal
abbrev pub accepts : Outcome → Heard → ℕ → ℕ
accepts (Ok tt) (Some f) payload = payload
accepts (Ok tt) None payload = 0
accepts (Err r) heard payload = 0

-- the payload, as far as the recording goes: a capture that was started always has room (`recorded`)
abbrev pub payload_for : Track → Catch → ℕ
payload_for t c = min (c.written - 8) (t.lent - t.kept)

abbrev pub kept_more : ℕ → Track → Track
kept_more more t =
    record {
      descriptors = t.descriptors;
      head = t.head;
      tail = t.tail;
      inflight = t.inflight;
      stream = t.stream;
      total = t.total;
      period = t.period;
      next = t.next;
      budget = t.budget;
      turns = t.turns;
      running = t.running;
      capture = t.capture;
      lent = t.lent;
      kept = t.kept + more;
      room = t.room;
      written = t.written;
      good = t.good;
    }

abbrev pub keep_of : ℕ → Step → Step
keep_of more s = record { track = kept_more more s.track; sent = s.sent; heard = s.heard; said = s.said }

-- a turn of the rules, and what it accepted
abbrev pub caught_turn : ℕ → Track → Catch → Step
caught_turn least t c =
    let s = counted_of (turn_of least t (caught_of t c) c.reading) in
    keep_of (accepts (caught_of t c) s.heard (payload_for t c)) s

-- A CAPTURE'S TURN: 10 for a recording "not as long as at the start", or for too few bytes of a completion; then the refusals of a turn
unfoldable pub capture_call : Track → ℕ → Catch → Step
capture_call t len c =
    guard (lends_all t c) (refused_of BadLength t)
    (admit true t len (λ r. refused_of r t) (caught_turn t.descriptors t c))

-- "Accepted payloads are joined into a lent recording .. Only the recording's first accepted bytes change"
abbrev pub recording_after : Track → Step → List ℕ → List ℕ → List ℕ
recording_after t s bytes recording = sets recording t.kept (take (s.track.kept - t.kept) bytes)

-- what a turn's step leaves: the ring and what is told of it, and the recording
abbrev pub Captures : Ring → Step → List ℕ → List ℕ → List ℕ → Turned → Type 0
Captures r s bytes before after told = (told ≡ turned_of r s) × (after ≡ recording_after r.track s bytes before)

-- THE START of a capture of so many periods: the refusals of a start, and then "a recording shorter than n periods gives 10, the last check before the first turn"
unfoldable pub capture_start : Track → ℕ → ℕ → ℕ → ℕ → ℕ → Step
capture_start t stream periods period lent budget =
    ready t period budget (λ r. refused_of r t)
    (guard (leb (periods * period) lent) (refused_of BadLength t)
    (unchanged_of Going (begun_as true lent t stream (periods * period) period budget)))

-- what the next turn submits: a period for the device to write
abbrev pub capture_offer : Track → ℕ → Result Sent Refusal
capture_offer = offer_as true
