-- DOCUMENT 01'S TURN FROM ITS OWN WORDS, over two numbers: the periods that went out, and those that came back. Start here: that the rules of the code are
-- this turn is `turn-is-paper`, that a transfer turn by turn is `paper_run` is `transfer-is-paper` (PaperTransfer).
-- Assumes nothing.
use Rattle.std.specs.Prelude.{ℕ, zero, suc, ◌+◌, ◌-◌, ◌*◌, ◌%◌, min, ◌≡◌, Bool, true, false, ◌&&◌, List, [], ◌∷◌, ltb, leb, eqb, Some, None}
use Rattle.codes.specs.Says.{pick}
use Rattle.turns.specs.Cut.{span_of}
use Rattle.turns.specs.Ring.{going, says_said}
use Rattle.turns.specs.Log.{Line, first_of, rest_of}
use Rattle.turns.specs.Types.{Track, Sent, Heard, Step, Reading, freed_slot, sent_period}

-- how many periods went out, and how many of them came back
pub record Window : Type 0 where
  pub out : ℕ
  pub back : ℕ

-- "A transfer starts with 32 free descriptors, head and tail 0"
abbrev pub at_first : Window
at_first = record { out = 0; back = 0 }

abbrev pub in_flight : Window → ℕ
in_flight w = w.out - w.back

-- what a turn does: the window after it, whether it submits a period and whether it frees one, and its answer (`going`, 512, where it has none)
pub record PaperTurn : Type 0 where
  pub window : Window
  pub submits : Bool
  pub frees : Bool
  pub answer : ℕ

-- "2. The turn's reading is quiet, or a completed slot with a status. Not the oldest in flight, or nothing in flight: end with 6. Otherwise free the slot;
-- a status other than 0x8000 ends with 2." Periods go out at slots 0, 1, .. ("Head and tail return to 0 after 31"), so the oldest in flight is at `back %
-- 32`
abbrev pub rule_two : Bool → Window → Reading → PaperTurn
rule_two submits w None = record { window = w; submits = submits; frees = false; answer = going }
rule_two submits w (Some c) =
    pick (ltb w.back w.out && eqb c.slot (w.back % 32))
    (record { window = record { out = w.out; back = suc w.back }; submits = submits; frees = true; answer = pick (eqb c.status 0x8000) going 2 })
    (record { window = w; submits = submits; frees = false; answer = 6 })

-- of a transfer of so many bytes in periods of so many, with so many descriptors to a submission and so many that must be free for one (3 and 3, or 1 and 1)
module _ (descriptors least period total : ℕ) where
  -- "1. If 3 or more descriptors are free: if a period remains, submit it at head (3 descriptors), ..; else if nothing is in flight, end with Ok and do not
  -- look at the reading." And then rule 2
  abbrev pub paper_turn : Window → Reading → PaperTurn
  paper_turn w reading =
      pick (leb least (32 - in_flight w * descriptors))
      (pick (ltb (w.out * period) total) (rule_two true (record { out = suc w.out; back = w.back }) reading)
      (pick (eqb (in_flight w) 0) (record { window = w; submits = false; frees = false; answer = 0 })
      (rule_two false w reading)))
      (rule_two false w reading)

-- "showing that part of the caller's frames itself": what goes out is the next period
abbrev pub goes_out : ℕ → ℕ → Bool → Window → Sent
goes_out period total true w = sent_period (w.out % 32) (w.out * period) (span_of period total (w.out * period))
goes_out period total false w = None

-- what comes back is what the reading names
abbrev pub comes_back : Bool → Reading → Heard
comes_back true (Some c) = freed_slot c.slot c.status
comes_back true None = None
comes_back false reading = None

-- "Each turn, the last included, counts one against the budget. .. The turn that spends the last one without another answer gives 9", with so many left after
-- it
abbrev pub paper_answer : ℕ → ℕ → ℕ
paper_answer left answer = pick (eqb answer going && eqb left 0) 9 answer

-- a line of a transfer's log: what went out, what came back, and the number of the answer
pub record PaperLine : Type 0 where
  pub sent : Sent
  pub heard : Heard
  pub answer : ℕ

-- A TRANSFER: turn after turn until one answers, with so many turns of the budget left. "Readings past the end of the script are quiet."
module _ (descriptors least period total : ℕ) where
  unfoldable pub paper_run : ℕ → Window → List Reading → List PaperLine
  paper_run zero w script = []
  paper_run (suc left) w script =
      let p = paper_turn descriptors least period total w (first_of script) in
      let answer = paper_answer left p.answer in
      record { sent = goes_out period total p.submits w; heard = comes_back p.frees (first_of script); answer = answer }
      ∷ pick (eqb answer going) (paper_run left p.window (rest_of script)) []

-- ---- what a track and a step of the code have to do with it

module _ (descriptors period total : ℕ) where
  -- a track stands at a window: it is the transfer's, and the two numbers tell its head, tail, number in flight and next offset
  pub record StandsAt (t : Track) (w : Window) : Type 0 where
    pub mode : t.descriptors ≡ descriptors
    pub each : t.period ≡ period
    pub all : t.total ≡ total
    pub head : t.head ≡ w.out % 32
    pub tail : t.tail ≡ w.back % 32
    pub inflight : t.inflight + w.back ≡ w.out
    pub next : t.next ≡ min (w.out * period) total

  -- a step is the paper's turn from a window: where it leaves the track, what went out and came back, and the number of its answer
  pub record IsTurn (w : Window) (reading : Reading) (s : Step) (p : PaperTurn) (answer : ℕ) : Type 0 where
    pub stands : StandsAt s.track p.window
    pub sent : s.sent ≡ goes_out period total p.submits w
    pub heard : s.heard ≡ comes_back p.frees reading
    pub said : (says_said s.said).number ≡ answer

abbrev pub paper_line : Line → PaperLine
paper_line l = record { sent = l.sent; heard = l.heard; answer = (says_said l.said).number }
