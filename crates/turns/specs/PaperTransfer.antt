-- THE RULES ARE DOCUMENT 01'S TURN. `Paper` has its turn and its transfer from its own words, over periods out and periods back.
-- Assumes nothing.
use Rattle.std.specs.Prelude.{ℕ, suc, ◌+◌, ◌≡◌, refl, List, [], ◌∷◌, ◌++◌, map, length, replicate, None}
use Rattle.turns.specs.Ring.{going}
use Rattle.turns.specs.Rules.{comes_to, played_of, turn_of, counted_of}
use Rattle.turns.specs.Asked.{starts, plays}
use Rattle.turns.specs.Paper.{Window, at_first, paper_turn, paper_answer, PaperLine, paper_run, StandsAt, IsTurn, paper_line}
use Rattle.turns.specs.PaperLaws.{turn-paper, plays-paper}
use Rattle.turns.specs.Types.{Track, Ring, Going, Reading, completion, freed_slot, sent_period}

-- "In one turn, in this order: ..": one turn of the rules, counted against the budget, is the paper's turn, for any descriptors to a submission and any least
-- room
pub turn-is-paper : (descriptors least period total left : ℕ) (t : Track) (w : Window) (reading : Reading) → StandsAt descriptors period total t w
    → t.turns + suc left ≡ t.budget
    → let p = paper_turn descriptors least period total w reading in
    IsTurn descriptors period total w reading (counted_of (turn_of least t (comes_to played_of reading) reading)) p (paper_answer left p.answer)
turn-is-paper descriptors least period total left t w reading stands e = turn-paper descriptors least period total left t w reading stands e

-- and so a transfer, turn by turn: after a start that goes on, what each turn sent, freed and answered is what the paper's transfer does, line for line
pub transfer-is-paper : (r : Ring) (stream period budget : ℕ) (frames : List ℕ) (script : List Reading) → (starts r stream period budget frames).said ≡ Going
    → let d = r.track.descriptors in
    map paper_line (plays r stream period budget frames script).log ≡ paper_run d d period (length frames) budget at_first script
transfer-is-paper r stream period budget frames script began = plays-paper r stream period budget frames script began

-- "10 bytes, period 4: lengths 4, 4, 2; a right completion every turn: Ok on turn 4", of the paper's transfer itself
pub paper-ten : paper_run 3 3 4 10 9 at_first (completion 0 0x8000 ∷ completion 1 0x8000 ∷ completion 2 0x8000 ∷ [])
    ≡ record { sent = sent_period 0 0 4; heard = freed_slot 0 0x8000; answer = going }
    ∷ record { sent = sent_period 1 4 4; heard = freed_slot 1 0x8000; answer = going }
    ∷ record { sent = sent_period 2 8 2; heard = freed_slot 2 0x8000; answer = going }
    ∷ record { sent = None; heard = None; answer = 0 }
    ∷ []
unfolding paper_run
paper-ten = refl

-- "11 periods, all quiet, budget 12: answer 9, 10 in flight"
pub paper-eleven : let log = paper_run 3 3 1 11 12 at_first [] in (map (λ (l : PaperLine). l.answer) log ≡ replicate 11 going ++ (9 ∷ []))
unfolding paper_run
paper-eleven = refl
