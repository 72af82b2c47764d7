-- Document 01's worked transfers, computed over the definitions: a new ring, the start of a transfer, and turns until one does not go on.
-- Assumes nothing.
use Rattle.std.specs.Prelude.{ℕ, zero, suc, ◌+◌, ◌≡◌, refl, true, List, [], ◌∷◌, ◌++◌, length, replicate, None, Some}
use Rattle.std.proofs.Common.{inl, inr, arith}
use Rattle.codes.specs.Says.{guard}
use Rattle.codes.specs.declared.answers.Refusal.TheVariants.{WrongToken, OutOfTurns}
use Rattle.layout.specs.All.{All}
use Rattle.layout.specs.Bytes.{un, bytes_at, num_at}
use Rattle.turns.specs.Capture.{catch_of, captured_of, capture_call, capture_start}
use Rattle.turns.specs.Captured.{Came, nothing_came, Taken, captures, Lends, LengthGood}
use Rattle.turns.specs.Cut.{cut_by, cut}
use Rattle.turns.specs.Ring.{direct, indirect, new_ring}
use Rattle.turns.specs.Rules.{choose_of, played_of, is_oldest, judge_of, turn_of, counted_of}
use Rattle.turns.specs.Consistent.{placed_of, paced_of}
use Rattle.turns.specs.Calls.{start_call, started_of, traced_call, drain_call, turned_of, idle_of}
use Rattle.turns.specs.Log.{Ran, loop_of, turn_by_turn, sends}
use Rattle.turns.specs.Asked.{plays, Idle, NoFault, CompletesWithin}
use Rattle.turns.specs.PremiseLaws.{by-faultless, by-within}
use Rattle.turns.specs.Types.{Ring, Sent, Said, Going, Done, Ended, Turned, Reading, completion}

abbrev lens : List Sent → List ℕ
lens [] = []
lens (None ∷ xs) = lens xs
lens (Some p ∷ xs) = p.len ∷ lens xs

-- what the start says, what the turns come to, their number, the lengths that went out, and how many are in flight afterwards
abbrev pub comes_to : ℕ → ℕ → ℕ → List Reading → Said × Said × ℕ × List ℕ × ℕ
comes_to total period budget script =
    let s = started_of (new_ring direct) (start_call (new_ring direct).track 0 total period budget) in
    let h = turn_by_turn total budget s.ring script in
    (s.said, h.said, length h.log, lens (sends h.log), h.at.track.inflight)

-- "empty frames: Ok on turn 1"; "10 bytes, period 4: lengths 4, 4, 2; a right completion every turn: Ok on turn 4";
-- "11 periods, all quiet, budget 12: answer 9, 10 in flight"
pub worked : (comes_to 0 4 5 [] ≡ (Going, Done, 1, [], 0))
    × (comes_to 10 4 9 (completion 0 0x8000 ∷ completion 1 0x8000 ∷ completion 2 0x8000 ∷ []) ≡ (Going, Done, 4, 4 ∷ 4 ∷ 2 ∷ [], 0))
    × (comes_to 11 1 12 [] ≡ (Going, Ended OutOfTurns, 12, replicate 10 1, 10))
unfolding loop_of start_call traced_call guard placed_of paced_of turn_of choose_of played_of is_oldest judge_of counted_of
worked = (refl, refl, refl)

-- "33 periods, all quiet, budget 34", indirect: answer 9, 32 in flight, and head equals tail though the ring is full
abbrev pub quiet_indirect : Ran Ring
quiet_indirect = plays (new_ring indirect) 0 1 34 (replicate 33 7) []

pub full-ring : (quiet_indirect.said ≡ Ended OutOfTurns) × (quiet_indirect.at.track.inflight ≡ 32) × (quiet_indirect.at.track.head ≡ quiet_indirect.at.track.tail)
    × (length quiet_indirect.log ≡ 34) × (length (sends quiet_indirect.log) ≡ 32)
unfolding loop_of start_call traced_call guard placed_of paced_of turn_of choose_of played_of is_oldest judge_of counted_of
full-ring = (refl, refl, refl, refl, refl)

-- ---- DEMAND 3'S PREMISES CAN BE MET, all together: 12 periods, g = 2, a budget of 12 * 2 + 1, a completion every other turn

abbrev two_each : ℕ → ℕ → List Reading
two_each zero slot = []
two_each (suc n) slot = None ∷ completion slot 0x8000 ∷ two_each n (slot + 1)

abbrev pub announced : Ran Ring
announced = plays (new_ring direct) 0 3 25 (replicate 35 7) (two_each 12 0)

-- Ok on the last turn that the theorem allows
pub just-in-time : (announced.said ≡ Done) × (length announced.log ≡ 25) × (length (cut {A = ℕ} 3 (replicate 35 7)) ≡ 12)
unfolding loop_of start_call traced_call guard placed_of paced_of turn_of choose_of played_of is_oldest judge_of counted_of cut_by
just-in-time = (refl, refl, refl)

pub premises-met : Idle (new_ring direct) × (All NoFault announced.log) × (CompletesWithin 2 announced.log)
unfolding loop_of start_call traced_call guard placed_of paced_of turn_of choose_of played_of is_oldest judge_of counted_of
premises-met = (record { consistent = refl; stopped = refl; empty = refl }, by-faultless announced.log refl, by-within 2 announced.log refl)

-- ---- A COMPLETION OUT OF ORDER IS LOST. A device completes slot 1 before slot 0, each once: the transfer ends with 6 and slot 1's completion is gone,
-- a drain turn frees slot 0, and slot 1 stays owed until the host passes its completion again

abbrev out_of_order : Ran Ring
out_of_order = plays (new_ring direct) 0 4 9 (replicate 8 0) (None ∷ completion 1 0x8000 ∷ [])

abbrev drained_once : Turned
drained_once = turned_of out_of_order.at (drain_call out_of_order.at.track (completion 0 0x8000))

pub stuck : (out_of_order.said ≡ Ended WrongToken) × (drained_once.said ≡ Done) × (drained_once.ring.track.inflight ≡ 1)
    × ((turned_of drained_once.ring (drain_call drained_once.ring.track None)).ring.track.inflight ≡ 1)
    × (idle_of (turned_of drained_once.ring (drain_call drained_once.ring.track (completion 1 0x8000))).ring.track ≡ true)
unfolding loop_of start_call traced_call drain_call guard placed_of paced_of turn_of choose_of played_of is_oldest judge_of counted_of
stuck = (refl, refl, refl, refl, refl)

-- ---- A CAPTURE'S PREMISES CAN BE MET: three periods of 4 bytes, g = 2, a budget of 3 * 2 + 1, a recording of 14 bytes, a completion every other turn;
-- the second payload is short, and the next stands right behind it

abbrev came : ℕ → List ℕ → Came
came slot payload = record { kind = 1; slot = slot; written = length payload + 8; bytes = payload ++ (0 ∷ 0x80 ∷ 0 ∷ 0 ∷ 0 ∷ 0 ∷ 0 ∷ 0 ∷ []) }

abbrev heard_three : List Came
heard_three = nothing_came ∷ came 0 (1 ∷ 2 ∷ 3 ∷ 4 ∷ []) ∷ nothing_came ∷ came 1 (5 ∷ []) ∷ nothing_came ∷ came 2 (6 ∷ 7 ∷ 8 ∷ 9 ∷ []) ∷ []

abbrev pub captureds : Ran Taken
captureds = captures (new_ring direct) 1 3 4 7 (replicate 14 99) heard_three

pub captured-just-in-time : (captureds.said ≡ Done) × (length captureds.log ≡ 7) × (captureds.at.ring.track.kept ≡ 9)
    × (captureds.at.recording ≡ 1 ∷ 2 ∷ 3 ∷ 4 ∷ 5 ∷ 6 ∷ 7 ∷ 8 ∷ 9 ∷ replicate 5 99)
unfolding loop_of capture_start capture_call catch_of captured_of guard placed_of paced_of turn_of choose_of played_of is_oldest judge_of counted_of bytes_at num_at un
captured-just-in-time = (refl, refl, refl, refl)

pub capture-premises-met : All (Lends 4) heard_three × All (LengthGood 4) heard_three × All NoFault captureds.log × CompletesWithin 2 captureds.log
unfolding loop_of capture_start capture_call catch_of captured_of guard placed_of paced_of turn_of choose_of played_of is_oldest judge_of counted_of bytes_at num_at un
capture-premises-met = (
  (inl refl, (inr (omega arith), (inl refl, (inr (omega arith), (inl refl, (inr (omega arith), tt)))))),
  (inl refl, (inr (omega arith, omega arith), (inl refl, (inr (omega arith, omega arith), (inl refl, (inr (omega arith, omega arith), tt)))))),
  by-faultless captureds.log refl,
  by-within 2 captureds.log refl,
)
