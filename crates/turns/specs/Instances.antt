-- INSTANCES, computed: demand 3's premises met with indirect descriptors through a full ring; a capture with indirect descriptors; a host that drains,
-- starts again and lends other frames in between; one that goes on after a capture's turn was refused; what a turn freed.
-- Assumes nothing.
use Rattle.std.specs.Prelude.{ℕ, zero, suc, ◌+◌, ◌%◌, ◌≡◌, refl, List, [], ◌∷◌, ◌++◌, length, replicate, Ok, None}
use Rattle.codes.specs.Says.{guard}
use Rattle.layout.specs.All.{All}
use Rattle.layout.specs.Bytes.{un, bytes_at, num_at}
use Rattle.turns.specs.Cut.{cut_by, cut}
use Rattle.turns.specs.Ring.{direct, indirect, new_ring}
use Rattle.turns.specs.Rules.{choose_of, played_of, is_oldest, judge_of, turn_of, counted_of}
use Rattle.turns.specs.Consistent.{placed_of, paced_of}
use Rattle.turns.specs.Calls.{start_call, traced_call, drain_call, offer_as}
use Rattle.turns.specs.Capture.{catch_of, captured_of, capture_call, capture_start, capture_offer}
use Rattle.turns.specs.Captured.{Came, nothing_came, Taken, capture_starts, taking, captures}
use Rattle.turns.specs.Log.{Ran, loop_of, turn_by_turn, frees}
use Rattle.turns.specs.Asked.{starts, plays, Idle, NoFault, CompletesWithin}
use Rattle.turns.specs.PremiseLaws.{by-faultless, by-within}
use Rattle.turns.specs.RefusedTurns.{goes_over, admitted_by}
use Rattle.turns.specs.AnyHost.{turning, draining, starting, acts}
use Rattle.turns.specs.Heard.{spoken}
use Rattle.turns.specs.Types.{Ring, Done, Reading, completion, freed_slot, sent_period}

-- a completion every turn, from a slot on
abbrev each : ℕ → ℕ → List Reading
each zero slot = []
each (suc n) slot = completion slot 0x8000 ∷ each n ((slot + 1) % 32)

-- 40 periods, 33 quiet turns (after 32 of them the ring is full), then a completion every turn
abbrev pub through_full : Ran Ring
through_full = plays (new_ring indirect) 0 3 1361 (replicate 119 7) (replicate 33 None ++ each 40 0)

pub through-full : (through_full.said ≡ Done) × (length through_full.log ≡ 74) × (length (cut {A = ℕ} 3 (replicate 119 7)) ≡ 40) × (spoken through_full ≡ 40)
    × ((turn_by_turn 119 33 (starts (new_ring indirect) 0 3 1361 (replicate 119 7)).ring (replicate 33 None)).at.track.inflight ≡ 32)
unfolding loop_of start_call traced_call guard placed_of paced_of turn_of choose_of played_of is_oldest judge_of counted_of cut_by
through-full = (refl, refl, refl, refl, refl)

pub premises-indirect : Idle (new_ring indirect) × All NoFault through_full.log × CompletesWithin 34 through_full.log
unfolding loop_of start_call traced_call guard placed_of paced_of turn_of choose_of played_of is_oldest judge_of counted_of
premises-indirect = (record { consistent = refl; stopped = refl; empty = refl }, by-faultless through_full.log refl, by-within 34 through_full.log refl)

-- any host: drains, starts again and lends other frames in between
pub clumsy-host : (acts (starts (new_ring direct) 0 4 9 (replicate 8 0)).ring
    (draining None ∷ turning 8 (completion 0 0x8000) ∷ turning 7 None ∷ starting 1 4 4 4 ∷ turning 8 (completion 1 0x8000) ∷ turning 8 None ∷ [])).said ≡ Done
unfolding acts loop_of start_call traced_call drain_call guard placed_of paced_of turn_of choose_of played_of is_oldest judge_of counted_of
clumsy-host = refl

-- ---- a capture of two periods of 4 bytes with indirect descriptors, on stream 1

abbrev came : ℕ → List ℕ → List ℕ → Came
came slot payload status = record { kind = 1; slot = slot; written = length payload + 8; bytes = payload ++ status }

abbrev good : List ℕ
good = 0 ∷ 0x80 ∷ 0 ∷ 0 ∷ 0 ∷ 0 ∷ 0 ∷ 0 ∷ []

abbrev two_came : List Came
two_came = came 0 (1 ∷ 2 ∷ 3 ∷ 4 ∷ []) good ∷ came 1 (5 ∷ 6 ∷ []) good ∷ []

abbrev begun : Taken
begun = record { ring = (capture_starts (new_ring indirect) 1 2 4 5 (replicate 9 99)).ring; recording = replicate 9 99 }

abbrev pub captured_two : Ran Taken
captured_two = captures (new_ring indirect) 1 2 4 5 (replicate 9 99) two_came

pub capture-indirect : (captured_two.said ≡ Done) × (length captured_two.log ≡ 3) × (captured_two.at.ring.track.turns ≡ 3) × (captured_two.at.ring.track.stream ≡ 1)
    × (captured_two.at.recording ≡ 1 ∷ 2 ∷ 3 ∷ 4 ∷ 5 ∷ 6 ∷ 99 ∷ 99 ∷ 99 ∷ []) × (frees captured_two.log ≡ freed_slot 0 0x8000 ∷ freed_slot 1 0x8000 ∷ [])
    × (capture_offer begun.ring.track 9 ≡ Ok (sent_period 0 0 4)) × ((capture_call begun.ring.track 9 (catch_of 0 0 0 [])).sent ≡ sent_period 0 0 4)
unfolding loop_of capture_start capture_call offer_as catch_of captured_of guard placed_of paced_of turn_of choose_of played_of is_oldest judge_of counted_of bytes_at num_at un
capture-indirect = (refl, refl, refl, refl, refl, refl, refl, refl)

-- one that lends too few bytes of the first completion and passes it again ends there too: the refused turn is left out
pub short-then-whole : ((goes_over taking begun (came 0 (1 ∷ 2 ∷ 3 ∷ 4 ∷ []) [] ∷ two_came ++ (nothing_came ∷ []))).said ≡ Done)
    × (admitted_by taking begun (came 0 (1 ∷ 2 ∷ 3 ∷ 4 ∷ []) [] ∷ two_came) ≡ two_came)
unfolding goes_over admitted_by capture_start capture_call catch_of captured_of guard placed_of paced_of turn_of choose_of played_of is_oldest judge_of counted_of bytes_at num_at un
short-then-whole = (refl, refl)
