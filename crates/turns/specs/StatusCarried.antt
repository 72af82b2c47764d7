-- 2026-05, "2 and 3 keep number and place and carry the status that caused them": of every line of a transfer and of a capture, on any ring. A 2 is of the completion that
-- its turn read, of the slot that it freed, and carries that status.
-- Assumes nothing.
use Rattle.std.specs.Prelude.{ℕ, List, length, None}
use Rattle.layout.specs.All.{All}
use Rattle.turns.specs.Asked.{LineCarries}
use Rattle.turns.specs.Captured.{Came, nothing_came, catch_in, Taken, taking, takes}
use Rattle.turns.specs.Log.{called, turn_by_turn}
use Rattle.turns.specs.LoopLaws.{all_lines}
use Rattle.turns.specs.StatusLaws.{traced-carries, capture-carries}
use Rattle.turns.specs.Types.{Ring, Reading}

pub status-carried : (len fuel : ℕ) (r : Ring) (script : List Reading) → All LineCarries (turn_by_turn len fuel r script).log
status-carried len = all_lines LineCarries None (called len) (λ r x. traced-carries r.track len 0 x)

pub status-carried-of-capture : (fuel : ℕ) (a : Taken) (script : List Came) → All LineCarries (takes fuel a script).log
status-carried-of-capture = all_lines LineCarries nothing_came taking (λ a x. capture-carries a.ring.track (length a.recording) (catch_in x))
