-- WHAT A TURN FREED IS WHAT ITS READING NAMED, of every line of a log, on any ring: so a completion with another status is one that the device reported.
-- Assumes nothing.
use Rattle.std.specs.Prelude.{ℕ, List, length, None}
use Rattle.layout.specs.All.{All}
use Rattle.turns.specs.Asked.{FreesWhatWasRead}
use Rattle.turns.specs.Captured.{Came, nothing_came, catch_in, Taken, taking, takes}
use Rattle.turns.specs.Log.{called, turn_by_turn}
use Rattle.turns.specs.FreedLaws.{traced-named, capture-named}
use Rattle.turns.specs.LoopLaws.{all_lines}
use Rattle.turns.specs.Types.{Ring, Reading}

-- "a completed slot with a status .. free the slot"
pub freed-is-read : (len fuel : ℕ) (r : Ring) (script : List Reading) → All FreesWhatWasRead (turn_by_turn len fuel r script).log
freed-is-read len = all_lines FreesWhatWasRead None (called len) (λ r x. traced-named r.track len 0 x)

pub freed-is-read-of-capture : (fuel : ℕ) (a : Taken) (script : List Came) → All FreesWhatWasRead (takes fuel a script).log
freed-is-read-of-capture = all_lines FreesWhatWasRead nothing_came taking (λ a x. capture-named a.ring.track (length a.recording) (catch_in x))
