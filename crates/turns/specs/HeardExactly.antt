-- 2026-13, "the accepted payloads are exactly the first k periods", with acceptance read off the log itself: which submissions have a good completion at their place.
-- Assumes nothing.
use Rattle.std.specs.Prelude.{ℕ, ◌≡◌, List, length, take}
use Rattle.turns.specs.Cut.{cut}
use Rattle.turns.specs.Log.{turn_by_turn, sends, frees}
use Rattle.turns.specs.Asked.{starts}
use Rattle.turns.specs.Heard.{spoken, accepted_payloads, heard-so-far}
use Rattle.turns.specs.AcceptedLaws.{accepts-first}
use Rattle.turns.specs.Types.{Ring, Going, Reading}

-- after every number of turns of a start that goes on, so also where it ended: k is what the ring tells (`told` in HeardOut)
pub accepted-exactly : (r : Ring) (stream period budget : ℕ) (frames : List ℕ) (script : List Reading) → (starts r stream period budget frames).said ≡ Going
    → length r.slots ≡ 32 → (n : ℕ) → let h = turn_by_turn (length frames) n (starts r stream period budget frames).ring script in
    accepted_payloads frames (sends h.log) (frees h.log) ≡ take (spoken h) (cut period frames)
accepted-exactly r stream period budget frames script began size n = accepts-first period frames _ (heard-so-far r stream period budget frames script began size n)
