-- WHAT A HOST SEES IS THE LOG, line for line: so what demand 3 says of a log (`Whole`, `Accounted`) it says of what a host was shown and told.
-- Assumes nothing.
use Rattle.std.specs.Prelude.{ℕ, ◌≤◌, ◌≡◌, List, map, length}
use Rattle.layout.specs.Bytes.{Bytes}
use Rattle.layout.specs.Lent.{result_size}
use Rattle.turns.specs.HostLaws.{Runs}
use Rattle.turns.specs.Log.{turn_by_turn}
use Rattle.ring_store.specs.Store.{ring_size, ring_of}
use Rattle.ring_store.specs.Run.{Words, reading_by}
use Rattle.ring_store.specs.Sees.{sees_in, seen_of}
use Rattle.ring_store.specs.SeesLaws.{sees}

-- of a ring's store on which a transfer runs, lent frames of its length and a result slice that is long enough
pub sees-log : (len fuel : ℕ) (s res : List ℕ) (script : List Words) → Bytes s → ring_size ≤ length s → result_size ≤ length res → Runs len (ring_of s).track
    → sees_in len fuel s res script ≡ map (seen_of res) (turn_by_turn len fuel (ring_of s) (map reading_by script)).log
sees-log len fuel s res script b h k runs = sees len fuel s res script b h k runs
