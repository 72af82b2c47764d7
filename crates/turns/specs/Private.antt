-- What the private functions promise, where the public definitions have no name for it: the steps between them.
-- Assumes nothing.
use Rattle.std.specs.Prelude.{ℕ, ◌-◌, ◌*◌, ◌/◌, ◌+◌, ◌%◌, ◌≤◌, ◌<◌, List, length, ◌≡◌, ◌⊎◌}
use Rattle.layout.specs.Rows.{rows_at}
use Rattle.turns.specs.Script.{reading_at}
use Rattle.turns.specs.Types.{Track, Reading}
use Rattle.turns.specs.Ring.{direct, indirect}

-- what is left of a script after n readings
unfoldable pub script_from : ℕ → List ℕ → List Reading
script_from n bytes = rows_at reading_at 12 (n * 12) (length bytes / 12 - n) bytes

-- the descriptors to a submission, direct or indirect
abbrev pub Mode : ℕ → Type 0
Mode descriptors = (descriptors ≡ direct) ⊎ (descriptors ≡ indirect)

-- `placed_of`, as facts
pub record Placed (t : Track) : Type 0 where
  pub mode : Mode t.descriptors
  pub head_in : t.head < 32
  pub tail-in : t.tail < 32
  pub room : t.inflight * t.descriptors ≤ 32
  pub line : (t.tail + t.inflight) % 32 ≡ t.head
