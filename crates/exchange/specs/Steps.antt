-- What the private functions promise, where the public definitions have no name for it: the steps between them.
-- Assumes nothing.
use Rattle.std.specs.Prelude.{ℕ, ◌+◌, slice_set}
use Rattle.exchange.specs.Types.{StreamList}

-- one more id
abbrev pub pushed : StreamList → ℕ → StreamList
pushed l id = record { count = l.count + 1; ids = slice_set l.ids l.count id }
