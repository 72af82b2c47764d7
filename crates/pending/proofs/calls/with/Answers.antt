-- `pending::calls::with` meets its contract. Assumes nothing.
use mathlib.Core.Path.{ap}
use mathlib.Core.List.{List}
use Rattle.pending.specs.declared.table.Token.{Token}
use Rattle.pending.specs.declared.table.Pending.{Pending}
use Rattle.pending.proofs.calls.with.Goals as goal

abbrev table : List Token → Pending
table ts = record { tokens = ts }

pub returns : goal.returns
returns c = ap table c.stored-tokens.ensures
