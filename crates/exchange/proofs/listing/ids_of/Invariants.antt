-- `exchange::listing::ids_of` meets its contract, by the law of a list that grows. Assumes nothing.
use Rattle.std.proofs.Common.{◌≡◌, take}
use Rattle.tables.specs.Tables.{pcms_in}
use Rattle.exchange.specs.Exchange.{ids_from, listed}
use Rattle.exchange.proofs.listing.ids_of.Given as goal

abbrev pub invariant-loop-i : goal.invariant-loop-i
invariant-loop-i l = l.list ≡ listed (ids_from l.direction 0 (take l.i (pcms_in l.tables)))
