-- The loop stands where the definition's walk of both traces stands; what is left of both falls. Assumes nothing.
use Prim.Native.Nat.{◌-◌, ◌+◌}
use lib.ListN.{length}
use Rattle.trace.specs.ListedLaws.{Filled}
use Rattle.trace.proofs.diff.fill.Given as goal

abbrev pub invariant-loop-x : goal.invariant-loop-x
invariant-loop-x l = Filled l.first l.second l.initial.list l.at l.bt l.i l.n l.list

abbrev pub decreases-loop-x : goal.decreases-loop-x
decreases-loop-x l = (length l.first - l.at) + (length l.second - l.bt)
