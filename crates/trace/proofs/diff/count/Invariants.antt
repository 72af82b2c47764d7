-- The loop stands where the definition's walk of both traces stands; what is left of both falls. Assumes nothing.
use Prim.Native.Nat.{◌-◌, ◌+◌}
use lib.ListN.{length}
use Rattle.trace.specs.ListedLaws.{Meet}
use Rattle.trace.proofs.diff.count.Given as goal

abbrev pub invariant-loop-x : goal.invariant-loop-x
invariant-loop-x l = Meet l.first l.second l.at l.bt l.i l.n

abbrev pub decreases-loop-x : goal.decreases-loop-x
decreases-loop-x l = (length l.first - l.at) + (length l.second - l.bt)
