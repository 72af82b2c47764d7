-- The loop stands where the definition's walk stands; what is left of the trace falls. Assumes nothing.
use Prim.Native.Nat.{◌-◌}
use lib.ListN.{length}
use Rattle.trace.specs.Private.{Course}
use Rattle.trace.proofs.course.walk.Given as goal

abbrev pub invariant-loop-at : goal.invariant-loop-at
invariant-loop-at l = Course l.per l.s l.at l.state.stage l.state.track

abbrev pub decreases-loop-at : goal.decreases-loop-at
decreases-loop-at l = length l.s - l.at
