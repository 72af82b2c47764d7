-- Made of a new track. Assumes nothing.
use Rattle.turns.specs.Ring.{indirect}
use Rattle.ring_store.specs.CallsLaws.{made-new}
use Rattle.ring_store.proofs.calls.new_indirect.Goals as goal

pub returns : goal.returns
returns c =
    made-new c.args.ring.now indirect c.make.ensures c.new_indirect-other.ensures
