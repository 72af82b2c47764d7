-- Made of a new track. Assumes nothing.
use Rattle.turns.specs.Ring.{direct}
use Rattle.ring_store.specs.CallsLaws.{made-new}
use Rattle.ring_store.proofs.calls.new.Goals as goal

pub returns : goal.returns
returns c =
    made-new c.args.ring.now direct c.make.ensures c.new-fresh.ensures
