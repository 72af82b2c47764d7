-- By what was sent. Assumes nothing.
use Rattle.codes.specs.Says.{guard}
use Rattle.ring_store.proofs.reads.tell_room.Goals as goal

pub returns-in-None : goal.returns-in-None
unfolding guard
returns-in-None c = rw c.in-None.is c.tell.ensures

pub returns-in-Some : goal.returns-in-Some
unfolding guard
returns-in-Some c = rw c.in-Some.is c.tell-in-Some.ensures
