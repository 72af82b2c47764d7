-- By what was sent. Assumes nothing.
use Rattle.ring_store.proofs.store.put_sent.Goals as goal

pub returns-in-Some : goal.returns-in-Some
returns-in-Some c = rw c.in-Some.is c.put_slot.ensures
