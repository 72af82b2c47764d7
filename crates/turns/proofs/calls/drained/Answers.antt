-- By the cases of the reading. Assumes nothing.
use Rattle.turns.proofs.calls.drained.Goals as goal

pub returns-in-None : goal.returns-in-None
returns-in-None c = rw (c.unchanged.ensures, c.in-None.is)

pub returns-in-Some : goal.returns-in-Some
returns-in-Some c = rw (c.freed.ensures, c.in-Some.is)
