-- Rule 2 by the cases of the reading. Assumes nothing.
use Rattle.turns.proofs.rules.hear.Goals as goal

pub returns-in-None : goal.returns-in-None
returns-in-None c = rw c.in-None.is

pub returns-in-Some : goal.returns-in-Some
returns-in-Some c = rw (c.settle.ensures, c.in-Some.is)
