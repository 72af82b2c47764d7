-- By the cases of the outcome and of what was heard. Assumes nothing.
use Rattle.turns.proofs.capture.accepts.Goals as goal

pub returns-in-Err : goal.returns-in-Err
returns-in-Err c = rw c.in-Err.is

pub returns-in-None : goal.returns-in-None
returns-in-None c = rw (c.in-Ok.is, c.in-None.is)

pub returns-in-Some : goal.returns-in-Some
returns-in-Some c = rw (c.in-Ok.is, c.in-Some.is)
