-- By the cases of what is sent. Assumes nothing.
use Rattle.turns.proofs.calls.payload.Goals as goal

pub returns-in-Some : goal.returns-in-Some
returns-in-Some c = rw (c.part.ensures, c.in-Some.is)
