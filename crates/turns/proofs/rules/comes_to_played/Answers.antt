-- By the cases of the reading. Assumes nothing.
use Rattle.turns.proofs.rules.comes_to_played.Goals as goal

pub returns-in-None : goal.returns-in-None
returns-in-None c = rw c.in-None.is

pub returns-in-Some : goal.returns-in-Some
returns-in-Some c = rw (c.played.ensures, c.in-Some.is)
