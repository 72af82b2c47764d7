-- By the cases of the choice. Assumes nothing.
use Rattle.turns.proofs.calls.offer_by.Goals as goal

pub returns-in-Submit : goal.returns-in-Submit
returns-in-Submit c = rw (c.outgoing.ensures, c.in-Submit.is)

pub returns-in-Finish : goal.returns-in-Finish
returns-in-Finish c = rw c.in-Finish.is

pub returns-in-Wait : goal.returns-in-Wait
returns-in-Wait c = rw c.in-Wait.is
