-- By the cases of the offer. Assumes nothing.
use Rattle.turns.proofs.calls.offered.Goals as goal

pub returns-in-Ok : goal.returns-in-Ok
returns-in-Ok c = rw (← c.next_offer-o.ensures, c.in-Ok.is) c.payload.ensures

pub returns-in-Err : goal.returns-in-Err
returns-in-Err c = rw (← c.next_offer-o.ensures, c.in-Err.is)
