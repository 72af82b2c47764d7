-- `pending::calls::hold` meets its contract. Assumes nothing.
use Rattle.pending.proofs.calls.hold.Goals as goal

pub returns : goal.returns
returns c = c.with.ensures
