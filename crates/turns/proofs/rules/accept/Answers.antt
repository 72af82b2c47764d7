-- The oldest is free, and counted. Assumes nothing.
use Rattle.turns.proofs.rules.accept.Goals as goal

pub returns : goal.returns
returns c = rw c.release.ensures
