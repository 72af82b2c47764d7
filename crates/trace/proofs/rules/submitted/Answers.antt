-- The span is that of the rules. Assumes nothing.
use Rattle.trace.proofs.rules.submitted.Goals as goal

pub returns : goal.returns
returns c = rw c.span-len.ensures
