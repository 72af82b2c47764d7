-- By the kind of field. Assumes nothing.
use Rattle.trace.proofs.diff.contents.Goals as goal

pub returns-in-Start : goal.returns-in-Start
returns-in-Start c = rw c.in-Start.is

pub returns-in-Submitted : goal.returns-in-Submitted
returns-in-Submitted c = rw c.in-Submitted.is

pub returns-in-Completed : goal.returns-in-Completed
returns-in-Completed c = rw c.in-Completed.is

pub returns-in-End : goal.returns-in-End
returns-in-End c = rw c.in-End.is
