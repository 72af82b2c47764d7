-- The bytes of each kind of field. Assumes nothing.
use mathlib.Core.Path.{sym, ap}
use Rattle.trace.specs.Field.{size_of}
use Rattle.trace.proofs.fields.size.Goals as goal

pub returns-in-Start : goal.returns-in-Start
returns-in-Start c = sym (ap size_of c.in-Start.is)

pub returns-in-Submitted : goal.returns-in-Submitted
returns-in-Submitted c = sym (ap size_of c.in-Submitted.is)

pub returns-in-Completed : goal.returns-in-Completed
returns-in-Completed c = sym (ap size_of c.in-Completed.is)

pub returns-in-End : goal.returns-in-End
returns-in-End c = sym (ap size_of c.in-End.is)
