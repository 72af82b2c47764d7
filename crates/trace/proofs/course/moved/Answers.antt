-- By the kind of field. Assumes nothing.
use mathlib.Core.Path.{refl}
use Rattle.trace.specs.MoveLaws.{moved-is}
use Rattle.trace.proofs.course.moved.Goals as goal

pub returns-in-Start : goal.returns-in-Start
returns-in-Start c = moved-is _ _ _ _ _ _ _ c.in-Start.is c.choose-choice.ensures refl

pub returns-in-Submitted : goal.returns-in-Submitted
returns-in-Submitted c = moved-is _ _ _ _ _ _ _ c.in-Submitted.is c.choose-choice.ensures c.sent_by.ensures

pub returns-in-Completed : goal.returns-in-Completed
returns-in-Completed c = moved-is _ _ _ _ _ _ _ c.in-Completed.is c.choose-choice.ensures c.done_by.ensures

pub returns-in-End : goal.returns-in-End
returns-in-End c = moved-is _ _ _ _ _ _ _ c.in-End.is c.choose-choice.ensures c.end_by.ensures
