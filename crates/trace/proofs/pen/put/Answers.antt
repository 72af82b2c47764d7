-- By the kind of field. Assumes nothing.
use Rattle.trace.specs.PenLaws.{put_is, room-is}
use Rattle.trace.proofs.pen.put.Goals as goal

pub put_start-requires : goal.put_start-requires
put_start-requires c = room-is _ _ _ _ c.in-Start.is c.requires

pub put_submitted-requires : goal.put_submitted-requires
put_submitted-requires c = room-is _ _ _ _ c.in-Submitted.is c.requires

pub put_completed-requires : goal.put_completed-requires
put_completed-requires c = room-is _ _ _ _ c.in-Completed.is c.requires

pub put_end-requires : goal.put_end-requires
put_end-requires c = room-is _ _ _ _ c.in-End.is c.requires

pub returns-in-Start : goal.returns-in-Start
returns-in-Start c = put_is _ _ _ _ _ _ c.in-Start.is c.put_start.ensures

pub returns-in-Submitted : goal.returns-in-Submitted
returns-in-Submitted c = put_is _ _ _ _ _ _ c.in-Submitted.is c.put_submitted.ensures

pub returns-in-Completed : goal.returns-in-Completed
returns-in-Completed c = put_is _ _ _ _ _ _ c.in-Completed.is c.put_completed.ensures

pub returns-in-End : goal.returns-in-End
returns-in-End c = put_is _ _ _ _ _ _ c.in-End.is c.put_end.ensures
