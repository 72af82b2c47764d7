-- Three parts, one behind the other. Assumes nothing.
use Rattle.trace.specs.PenLaws.{room-sent, room-heard, room-said, turn-stored}
use Rattle.trace.proofs.pen.put_turn.Goals as goal

pub put_sent-a-requires : goal.put_sent-a-requires
put_sent-a-requires c = let a = c.args in (c.requires.0, room-sent a.sent a.heard a.said _ _ c.requires.1.1)

pub put_heard-b-requires : goal.put_heard-b-requires
put_heard-b-requires c =
    let a = c.args in
    (c.requires.1.0, room-heard a.sent a.heard a.said _ _ c.requires.1.1 _ _ c.put_sent-a.ensures.0 c.put_sent-a.auto.room)

pub put_said-requires : goal.put_said-requires
put_said-requires c =
    let a = c.args in
    room-said a.sent a.heard a.said _ _ c.requires.1.1 _ _ _ _ c.put_sent-a.ensures.0 c.put_sent-a.auto.room c.put_heard-b.ensures.0 c.put_heard-b.auto.room

pub returns : goal.returns
returns c =
    let a = c.args in
    turn-stored a.sent a.heard a.said _ _ _ _ _ _ _ _ c.put_sent-a.ensures.1 c.put_sent-a.ensures.0 c.put_heard-b.ensures.1 c.put_heard-b.ensures.0 c.put_said.ensures.1 c.put_said.ensures.0
