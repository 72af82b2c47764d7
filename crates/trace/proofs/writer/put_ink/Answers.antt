-- The start, and behind it the fields of the turn. Assumes nothing.
use Rattle.trace.specs.InkLaws.{room-opening, room-turn, ink-stored}
use Rattle.trace.proofs.writer.put_ink.Goals as goal

pub put_opening-at-requires : goal.put_opening-at-requires
put_opening-at-requires c =
    let a = c.args in
    (c.requires.0, (c.requires.1.0, room-opening a.t a.s _ c.requires.1.1.1.1))

pub put_turn-requires : goal.put_turn-requires
put_turn-requires c =
    let a = c.args in
    let pre = c.requires.1.1 in
    (pre.0, (pre.1.0, room-turn a.t a.s _ _ _ pre.1.1 c.put_opening-at.ensures.0 c.put_opening-at.auto.room))

pub returns : goal.returns
returns c =
    let a = c.args in
    ink-stored a.t a.s _ _ _ _ _ c.put_opening-at.ensures c.put_turn.ensures
