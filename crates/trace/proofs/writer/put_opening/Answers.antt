-- Nothing, or the start. Assumes nothing.
use Rattle.trace.specs.PenLaws.{writes-none, writes_one, room-one}
use Rattle.trace.specs.InkLaws.{opening-none, opening-first}
use Rattle.trace.proofs.writer.put_opening.Goals as goal

pub returns-then-t-ne0 : goal.returns-then-t-ne0
returns-then-t-ne0 c = writes-none _ _ _ (opening-none c.args.t c.if-t-ne0.true)

pub put_start-requires : goal.put_start-requires
put_start-requires c =
    room-one _ _ _ _ (opening-first c.args.t c.if-t-ne0.false) c.requires.1.1

pub returns : goal.returns
returns c =
    let t = c.args.t in
    writes_one _ _ _ _ _ _ (opening-first t c.if-t-ne0.false) c.put_start.ensures
