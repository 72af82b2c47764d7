-- No row, one, or two behind one another. Assumes nothing.
use native.Mathlib.Omega.{arith}
use Rattle.trace.specs.ListedLaws.{gap-none, gap-one, gap-two, room-one, room-two}
use Rattle.trace.proofs.diff.put_gap.Goals as goal

pub put_row-requires : goal.put_row-requires
put_row-requires c = room-one _ _ _ _ c.in-One.is c.requires

pub put_row-requires-in-Two : goal.put_row-requires-in-Two
put_row-requires-in-Two c =
    let h = room-two _ _ _ _ _ c.in-Two.is c.requires in
    omega (arith, h)

pub put_row-requires-in-Two-2 : goal.put_row-requires-in-Two-2
put_row-requires-in-Two-2 c =
    let h = room-two _ _ _ _ _ c.in-Two.is c.requires in
    omega (arith, h, c.put_row-in-Two.auto.list)

pub returns-in-Same : goal.returns-in-Same
returns-in-Same c = gap-none _ _ _ c.in-Same.is

pub returns-in-One : goal.returns-in-One
returns-in-One c = gap-one _ _ _ _ _ _ c.in-One.is c.row-r.ensures c.put_row.ensures

pub returns-in-Two : goal.returns-in-Two
returns-in-Two c =
    gap-two _ _ _ _ _ _ _ _ _ c.in-Two.is c.row-r-in-Two.ensures c.row-q.ensures c.put_row-in-Two.ensures c.put_row-in-Two-2.ensures
