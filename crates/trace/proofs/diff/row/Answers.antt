-- By the kind of difference. Assumes nothing.
use Rattle.trace.proofs.diff.row.Goals as goal

pub returns-in-OnlyFirst : goal.returns-in-OnlyFirst
returns-in-OnlyFirst c = rw (c.contents-f.ensures, c.in-OnlyFirst.is)

pub returns-in-OnlySecond : goal.returns-in-OnlySecond
returns-in-OnlySecond c = rw (c.contents-g.ensures, c.in-OnlySecond.is)

pub returns-in-Other : goal.returns-in-Other
returns-in-Other c = rw (c.contents-g-in-Other.ensures, c.contents-f-in-Other.ensures, c.in-Other.is)
