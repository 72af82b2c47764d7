-- Nothing runs, nothing was completed, or the bytes are counted. Assumes nothing.
use borrow.Author.Rules.{rules}
use Rattle.turns.specs.CaptureLaws.{lends-idle, lends-quiet, lends-last}
use Rattle.turns.proofs.capture.lends_all.Goals as goal

pub returns-then-not-t : goal.returns-then-not-t
returns-then-not-t c = let a = c.args in lends-idle a.t a.c c.if-not-t.true

pub returns-in-None : goal.returns-in-None
returns-in-None c = let a = c.args in lends-quiet a.t a.c c.if-not-t.false c.in-None.is

pub returns-in-Some : goal.returns-in-Some
returns-in-Some c = let a = c.args in lends-last a.t a.c _ _ _ _ c.if-not-t.false c.in-Some.is c.needed-need.ensures (search rules)
