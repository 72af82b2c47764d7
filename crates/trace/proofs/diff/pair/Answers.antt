-- By the tags, then the contents. Assumes nothing.
use Rattle.trace.specs.ListedLaws.{pair-two, pair_same, pair-other}
use Rattle.trace.proofs.diff.pair.Goals as goal

pub returns-then-x-y : goal.returns-then-x-y
returns-then-x-y c = pair-two _ _ _ _ _ c.contents-x.ensures c.contents-y.ensures c.if-x-y.true

pub returns-then-eq : goal.returns-then-eq
returns-then-eq c = let a = c.args in pair_same a.i a.f a.g _ _ c.contents-x.ensures c.contents-y.ensures _ c.if-x-y.false c.eq.ensures c.if-eq.true

pub returns : goal.returns
returns c = let a = c.args in pair-other a.i a.f a.g _ _ c.contents-x.ensures c.contents-y.ensures _ c.if-x-y.false c.eq.ensures c.if-eq.false
