-- By whether the turn goes on, and whether it spent the last of the budget. Assumes nothing.
use borrow.Author.Tests.{eq-eqb, ne_eqb}
use Rattle.turns.specs.Rules.{counted_of}
use Rattle.turns.specs.CallLaws.{passed, failed}
use Rattle.turns.proofs.rules.counted.Goals as goal

pub returns-then-not-goes_on : goal.returns-then-not-goes_on
unfolding counted_of
returns-then-not-goes_on c = rw (c.ticked.ensures, failed c.goes_on.ensures c.if-not-goes_on.true-raw)

pub returns-then-spent-t : goal.returns-then-spent-t
unfolding counted_of
returns-then-spent-t c = rw (c.ticked-then-spent-t.ensures, passed c.goes_on.ensures c.if-not-goes_on.false-raw, eq-eqb _ _ c.if-spent-t.true)

pub returns-else-spent-t : goal.returns-else-spent-t
unfolding counted_of
returns-else-spent-t c = rw (c.ticked-else-spent-t.ensures, passed c.goes_on.ensures c.if-not-goes_on.false-raw, ne_eqb _ _ c.if-spent-t.false)
