-- Test by test; the sum is not made, since it may not fit. Assumes nothing.
use borrow.Author.Tests.{lt-ltb, le-ltb}
use Rattle.turns.specs.CallLaws.{both-fails, both_rest}
use Rattle.trace.specs.InkLaws.{room-none, room-left}
use Rattle.trace.proofs.writer.pen_fits.Goals as goal

pub returns-then-total-ge4294967296 : goal.returns-then-total-ge4294967296
returns-then-total-ge4294967296 c = both-fails _ _ (le-ltb _ _ c.if-total-ge4294967296.true)

pub returns-then-period-ge4294967296 : goal.returns-then-period-ge4294967296
returns-then-period-ge4294967296 c = both_rest _ _ (lt-ltb _ _ c.if-total-ge4294967296.false) (both-fails _ _ (le-ltb _ _ c.if-period-ge4294967296.true))

pub returns-then-room-more : goal.returns-then-room-more
returns-then-room-more c =
    both_rest _ _ (lt-ltb _ _ c.if-total-ge4294967296.false)
    (both_rest _ _ (lt-ltb _ _ c.if-period-ge4294967296.false) (room-none _ _ _ c.if-room-more.true))

pub returns : goal.returns
returns c =
    both_rest _ _ (lt-ltb _ _ c.if-total-ge4294967296.false)
    (both_rest _ _ (lt-ltb _ _ c.if-period-ge4294967296.false) (room-left _ _ _ c.if-room-more.false))
