-- By the tests of the flags. Assumes nothing.
use borrow.Author.Tests.{le-leb, lt-leb}
use Rattle.ring_store.proofs.store.descriptors_of.Goals as goal

pub returns-then-running-gt1 : goal.returns-then-running-gt1
returns-then-running-gt1 c = rw (lt-leb _ 1 c.if-running-gt1.true)

pub returns-then-capture-gt1 : goal.returns-then-capture-gt1
returns-then-capture-gt1 c = rw (le-leb _ 1 c.if-running-gt1.false, lt-leb _ 1 c.if-capture-gt1.true)

pub returns-else-capture-gt1 : goal.returns-else-capture-gt1
returns-else-capture-gt1 c = rw (le-leb _ 1 c.if-running-gt1.false, le-leb _ 1 c.if-capture-gt1.false)
