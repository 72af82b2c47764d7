-- `listing::lines::Text::add_decimal` meets its contract, by the number of digits. Assumes nothing.
use borrow.Author.Tests.{lt-ltb, le-ltb}
use Rattle.listing.specs.Listing.{decimal}
use Rattle.listing.proofs.lines.Text.add_decimal.Goals as goal

pub returns-then-n-lt10-clause-adds : goal.returns-then-n-lt10-clause-adds
unfolding decimal
returns-then-n-lt10-clause-adds c = simp (lt-ltb _ _ c.if-n-lt10.true) c.add.ensures

pub returns-then-n-lt100-clause-adds : goal.returns-then-n-lt100-clause-adds
unfolding decimal
returns-then-n-lt100-clause-adds c = simp (le-ltb _ _ c.if-n-lt10.false, lt-ltb _ _ c.if-n-lt100.true) c.add-then-n-lt100.ensures

pub returns-clause-adds : goal.returns-clause-adds
unfolding decimal
returns-clause-adds c = simp (le-ltb _ _ c.if-n-lt10.false, le-ltb _ _ c.if-n-lt100.false) c.add-2.ensures
