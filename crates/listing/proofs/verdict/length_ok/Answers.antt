-- `listing::verdict::length_ok` meets its contract, test by test. Assumes nothing.
use borrow.Author.Tests.{le-leb, lt-leb}
use Rattle.listing.proofs.verdict.length_ok.Goals as goal

pub returns-then-n-lt-HEADER : goal.returns-then-n-lt-HEADER
returns-then-n-lt-HEADER c = simp (lt-leb _ _ c.if-n-lt-HEADER.true)

pub returns-then-n-gt-PAGE : goal.returns-then-n-gt-PAGE
returns-then-n-gt-PAGE c = simp (le-leb _ _ c.if-n-lt-HEADER.false, lt-leb _ _ c.if-n-gt-PAGE.true)

pub returns : goal.returns
returns c = simp (le-leb _ _ c.if-n-lt-HEADER.false, le-leb _ _ c.if-n-gt-PAGE.false)
