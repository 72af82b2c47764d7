-- `exchange::listing::with_id` meets its contract. Assumes nothing.
use borrow.Author.Tests.{not-true, not-false}
use Rattle.exchange.proofs.listing.with_id.Goals as goal

pub returns-then-not-wanted : goal.returns-then-not-wanted
returns-then-not-wanted c = rw (not-true c.args.wanted c.if-not-wanted.true-raw)

pub returns : goal.returns
returns c = rw (not-false c.args.wanted c.if-not-wanted.false-raw)
