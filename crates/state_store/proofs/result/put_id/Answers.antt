-- `state_store::result::put_id` meets its contract, where the id is wanted and where not. Assumes nothing.
use Rattle.std.proofs.Common.{refl}
use borrow.Author.Tests.{not-true, not-false}
use Rattle.state_store.proofs.result.put_id.Goals as goal

pub returns-then-not-wanted : goal.returns-then-not-wanted
returns-then-not-wanted c = rw (not-true c.args.wanted c.if-not-wanted.true-raw) (record { count = refl; bytes = refl })

pub returns : goal.returns
returns c =
    rw (not-false c.args.wanted c.if-not-wanted.false-raw) (record { count = refl; bytes = c.put_u32.ensures })
