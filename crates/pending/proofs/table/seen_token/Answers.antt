-- `pending::table::seen_token` meets its contract. Assumes nothing.
use Rattle.pending.specs.CallLaws.{seen-free, seen-waits, seen-marked}
use Rattle.pending.proofs.table.seen_token.Goals as goal

pub returns-then-t-eq0 : goal.returns-then-t-eq0
returns-then-t-eq0 c = seen-free c.args.t c.if-t-eq0.true

pub returns-then-t-eq1 : goal.returns-then-t-eq1
returns-then-t-eq1 c = seen-waits c.args.t c.if-t-eq0.false c.if-t-eq1.true

pub returns : goal.returns
returns c = seen-marked c.args.t c.if-t-eq0.false c.if-t-eq1.false
