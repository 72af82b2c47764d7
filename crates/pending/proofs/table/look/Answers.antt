-- `pending::table::look` meets its contract. Assumes nothing.
use Rattle.pending.specs.CallLaws.{seen_none, seen-there}
use Rattle.pending.proofs.table.look.Goals as goal

pub returns-then-k-ge32 : goal.returns-then-k-ge32
returns-then-k-ge32 c = seen_none c.args.p c.args.token c.if-k-ge32.true

pub returns : goal.returns
returns c =
    let a = c.args in
    seen-there a.p a.token _ _ c.if-k-ge32.false c.token_at-t.ensures c.seen_token.ensures
