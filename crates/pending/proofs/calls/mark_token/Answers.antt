-- `pending::calls::mark_token` meets its contract. Assumes nothing.
use Rattle.pending.specs.CallLaws.{mark-wrong, mark-done}
use Rattle.pending.proofs.calls.mark_token.Goals as goal

pub returns-then-t-ne1 : goal.returns-then-t-ne1
returns-then-t-ne1 c = mark-wrong c.args.t c.args.status c.if-t-ne1.true

pub returns : goal.returns
returns c = mark-done c.args.t c.args.status c.if-t-ne1.false
