-- `pending::calls::finish_token` meets its contract. Assumes nothing.
use Rattle.pending.specs.CallLaws.{finish-wrong, finish-early, finish-done}
use Rattle.pending.proofs.calls.finish_token.Goals as goal

pub returns-then-t-eq0 : goal.returns-then-t-eq0
returns-then-t-eq0 c = finish-wrong c.args.t c.if-t-eq0.true

pub returns-then-t-eq1 : goal.returns-then-t-eq1
returns-then-t-eq1 c = finish-early c.args.t c.if-t-eq0.false c.if-t-eq1.true

pub returns : goal.returns
returns c =
    finish-done c.args.t _ c.if-t-eq0.false c.if-t-eq1.false c.ended.ensures
