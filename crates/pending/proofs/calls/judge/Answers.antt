-- `pending::calls::judge` meets its contract. Assumes nothing.
use Rattle.pending.proofs.calls.judge.Goals as goal

pub returns : goal.returns
returns c = λ i. record { table = c.with.ensures i; said = c.args.t.said }
