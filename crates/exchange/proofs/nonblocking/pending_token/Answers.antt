-- `exchange::nonblocking::pending_token` meets its contract. Assumes nothing.
use Rattle.codes.specs.SaysLaws.{passed, failed}
use Rattle.exchange.specs.SubmitLaws.{seen-barred, seen-told}
use Rattle.exchange.proofs.nonblocking.pending_token.Goals as goal

pub returns-then-not-consistent : goal.returns-then-not-consistent
returns-then-not-consistent c = let a = c.args in seen-barred a.s a.token (failed c.consistent.ensures c.if-not-consistent.true-raw)

pub returns : goal.returns
returns c =
    let a = c.args in
    seen-told a.s a.token _ (passed c.consistent.ensures c.if-not-consistent.false-raw) c.look.ensures
