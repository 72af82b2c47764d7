-- `exchange::nonblocking::pcm_xfer_ok` meets its contract. Assumes nothing.
use Rattle.std.proofs.Common.{◌∙◌}
use Rattle.codes.specs.SaysLaws.{passed, failed}
use Rattle.exchange.specs.SubmitLaws.{finish-barred, finish-told}
use Rattle.exchange.proofs.nonblocking.pcm_xfer_ok.Goals as goal

pub returns-then-not-consistent : goal.returns-then-not-consistent
returns-then-not-consistent c = let a = c.args in c.barred_end.ensures ∙ finish-barred a.s a.token (failed c.consistent.ensures c.if-not-consistent.true-raw)

pub returns : goal.returns
returns c =
    let a = c.args in
    finish-told a.s a.token _ _ (passed c.consistent.ensures c.if-not-consistent.false-raw) c.finish-j.ensures c.end_by.ensures
