-- `exchange::nonblocking::pcm_xfer_mark` meets its contract. Assumes nothing.
use Rattle.std.proofs.Common.{◌∙◌}
use Rattle.codes.specs.SaysLaws.{passed, failed}
use Rattle.exchange.specs.SubmitLaws.{mark-barred, mark-quiet, mark-told}
use Rattle.exchange.proofs.nonblocking.pcm_xfer_mark.Goals as goal

pub returns-then-not-consistent : goal.returns-then-not-consistent
returns-then-not-consistent c = let a = c.args in c.barred_end.ensures ∙ mark-barred a.s a.reading (failed c.consistent.ensures c.if-not-consistent.true-raw)

pub returns-in-None : goal.returns-in-None
returns-in-None c =
    let a = c.args in
    mark-quiet a.s a.reading (passed c.consistent.ensures c.if-not-consistent.false-raw) c.in-None.is

pub returns-in-Some : goal.returns-in-Some
returns-in-Some c =
    let a = c.args in
    mark-told a.s a.reading _ _ _ _ (passed c.consistent.ensures c.if-not-consistent.false-raw) c.in-Some.is c.mark-j.ensures c.end_by.ensures
