-- `sound_core::decide::own_set` meets its contract, test by test. Assumes nothing.
use borrow.Author.Tests.{lt-ltb, le-ltb}
use Rattle.codes.specs.SaysLaws.{passed, failed, passes, stops}
use Rattle.sound_core.specs.Plan.{own_set}
use Rattle.sound_core.proofs.decide.own_set.Goals as goal

pub returns-then-not-period_ok : goal.returns-then-not-period_ok
unfolding own_set
returns-then-not-period_ok c = stops _ _ _ (failed c.period_ok.ensures c.if-not-period_ok.true-raw) c.end_refused.ensures

pub returns-then-streams-stream : goal.returns-then-streams-stream
unfolding own_set
returns-then-streams-stream c = passes _ _ _ (passed c.period_ok.ensures c.if-not-period_ok.false-raw) (stops _ _ _ (le-ltb _ _ c.if-streams-stream.true) c.end_refused-then-streams-stream.ensures)

pub returns-then-not-permitted : goal.returns-then-not-permitted
unfolding own_set
returns-then-not-permitted c =
    passes _ _ _ (passed c.period_ok.ensures c.if-not-period_ok.false-raw)
    (passes _ _ _ (lt-ltb _ _ c.if-streams-stream.false) (stops _ _ _ (failed c.may-permitted.ensures c.if-not-permitted.true-raw) c.end_refused-then-not-permitted.ensures))

pub returns : goal.returns
unfolding own_set
returns c =
    passes _ _ _ (passed c.period_ok.ensures c.if-not-period_ok.false-raw)
    (passes _ _ _ (lt-ltb _ _ c.if-streams-stream.false)
    (passes _ _ _ (passed c.may-permitted.ensures c.if-not-permitted.false-raw) (simp (c.send.ensures, c.set_parameters.ensures))))
