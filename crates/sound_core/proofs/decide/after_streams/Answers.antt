-- `sound_core::decide::after_streams` meets its contract. Assumes nothing.
use Rattle.codes.specs.SaysLaws.{passed, failed, passes, stops}
use Rattle.sound_core.specs.Plan.{after_streams}
use Rattle.sound_core.proofs.decide.after_streams.Goals as goal

pub returns-then-not-is_good : goal.returns-then-not-is_good
unfolding after_streams
returns-then-not-is_good c = stops _ _ _ (failed c.is_good.ensures c.if-not-is_good.true-raw) (simp (c.cut_short.ensures, c.refusal-r.ensures, c.cause.ensures))

pub returns : goal.returns
unfolding after_streams
returns c = passes _ _ _ (passed c.is_good.ensures c.if-not-is_good.false-raw) (simp (c.send.ensures, c.query-q.ensures))
