-- `sound_core::decide::after_sent` meets its contract. Assumes nothing.
use Rattle.codes.specs.SaysLaws.{passed, failed, passes, stops}
use Rattle.sound_core.specs.Plan.{after_sent}
use Rattle.sound_core.proofs.decide.after_sent.Goals as goal

pub returns-then-not-is_good : goal.returns-then-not-is_good
unfolding after_sent
returns-then-not-is_good c = stops _ _ _ (failed c.is_good.ensures c.if-not-is_good.true-raw) (simp (c.end_refused.ensures, c.refusal-r.ensures, c.status_refusal.ensures, c.cause.ensures))

pub returns : goal.returns
unfolding after_sent
returns c = passes _ _ _ (passed c.is_good.ensures c.if-not-is_good.false-raw) (simp (c.end.ensures, c.effect_of.ensures))
