-- The length, and then the status. Assumes nothing.
use mathlib.Core.Path.{sym, ◌∙◌}
use Rattle.codes.specs.SaysLaws.{picks, skips}
use Rattle.turns.specs.Capture.{captured_of}
use Rattle.turns.specs.CallLaws.{passed, failed}
use Rattle.turns.proofs.capture.captured.Goals as goal

pub returns-then-not-good : goal.returns-then-not-good
unfolding captured_of
returns-then-not-good c = sym (skips _ _ _ (failed c.length_good-good.ensures c.if-not-good.true-raw))

pub returns : goal.returns
unfolding captured_of
returns c = c.played.ensures ∙ sym (picks _ _ _ (passed c.length_good-good.ensures c.if-not-good.false-raw))
