-- `sound_core::decide::answer` meets its contract: the page's length, the consistency test, then by what was asked. Assumes nothing.
use mathlib.Core.Path.{sym, ap, ◌∙◌}
use Rattle.std.specs.Prelude.{not}
use Rattle.sound_core.specs.Plan.{answer_of}
use Rattle.codes.specs.SaysLaws.{passes, stops}
use Rattle.codes.specs.SaysLaws.{passed, failed}
use Rattle.sound_core.proofs.decide.answer.Goals as goal

pub returns-then-wrong : goal.returns-then-wrong
unfolding answer_of
returns-then-wrong c = stops _ _ _ (ap not (sym (rw c.number.ensures at c.refused_by-wrong.ensures) ∙ c.if-wrong.true)) c.refuse.ensures

pub returns-then-not-consistent : goal.returns-then-not-consistent
unfolding answer_of
returns-then-not-consistent c =
    passes _ _ _ (ap not (sym (rw c.number.ensures at c.refused_by-wrong.ensures) ∙ c.if-wrong.false))
    (stops _ _ _ (failed c.consistent.ensures c.if-not-consistent.true-raw) c.refuse-then-not-consistent.ensures)

pub returns : goal.returns
unfolding answer_of
returns c =
    passes _ _ _ (ap not (sym (rw c.number.ensures at c.refused_by-wrong.ensures) ∙ c.if-wrong.false))
    (passes _ _ _ (passed c.consistent.ensures c.if-not-consistent.false-raw) c.answer_by.ensures)
