-- Where an end may follow, and this one. Assumes nothing.
use mathlib.Core.Path.{refl, sym, ◌∙◌}
use borrow.Author.Tests.{not-true, not-false}
use Rattle.codes.specs.SaysLaws.{passes, stops}
use Rattle.trace.proofs.course.end_by.Goals as goal

pub returns-then-not-some_end : goal.returns-then-not-some_end
returns-then-not-some_end c = stops _ _ _ (sym c.some_end.ensures ∙ not-true _ c.if-not-some_end.true-raw) refl

pub returns-then-not-may_end : goal.returns-then-not-may_end
returns-then-not-may_end c = passes _ _ _ (sym c.some_end.ensures ∙ not-false _ c.if-not-some_end.false-raw) (stops _ _ _ (sym c.may_end.ensures ∙ not-true _ c.if-not-may_end.true-raw) refl)

pub returns : goal.returns
returns c = passes _ _ _ (sym c.some_end.ensures ∙ not-false _ c.if-not-some_end.false-raw) (passes _ _ _ (sym c.may_end.ensures ∙ not-false _ c.if-not-may_end.false-raw) refl)
