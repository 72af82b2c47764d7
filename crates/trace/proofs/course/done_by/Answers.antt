-- Where a completion may follow. Assumes nothing.
use mathlib.Core.Path.{refl, sym, ◌∙◌}
use borrow.Author.Tests.{not-true, not-false}
use Rattle.codes.specs.SaysLaws.{passes, stops}
use Rattle.trace.proofs.course.done_by.Goals as goal

pub returns-then-not-may_free : goal.returns-then-not-may_free
returns-then-not-may_free c = stops _ _ _ (sym c.may_free.ensures ∙ not-true _ c.if-not-may_free.true-raw) refl

pub returns : goal.returns
returns c = passes _ _ _ (sym c.may_free.ensures ∙ not-false _ c.if-not-may_free.false-raw) c.freed_moved.ensures
