-- Where a submission may follow. Assumes nothing.
use mathlib.Core.Path.{refl, sym, ◌∙◌}
use borrow.Author.Tests.{not-true, not-false}
use Rattle.codes.specs.SaysLaws.{passes, stops}
use Rattle.trace.proofs.course.sent_by.Goals as goal

pub returns-then-not-may_send : goal.returns-then-not-may_send
returns-then-not-may_send c = stops _ _ _ (sym c.may_send.ensures ∙ not-true _ c.if-not-may_send.true-raw) refl

pub returns : goal.returns
returns c = passes _ _ _ (sym c.may_send.ensures ∙ not-false _ c.if-not-may_send.false-raw) c.sent_moved.ensures
