-- Slot, offset and length, each compared with what is due. Assumes nothing.
use native.Mathlib.Omega.{arith}
use mathlib.Core.Path.{refl, ap, ◌∙◌}
use borrow.Author.Rules.{rules}
use Rattle.trace.specs.Judge.{on}
use Rattle.trace.specs.MoveLaws.{sent-slot, sent-offset, sent-len, sent-on}
use Rattle.trace.specs.declared.field.Stage.TheVariants.{Out}
use Rattle.turns.specs.declared.ring.Track.{Track}
use Rattle.trace.proofs.course.sent_moved.Goals as goal

pub returns-then-slot-t : goal.returns-then-slot-t
returns-then-slot-t c = let a = c.args in sent-slot a.t a.slot a.offset a.len (search rules) (search rules) c.if-slot-t.true

pub overflow_add-result : goal.overflow_add-result
overflow_add-result c = omega (arith, c.other4.ensures.0)

pub returns-then-offset-next : goal.returns-then-offset-next
returns-then-offset-next c = let a = c.args in sent-offset a.t a.slot a.offset a.len _ _ c.if-slot-t.false refl c.if-offset-next.true c.other4.ensures.1

pub overflow_add-result-then-len-due : goal.overflow_add-result-then-len-due
overflow_add-result-then-len-due c = omega (arith, c.other4-then-len-due.ensures.0)

pub returns-then-len-due : goal.returns-then-len-due
returns-then-len-due c = let a = c.args in sent-len a.t a.slot a.offset a.len _ _ c.if-slot-t.false c.if-offset-next.false c.span-due.ensures c.if-len-due.true c.other4-then-len-due.ensures.1

pub returns : goal.returns
returns c = let a = c.args in ap (λ (t : Track). on Out t) c.submitted.ensures ∙ sent-on a.t a.slot a.offset a.len c.if-slot-t.false c.if-offset-next.false (c.if-len-due.false ∙ c.span-due.ensures)
