-- The verdict on the completion, case by case. Assumes nothing.
use borrow.Author.Rules.{rules}
use Rattle.trace.specs.PlayedLaws.{frees-none, frees-other, frees-good, frees-bad}
use Rattle.trace.proofs.course.freed_moved.Goals as goal

pub returns-then-t-eq0 : goal.returns-then-t-eq0
returns-then-t-eq0 c = frees-none _ _ _ (search rules)

pub returns-then-slot-t : goal.returns-then-slot-t
returns-then-slot-t c = frees-other _ _ _ (search rules)

pub returns-then-status-eq-OK : goal.returns-then-status-eq-OK
returns-then-status-eq-OK c = frees-good _ _ _ _ (search rules) (search rules) (search rules) (search rules)

pub returns : goal.returns
returns c = frees-bad _ _ _ _ (search rules) (search rules) (search rules) (search rules)
