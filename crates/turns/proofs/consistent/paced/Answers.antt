-- What is within the frames, and then what a transfer that runs has left. Assumes nothing.
use borrow.Author.Rules.{rules}
use native.Mathlib.Omega.{arith}
use borrow.Author.Tests.{not-true, not-false, lt-leb, eq-eqb}
use mathlib.Core.Bool.{not}
use mathlib.Core.Path.{refl, ap, ◌∙◌}
use Rattle.turns.specs.ConsistentLaws.{refuted, paced-facts, paced-idle, paced-last}
use Rattle.turns.proofs.consistent.paced.Goals as goal

pub returns-then-not-t : goal.returns-then-not-t
returns-then-not-t c = c.if-not-t.true ∙ paced-idle _ (search rules) (not-true _ c.if-not-t.true)

pub returns-then-t-ne0 : goal.returns-then-t-ne0
returns-then-t-ne0 c = paced-last _ _ (search rules) (not-false _ c.if-not-t.false) (omega arith) refl

pub returns-else-t-ne0 : goal.returns-else-t-ne0
returns-else-t-ne0 c = ap not (eq-eqb c.args.t.period 0 (search rules)) ∙ refuted _ (λ e. let h = (paced-facts _ e).some (not-false _ c.if-not-t.false) in omega arith)

pub returns-else-t : goal.returns-else-t
returns-else-t c = lt-leb c.args.t.next c.args.t.total (search rules) ∙ refuted _ (λ e. let p = paced-facts _ e in omega arith)
