-- Nothing in flight, or the slot compared with tail. Assumes nothing.
use borrow.Author.Rules.{rules}
use borrow.Author.Tests.{eq-eqb}
use mathlib.Core.Bool.{not}
use mathlib.Core.Path.{refl, ap, ◌∙◌}
use Rattle.turns.specs.DecisionLaws.{oldest-none, oldest-last}
use Rattle.turns.proofs.rules.is_oldest.Goals as goal

pub returns-then-t-ne0 : goal.returns-then-t-ne0
returns-then-t-ne0 c = oldest-last _ _ _ (search rules) refl

pub returns-else-t-ne0 : goal.returns-else-t-ne0
returns-else-t-ne0 c = ap not (eq-eqb c.args.t.inflight 0 (search rules)) ∙ oldest-none _ _ (search rules)
