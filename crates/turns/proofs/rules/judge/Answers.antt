-- A slot that is the oldest, and then by the outcome. Assumes nothing.
use borrow.Author.Rules.{rules}
use mathlib.Core.Path.{sym, ap, ◌∙◌}
use Rattle.turns.specs.Rules.{verdict_of}
use Rattle.turns.specs.CallLaws.{passed, failed}
use Rattle.turns.specs.DecisionLaws.{judges-wrong, judges}
use Rattle.turns.proofs.rules.judge.Goals as goal

pub returns-then-not-oldest : goal.returns-then-not-oldest
returns-then-not-oldest c = judges-wrong _ _ _ (search (rules, failed))

pub returns-in-Ok : goal.returns-in-Ok
returns-in-Ok c = sym (ap verdict_of c.in-Ok.is) ∙ judges _ _ _ (passed c.is_oldest-oldest.ensures c.if-not-oldest.false-raw)

pub returns-in-Err : goal.returns-in-Err
returns-in-Err c = sym (ap verdict_of c.in-Err.is) ∙ judges _ _ _ (passed c.is_oldest-oldest.ensures c.if-not-oldest.false-raw)
