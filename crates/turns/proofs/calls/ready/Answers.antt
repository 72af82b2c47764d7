-- A chain of refusals. Assumes nothing.
use borrow.Author.Rules.{rules}
use mathlib.Core.Path.{refl}
use Rattle.codes.specs.SaysLaws.{passes, stops, passed, failed}
use Rattle.turns.specs.CallLaws.{positive, nought}
use Rattle.turns.proofs.calls.ready.Goals as goal

pub returns-then-not-is_consistent : goal.returns-then-not-is_consistent
returns-then-not-is_consistent c = stops _ _ _ (search (rules, failed)) refl

pub returns-then-not-is_idle : goal.returns-then-not-is_idle
returns-then-not-is_idle c = passes _ _ _ (search (rules, passed)) (stops _ _ _ (search (rules, failed)) refl)

pub returns-then-period-eq0 : goal.returns-then-period-eq0
returns-then-period-eq0 c = passes _ _ _ (search (rules, passed)) (passes _ _ _ (search (rules, passed)) (stops _ _ _ (search (rules, nought)) refl))

pub returns-then-budget-eq0 : goal.returns-then-budget-eq0
returns-then-budget-eq0 c =
    passes _ _ _ (search (rules, passed)) (passes _ _ _ (search (rules, passed)) (passes _ _ _ (search (rules, positive)) (stops _ _ _ (search (rules, nought)) refl)))

pub returns : goal.returns
returns c =
    passes _ _ _ (search (rules, passed)) (passes _ _ _ (search (rules, passed)) (passes _ _ _ (search (rules, positive)) (passes _ _ _ (search (rules, positive)) refl)))
