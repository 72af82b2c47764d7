-- A chain of refusals. Assumes nothing.
use borrow.Author.Rules.{rules}
use mathlib.Core.Path.{refl}
use Rattle.codes.specs.SaysLaws.{passes, stops, passed, failed}
use Rattle.turns.proofs.calls.admit.Goals as goal

pub returns-then-not-length_agrees : goal.returns-then-not-length_agrees
returns-then-not-length_agrees c = stops _ _ _ (search (rules, failed)) refl

pub returns-then-not-is_consistent : goal.returns-then-not-is_consistent
returns-then-not-is_consistent c = passes _ _ _ (search (rules, passed)) (stops _ _ _ (search (rules, failed)) refl)

pub returns-then-not-runs_as : goal.returns-then-not-runs_as
returns-then-not-runs_as c = passes _ _ _ (search (rules, passed)) (passes _ _ _ (search (rules, passed)) (stops _ _ _ (search (rules, failed)) refl))

pub returns : goal.returns
returns c = passes _ _ _ (search (rules, passed)) (passes _ _ _ (search (rules, passed)) (passes _ _ _ (search (rules, passed)) refl))
