-- 0 with the number, or 1. Assumes nothing.
use borrow.Author.Rules.{rules}
use mathlib.Core.Path.{refl}
use Rattle.codes.specs.SaysLaws.{passes, stops}
use Rattle.turns.specs.CallLaws.{passed, failed}
use Rattle.turns.proofs.ring.number.Goals as goal

pub returns-then-not-is_consistent : goal.returns-then-not-is_consistent
returns-then-not-is_consistent c = stops _ _ _ (search (rules, failed)) refl

pub returns : goal.returns
returns c = passes _ _ _ (search (rules, passed)) refl
