-- A slot below 32 of a consistent ring. Assumes nothing.
use borrow.Author.Rules.{rules}
use mathlib.Core.Path.{refl}
use borrow.Author.Tests.{lt-ltb, le-ltb}
use Rattle.codes.specs.SaysLaws.{passes, stops}
use Rattle.turns.specs.CallLaws.{passed, failed}
use Rattle.turns.proofs.ring.Ring.carried.Goals as goal

pub returns-then-slot-ge32 : goal.returns-then-slot-ge32
returns-then-slot-ge32 c = stops _ _ _ (search (rules, le-ltb)) refl

pub returns-then-not-is_consistent : goal.returns-then-not-is_consistent
returns-then-not-is_consistent c = passes _ _ _ (search (rules, lt-ltb)) (stops _ _ _ (search (rules, failed)) refl)

pub returns : goal.returns
returns c = passes _ _ _ (search (rules, lt-ltb)) (passes _ _ _ (search (rules, passed)) refl)
