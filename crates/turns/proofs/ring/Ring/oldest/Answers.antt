-- The slot at tail, where any is in flight. Assumes nothing.
use borrow.Author.Rules.{rules}
use mathlib.Core.Path.{refl}
use borrow.Author.Tests.{eq-eqb, ne_eqb}
use Rattle.codes.specs.SaysLaws.{passes, stops}
use Rattle.turns.specs.CallLaws.{passed, failed}
use Rattle.turns.proofs.ring.Ring.oldest.Goals as goal

pub returns-then-not-is_consistent : goal.returns-then-not-is_consistent
returns-then-not-is_consistent c = stops _ _ _ (search (rules, failed)) refl

pub returns-then-t-eq0 : goal.returns-then-t-eq0
returns-then-t-eq0 c = passes _ _ _ (search (rules, passed)) (rw (eq-eqb _ _ c.if-t-eq0.true))

pub returns : goal.returns
returns c = passes _ _ _ (search (rules, passed)) (rw (ne_eqb _ _ c.if-t-eq0.false))
