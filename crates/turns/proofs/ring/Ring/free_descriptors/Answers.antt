-- The test bounds what is in flight. Assumes nothing.
use native.Mathlib.Omega.{arith}
use mathlib.Core.Path.{refl, sym, ◌∙◌}
use Rattle.codes.specs.SaysLaws.{passes, stops}
use Rattle.turns.specs.ConsistentLaws.{consistent-facts}
use Rattle.turns.proofs.ring.Ring.free_descriptors.Goals as goal

pub overflow_mul-result : goal.overflow_mul-result
overflow_mul-result c = let p = (consistent-facts _ (sym c.is_consistent.ensures ∙ c.if-is_consistent.true)).placed in omega arith

pub overflow_sub-result : goal.overflow_sub-result
overflow_sub-result c = (consistent-facts _ (sym c.is_consistent.ensures ∙ c.if-is_consistent.true)).placed.room

pub returns-then-is_consistent : goal.returns-then-is_consistent
returns-then-is_consistent c = passes _ _ _ (sym c.is_consistent.ensures ∙ c.if-is_consistent.true) refl

pub returns-else-is_consistent : goal.returns-else-is_consistent
returns-else-is_consistent c = stops _ _ _ (sym c.is_consistent.ensures ∙ c.if-is_consistent.false) refl
