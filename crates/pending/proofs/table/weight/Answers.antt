-- `pending::table::weight` meets its contract. Assumes nothing.
use mathlib.Core.Path.{sym}
use borrow.Author.Tests.{eq-eqb, ne_eqb}
use Rattle.codes.specs.SaysLaws.{picks, skips}
use Rattle.pending.proofs.table.weight.Goals as goal

pub returns-then-t-eq0 : goal.returns-then-t-eq0
returns-then-t-eq0 c = sym (picks _ 0 1 (eq-eqb _ _ c.if-t-eq0.true))

pub returns-else-t-eq0 : goal.returns-else-t-eq0
returns-else-t-eq0 c = sym (skips _ 0 1 (ne_eqb _ _ c.if-t-eq0.false))
