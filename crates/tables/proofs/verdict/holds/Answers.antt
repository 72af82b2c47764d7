-- `tables::verdict::holds` meets its contract. Assumes nothing.
use mathlib.Core.Path.{ap}
use Prim.Native.Nat.{ℕ}
use lib.Dec.{leb}
use borrow.Author.Tests.{eq-eqb, ne_eqb}
use Rattle.tables.proofs.verdict.holds.Goals as goal

pub returns-then-page-ne-PAGE : goal.returns-then-page-ne-PAGE
returns-then-page-ne-PAGE c = rw (ne_eqb _ _ c.if-page-ne-PAGE.true)

pub returns : goal.returns
returns c = rw (eq-eqb _ _ c.if-page-ne-PAGE.false) (ap (λ (n : ℕ). leb n 4096) c.extent-bytes.ensures)
