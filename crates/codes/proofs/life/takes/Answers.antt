-- `codes::life::takes` meets its contract. Assumes nothing.
use borrow.Author.Tests.{eq-eqb, ne_eqb}
use Rattle.codes.proofs.life.takes.Goals as goal

pub returns-then-life-eq-PREPARE : goal.returns-then-life-eq-PREPARE
returns-then-life-eq-PREPARE c = rw (eq-eqb _ 1 c.if-life-eq-PREPARE.true)

pub returns : goal.returns
returns c = rw (ne_eqb _ 1 c.if-life-eq-PREPARE.false)
