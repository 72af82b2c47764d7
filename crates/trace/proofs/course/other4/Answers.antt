-- Byte by byte; the last differs since the numbers do. Assumes nothing.
use native.Mathlib.Omega.{arith}
use borrow.Author.Rules.{rules}
use Rattle.trace.specs.AgreeLaws.{four0, four1, four2, four3, last-differs}
use Rattle.trace.proofs.course.other4.Goals as goal

pub returns-then-a-b : goal.returns-then-a-b
returns-then-a-b c = (omega arith, λ xs ys. four0 c.args.a c.args.b xs ys c.if-a-b.true)

pub returns-then-a-b-2 : goal.returns-then-a-b-2
returns-then-a-b-2 c = (omega arith, λ xs ys. let a = c.args in four1 a.a a.b xs ys c.if-a-b.false c.if-a-b-2.true)

pub returns-then-a-b-3 : goal.returns-then-a-b-3
returns-then-a-b-3 c = (omega arith, λ xs ys. let a = c.args in four2 a.a a.b xs ys c.if-a-b.false c.if-a-b-2.false c.if-a-b-3.true)

pub returns : goal.returns
returns c =
    let a = c.args in (
      omega arith,
      λ xs ys. four3 a.a a.b xs ys c.if-a-b.false c.if-a-b-2.false c.if-a-b-3.false
          (last-differs a.a a.b (search rules) (search rules) (search rules) c.if-a-b.false c.if-a-b-2.false c.if-a-b-3.false),
    )
