-- `layout::put_u8` meets its contract. Assumes nothing.
use mathlib.Core.Path.{sym}
use Rattle.layout.specs.Bytes.{le}
use Rattle.layout.specs.StoreLaws.{sets-one, sets-out}
use borrow.Author.Rules.{rules}
use Rattle.layout.proofs.put_u8.Goals as goal

pub returns-then-at-out : goal.returns-then-at-out
returns-then-at-out c =
    let a = c.args in
    sym (sets-one a.at a.v a.out.now (search rules))

pub returns-else-at-out : goal.returns-else-at-out
returns-else-at-out c =
    let a = c.args in
    sym (sets-out (le 1 a.v) a.out.now a.at (search rules))
