-- `layout::get_u8` meets its contract. Assumes nothing.
use mathlib.Core.Path.{sym}
use Rattle.layout.specs.BytesLaws.{num_at-one, num_at-out}
use borrow.Author.Rules.{rules}
use Rattle.layout.proofs.get_u8.Goals as goal

pub returns-then-at-s : goal.returns-then-at-s
returns-then-at-s c =
    let a = c.args in
    sym (num_at-one a.at a.s.now)

pub returns-else-at-s : goal.returns-else-at-s
returns-else-at-s c =
    let a = c.args in
    sym (num_at-out a.at 1 a.s.now (search rules))
