-- A list too short, or the rows. Assumes nothing.
use mathlib.Core.Path.{refl}
use Rattle.trace.specs.ListedLaws.{said-full, listed-room, said-listed}
use Rattle.trace.proofs.diff.compare.Goals as goal

pub returns-then-list-n : goal.returns-then-list-n
returns-then-list-n c = let a = c.args in said-full a.first.now a.second.now a.list.now _ c.differences.ensures _ c.in_ok-n.was _ refl c.if-list-n.true

pub fill-requires : goal.fill-requires
fill-requires c = let a = c.args in listed-room a.first.now a.second.now a.list.now _ c.differences.ensures _ c.in_ok-n.was _ refl c.if-list-n.false

pub returns : goal.returns
returns c = let a = c.args in said-listed a.first.now a.second.now a.list.now _ c.differences.ensures _ c.in_ok-n.was _ refl _ c.if-list-n.false c.fill.ensures
