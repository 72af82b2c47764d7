-- The field by the tag, where three bytes are there. Assumes nothing.
use Prim.Native.Nat.{◌+◌, ◌<◌, ◌≤◌}
use mathlib.Core.Path.{refl}
use lib.ListN.{length}
use native.Mathlib.Omega.{arith}
use Rattle.trace.specs.ReadLaws.{short, tagged}
use Rattle.trace.proofs.fields.field_at.Goals as goal

pub returns-then-n-at : goal.returns-then-n-at
returns-then-n-at c = let a = c.args in let h : length a.s.now < a.at + 3 = omega (arith, c.if-n-at.true) in short a.at a.s.now h

pub returns-then-n-at-lt3 : goal.returns-then-n-at-lt3
returns-then-n-at-lt3 c = let a = c.args in let h : length a.s.now < a.at + 3 = omega (arith, c.if-n-at-lt3.true, c.if-n-at.false) in short a.at a.s.now h

pub returns : goal.returns
returns c =
    let a = c.args in
    let h : a.at + 3 ≤ length a.s.now = omega (arith, c.if-n-at-lt3.false, c.if-n-at.false) in
    tagged a.at _ _ a.s.now _ h c.get_u8.ensures refl c.contents_at.ensures
