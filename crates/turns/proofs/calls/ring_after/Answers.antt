-- By what the step sent. Assumes nothing.
use native.Mathlib.Omega.{arith}
use Rattle.turns.specs.CallLaws.{after_none, after-period, after-out}
use Rattle.turns.proofs.calls.ring_after.Goals as goal

pub returns-in_default : goal.returns-in_default
returns-in_default c = let a = c.args in after_none a.r a.s c.in_default.is

pub returns-then-p-ge32 : goal.returns-then-p-ge32
returns-then-p-ge32 c =
    let a = c.args in
    after-out a.r a.s _ _ _ c.in-Some.is (omega arith)

pub returns : goal.returns
returns c = let a = c.args in after-period a.r a.s _ _ _ c.in-Some.is
