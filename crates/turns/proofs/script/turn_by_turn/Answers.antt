-- The loop stands where the definition's loop stands. Assumes nothing.
use native.Mathlib.Omega.{arith}
use mathlib.Core.Path.{◌≡◌, ap, ◌∙◌}
use Prim.Native.Nat.{ℕ}
use Rattle.turns.specs.ScriptLaws.{stands-first, stands-out, hosts-next, hosts-ended}
use Rattle.turns.specs.Types.{Going}
use Rattle.turns.proofs.Tags.{stops}
use Rattle.turns.proofs.script.turn_by_turn.Goals as goal

pub loop-n-init : goal.loop-n-init
loop-n-init c = stands-first _ _ _ _

pub loop-n-preserved : goal.loop-n-preserved
loop-n-preserved c = hosts-next _ _ _ _ _ _ _ _ c.reading_of-reading.ensures c.turn-t.ensures c.loop-n-test.true c.loop-n.invariant c.in-Going.is

pub returns-in_default : goal.returns-in_default
returns-in_default c =
    hosts-ended _ _ _ _ _ _ _ _ c.reading_of-reading.ensures c.turn-t.ensures c.loop-n-test.true c.loop-n.invariant (stops c.turn-t.result.said c.in_default.not-Going)

pub returns : goal.returns
returns c =
    let e : c.args.budget ≡ c.loop-n.n = omega arith in
    ap (λ (n : ℕ). record { ring = c.loop-n.ring; said = Going; turns = n }) e ∙ stands-out _ _ _ _ _ _ c.loop-n-test.false c.loop-n.invariant
