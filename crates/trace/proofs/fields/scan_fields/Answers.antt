-- The loop stands where the definition's scan stands; what is left of the trace falls. Assumes nothing.
use Prim.Native.Nat.{◌+◌, ◌≤◌}
use lib.ListN.{length}
use native.Mathlib.Omega.{arith}
use borrow.Author.Rules.{rules}
use Rattle.trace.specs.ScanLaws.{size-told, Scans, scans-first, scans-bad, scans-next, scans-done}
use Rattle.trace.proofs.fields.scan_fields.Goals as goal

pub loop-at-init : goal.loop-at-init
loop-at-init c = scans-first _

pub returns-in_default : goal.returns-in_default
returns-in_default c = scans-bad _ _ _ c.loop-at.invariant c.loop-at-test.true c.field_at.ensures c.in_default.is

pub overflow_add-at : goal.overflow_add-at
overflow_add-at c =
    let a = c.args in
    let at = c.loop-at.at in
    let k : Scans a.s.now (at + c.size-at.result) = scans-next _ _ _ _ _ c.loop-at.invariant c.loop-at-test.true c.field_at.ensures c.in-Some.is c.size-at.ensures in
    let h : at + c.size-at.result ≤ length a.s.now = k.inside in
    search (rules, h)

pub loop-at-smaller : goal.loop-at-smaller
loop-at-smaller c =
    let a = c.args in
    let at = c.loop-at.at in
    let k : Scans a.s.now (at + c.size-at.result) = scans-next _ _ _ _ _ c.loop-at.invariant c.loop-at-test.true c.field_at.ensures c.in-Some.is c.size-at.ensures in
    let h : at + c.size-at.result ≤ length a.s.now = k.inside in
    let b : 4 ≤ c.size-at.result = size-told _ _ _ c.in-Some.is c.size-at.ensures in
    omega (arith, b, h)

pub loop-at-preserved : goal.loop-at-preserved
loop-at-preserved c = scans-next _ _ _ _ _ c.loop-at.invariant c.loop-at-test.true c.field_at.ensures c.in-Some.is c.size-at.ensures

pub returns : goal.returns
returns c = scans-done _ _ c.loop-at.invariant c.loop-at-test.false
