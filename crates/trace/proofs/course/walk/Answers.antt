-- The loop stands where the definition's walk stands; what is left of the trace falls. Assumes nothing.
use native.Mathlib.Omega.{arith}
use borrow.Author.Rules.{rules}
use Rattle.trace.specs.ScanLaws.{size-told}
use Rattle.trace.specs.CourseLaws.{course-done, course-bad, course-off, off-inside, course-next}
use Rattle.trace.proofs.course.walk.Goals as goal

pub returns-in_default : goal.returns-in_default
returns-in_default c =
    let l = c.loop-at in
    course-bad _ _ _ _ _ l.invariant c.loop-at-test.true _ c.field_at.ensures _ c.in_default.is c.rest.ensures

pub overflow_add-result : goal.overflow_add-result
overflow_add-result c =
    let h = off-inside _ _ _ _ _ c.loop-at.invariant c.loop-at-test.true _ c.field_at.ensures _ c.in-Some.is _ c.moved.ensures _ c.in-Err.is in
    search (rules, h)

pub returns-in-Err : goal.returns-in-Err
returns-in-Err c =
    course-off _ _ _ _ _ c.loop-at.invariant c.loop-at-test.true _ c.field_at.ensures _ c.in-Some.is _ c.moved.ensures _ c.in-Err.is

pub overflow_add-at : goal.overflow_add-at
overflow_add-at c =
    let k = course-next _ _ _ _ _ c.loop-at.invariant c.loop-at-test.true _ c.field_at.ensures _ c.in-Some.is _ c.moved.ensures _ _ _ c.in-Ok.is c.size-at.ensures in
    let h = k.inside in
    search (rules, h)

pub loop-at-smaller : goal.loop-at-smaller
loop-at-smaller c =
    let k = course-next _ _ _ _ _ c.loop-at.invariant c.loop-at-test.true _ c.field_at.ensures _ c.in-Some.is _ c.moved.ensures _ _ _ c.in-Ok.is c.size-at.ensures in
    let h = k.inside in
    let b = size-told _ _ _ c.in-Some.is c.size-at.ensures in
    omega (arith, b, h)

pub loop-at-preserved : goal.loop-at-preserved
loop-at-preserved c =
    course-next _ _ _ _ _ c.loop-at.invariant c.loop-at-test.true _ c.field_at.ensures _ c.in-Some.is _ c.moved.ensures _ _ _ c.in-Ok.is c.size-at.ensures

pub returns : goal.returns
returns c = course-done _ _ _ _ _ c.loop-at.invariant _ c.loop-at-test.false c.rest-2.ensures

pub loop-at-init : goal.loop-at-init
loop-at-init c = c.requires

pub moved-requires : goal.moved-requires
moved-requires c = c.loop-at.invariant.kept.ready
