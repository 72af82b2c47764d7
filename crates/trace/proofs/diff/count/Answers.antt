-- The loop stands where the definition's walk of both traces stands; what is left of both falls. Assumes nothing.
use borrow.Author.Rules.{rules}
use Rattle.trace.specs.ListedLaws.{meet-first, meet-count, meet-next, meet-less, bounds}
use Rattle.trace.proofs.diff.count.Goals as goal

pub returns-then-over : goal.returns-then-over
returns-then-over c =
    let l = c.loop-x in
    meet-count _ _ _ _ _ _ l.invariant _ _ c.field_at-x.ensures c.field_at-y.ensures _ c.is_over-over.ensures c.if-over.true

pub overflow_add-n : goal.overflow_add-n
overflow_add-n c =
    let h = (bounds _ _ _ _ _ _ (meet-next _ _ _ _ _ _ c.loop-x.invariant _ _ c.field_at-x.ensures c.field_at-y.ensures _ c.is_over-over.ensures _ _ _ _ c.if-over.false c.gap-g.ensures c.weight-more.ensures c.taken-u.ensures c.taken-v.ensures).0).rows in
    search (rules, h)

pub overflow_add-at : goal.overflow_add-at
overflow_add-at c =
    let h = (bounds _ _ _ _ _ _ (meet-next _ _ _ _ _ _ c.loop-x.invariant _ _ c.field_at-x.ensures c.field_at-y.ensures _ c.is_over-over.ensures _ _ _ _ c.if-over.false c.gap-g.ensures c.weight-more.ensures c.taken-u.ensures c.taken-v.ensures).0).in-a in
    search (rules, h)

pub overflow_add-bt : goal.overflow_add-bt
overflow_add-bt c =
    let h = (bounds _ _ _ _ _ _ (meet-next _ _ _ _ _ _ c.loop-x.invariant _ _ c.field_at-x.ensures c.field_at-y.ensures _ c.is_over-over.ensures _ _ _ _ c.if-over.false c.gap-g.ensures c.weight-more.ensures c.taken-u.ensures c.taken-v.ensures).0).in_b in
    search (rules, h)

pub overflow_add-i : goal.overflow_add-i
overflow_add-i c =
    let h = (bounds _ _ _ _ _ _ (meet-next _ _ _ _ _ _ c.loop-x.invariant _ _ c.field_at-x.ensures c.field_at-y.ensures _ c.is_over-over.ensures _ _ _ _ c.if-over.false c.gap-g.ensures c.weight-more.ensures c.taken-u.ensures c.taken-v.ensures).0).fields in
    search (rules, h)

pub loop-x-smaller : goal.loop-x-smaller
loop-x-smaller c =
    let z = bounds _ _ _ _ _ _ (meet-next _ _ _ _ _ _ c.loop-x.invariant _ _ c.field_at-x.ensures c.field_at-y.ensures _ c.is_over-over.ensures _ _ _ _ c.if-over.false c.gap-g.ensures c.weight-more.ensures c.taken-u.ensures c.taken-v.ensures).0 in
    meet-less _ _ _ _ _ _ c.loop-x.invariant _ _ c.field_at-x.ensures c.field_at-y.ensures _ c.is_over-over.ensures _ _ c.if-over.false c.taken-u.ensures c.taken-v.ensures z.in-a z.in_b

pub loop-x-preserved : goal.loop-x-preserved
loop-x-preserved c =
    (meet-next _ _ _ _ _ _ c.loop-x.invariant _ _ c.field_at-x.ensures c.field_at-y.ensures _ c.is_over-over.ensures _ _ _ _ c.if-over.false c.gap-g.ensures c.weight-more.ensures c.taken-u.ensures c.taken-v.ensures).0

pub loop-x-init : goal.loop-x-init
loop-x-init c = meet-first _ _
