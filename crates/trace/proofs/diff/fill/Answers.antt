-- The loop stands where the definition's walk of both traces stands; what is left of both falls. Assumes nothing.
use borrow.Author.Rules.{rules}
use Rattle.trace.specs.ListedLaws.{filled-first, filled-all, filled-meet, filled-room, filled_next, meet-less, bounds}
use Rattle.trace.proofs.diff.fill.Goals as goal

pub returns-then-over : goal.returns-then-over
returns-then-over c =
    let l = c.loop-x in
    filled-all _ _ _ _ _ _ _ _ l.invariant _ _ c.field_at-x.ensures c.field_at-y.ensures _ c.is_over-over.ensures c.if-over.true

pub overflow_mul-n : goal.overflow_mul-n
overflow_mul-n c =
    let r = filled-room _ _ _ _ _ _ _ _ c.loop-x.invariant _ _ c.field_at-x.ensures c.field_at-y.ensures _ c.is_over-over.ensures _ _ _ _ c.if-over.false c.gap-g.ensures c.weight-more.ensures c.taken-u.ensures c.taken-v.ensures c.requires in
    let h = c.loop-x.invariant.long in
    search (rules, r, h)

pub put_gap-requires : goal.put_gap-requires
put_gap-requires c =
    filled-room _ _ _ _ _ _ _ _ c.loop-x.invariant _ _ c.field_at-x.ensures c.field_at-y.ensures _ c.is_over-over.ensures _ _ _ _ c.if-over.false c.gap-g.ensures c.weight-more.ensures c.taken-u.ensures c.taken-v.ensures c.requires

pub overflow_add-n : goal.overflow_add-n
overflow_add-n c =
    let h = (bounds _ _ _ _ _ _ (filled-meet _ _ _ _ _ _ _ _ c.loop-x.invariant _ _ c.field_at-x.ensures c.field_at-y.ensures _ c.is_over-over.ensures _ _ _ _ c.if-over.false c.gap-g.ensures c.weight-more.ensures c.taken-u.ensures c.taken-v.ensures)).rows in
    search (rules, h)

pub overflow_add-at : goal.overflow_add-at
overflow_add-at c =
    let h = (bounds _ _ _ _ _ _ (filled-meet _ _ _ _ _ _ _ _ c.loop-x.invariant _ _ c.field_at-x.ensures c.field_at-y.ensures _ c.is_over-over.ensures _ _ _ _ c.if-over.false c.gap-g.ensures c.weight-more.ensures c.taken-u.ensures c.taken-v.ensures)).in-a in
    search (rules, h)

pub overflow_add-bt : goal.overflow_add-bt
overflow_add-bt c =
    let h = (bounds _ _ _ _ _ _ (filled-meet _ _ _ _ _ _ _ _ c.loop-x.invariant _ _ c.field_at-x.ensures c.field_at-y.ensures _ c.is_over-over.ensures _ _ _ _ c.if-over.false c.gap-g.ensures c.weight-more.ensures c.taken-u.ensures c.taken-v.ensures)).in_b in
    search (rules, h)

pub overflow_add-i : goal.overflow_add-i
overflow_add-i c =
    let h = (bounds _ _ _ _ _ _ (filled-meet _ _ _ _ _ _ _ _ c.loop-x.invariant _ _ c.field_at-x.ensures c.field_at-y.ensures _ c.is_over-over.ensures _ _ _ _ c.if-over.false c.gap-g.ensures c.weight-more.ensures c.taken-u.ensures c.taken-v.ensures)).fields in
    search (rules, h)

pub loop-x-smaller : goal.loop-x-smaller
loop-x-smaller c =
    let z = bounds _ _ _ _ _ _ (filled-meet _ _ _ _ _ _ _ _ c.loop-x.invariant _ _ c.field_at-x.ensures c.field_at-y.ensures _ c.is_over-over.ensures _ _ _ _ c.if-over.false c.gap-g.ensures c.weight-more.ensures c.taken-u.ensures c.taken-v.ensures) in
    meet-less _ _ _ _ _ _ c.loop-x.invariant.meet _ _ c.field_at-x.ensures c.field_at-y.ensures _ c.is_over-over.ensures _ _ c.if-over.false c.taken-u.ensures c.taken-v.ensures z.in-a z.in_b

pub loop-x-preserved : goal.loop-x-preserved
loop-x-preserved c =
    filled_next _ _ _ _ _ _ _ _ c.loop-x.invariant _ _ c.field_at-x.ensures c.field_at-y.ensures _ c.is_over-over.ensures _ _ _ _ c.if-over.false c.gap-g.ensures c.weight-more.ensures c.taken-u.ensures c.taken-v.ensures _ c.put_gap.auto.list c.put_gap.ensures

pub loop-x-init : goal.loop-x-init
loop-x-init c = filled-first _ _ _
