-- The first field is the start, with a period. Assumes nothing.
use Prim.Native.Nat.{ℕ}
use mathlib.Core.Path.{◌≡◌, refl, sym}
use borrow.Author.Rules.{rules}
use Rattle.trace.specs.CourseLaws.{Starts, opened-empty, opened-bad, opened-other, opened-none, course-first}
use Rattle.trace.specs.declared.field.Field.{Field}
use Rattle.trace.specs.declared.field.Field.TheVariants.{Start, Submitted, Completed, End}
use Rattle.trace.proofs.course.opened.Goals as goal

-- what the `else` knows of the first field
other : (f : Field) → ((stream total period : ℕ) → f ≡ Start stream total period → ⊥) → Starts f → ⊥
other (Start stream total period) k s = k stream total period refl
other (Submitted slot offset len) k s = s
other (Completed slot status) k s = s
other (End answer) k s = s

pub returns-then-s-eq0 : goal.returns-then-s-eq0
returns-then-s-eq0 c = let a = c.args in opened-empty a.per a.s.now c.if-s-eq0.true

pub returns-in_default : goal.returns-in_default
returns-in_default c = opened-bad _ _ _ (λ e. c.if-s-eq0.false (sym e)) c.field_at.ensures c.in_default.is

pub returns-in_default-f : goal.returns-in_default-f
returns-in_default-f c = opened-other _ _ _ _ (other c.in-Some.f c.in_default-f.not-Start) (λ e. c.if-s-eq0.false (sym e)) c.field_at.ensures c.in-Some.is

pub returns-then-period-eq0 : goal.returns-then-period-eq0
returns-then-period-eq0 c =
    opened-none _ _ _ _ _ _ _ (λ e. c.if-s-eq0.false (sym e)) c.field_at.ensures c.in-Some.is c.in-Start.is c.if-period-eq0.true

pub walk-requires : goal.walk-requires
walk-requires c =
    course-first _ _ _ _ _ _ _ (λ e. c.if-s-eq0.false (sym e)) c.field_at.ensures c.in-Some.is c.in-Start.is _ c.begun-t.ensures c.requires c.if-period-eq0.false (search rules)
