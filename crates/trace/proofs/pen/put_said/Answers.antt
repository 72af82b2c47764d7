-- The end, where the turn gave an answer. Assumes nothing.
use mathlib.Core.List.{[], ◌∷◌}
use mathlib.Core.Path.{sym, ap, ◌∙◌}
use Prim.Native.Nat.{ℕ}
use native.Mathlib.Omega.{arith}
use Rattle.codes.specs.AnswersLaws.{numbered}
use Rattle.trace.specs.Trace.{said_then}
use Rattle.trace.specs.PenLaws.{writes-none, writes_one, room-one}
use Rattle.trace.specs.declared.field.Field.TheVariants as field
use Rattle.trace.proofs.pen.put_said.Goals as goal

pub put_end-requires : goal.put_end-requires
put_end-requires c = room-one _ _ _ (field.End 0) (ap (λ x. said_then x []) c.in-Done.is) c.requires

pub overflow_cast-answer : goal.overflow_cast-answer
overflow_cast-answer c = let low = (numbered c.in-Ended.r).small in omega (arith, low, c.number-answer.ensures)

pub put_end-requires-in-Ended : goal.put_end-requires-in-Ended
put_end-requires-in-Ended c =
    room-one _ _ _ _ (ap (λ x. said_then x []) c.in-Ended.is ∙ ap (λ (n : ℕ). field.End n ∷ []) (sym c.number-answer.ensures)) c.requires

pub returns-in-Going : goal.returns-in-Going
returns-in-Going c = writes-none _ _ _ (ap (λ x. said_then x []) c.in-Going.is)

pub returns-in-Done : goal.returns-in-Done
returns-in-Done c = writes_one _ _ _ _ _ (field.End 0) (ap (λ x. said_then x []) c.in-Done.is) c.put_end.ensures

pub returns-in-Ended : goal.returns-in-Ended
returns-in-Ended c =
    writes_one _ _ _ _ _ (field.End c.number-answer.result) (ap (λ x. said_then x []) c.in-Ended.is ∙ ap (λ (n : ℕ). field.End n ∷ []) (sym c.number-answer.ensures))
    c.put_end-in-Ended.ensures

pub returns-in-Refused : goal.returns-in-Refused
returns-in-Refused c = writes-none _ _ _ (ap (λ x. said_then x []) c.in-Refused.is)
