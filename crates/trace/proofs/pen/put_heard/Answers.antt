-- Nothing, or the completion. Assumes nothing.
use mathlib.Core.List.{[]}
use mathlib.Core.Path.{ap}
use borrow.Author.Rules.{rules}
use Rattle.trace.specs.PenLaws.{heard-fits, writes-none, writes_one, room-one}
use Rattle.trace.specs.Trace.{heard_then}
use Rattle.trace.proofs.pen.put_heard.Goals as goal

pub overflow_cast-f : goal.overflow_cast-f
overflow_cast-f c = let h = heard-fits _ _ _ c.in-Some.is c.requires.0 in search (rules, h)

pub put-requires : goal.put-requires
put-requires c = room-one _ _ _ _ (ap (λ x. heard_then x []) c.in-Some.is) c.requires.1

pub returns-in-None : goal.returns-in-None
returns-in-None c = writes-none _ _ _ (ap (λ x. heard_then x []) c.in-None.is)

pub returns-in-Some : goal.returns-in-Some
returns-in-Some c = writes_one _ _ _ _ _ _ (ap (λ x. heard_then x []) c.in-Some.is) c.put.ensures
