-- Nothing, or one field. Assumes nothing.
use mathlib.Core.List.{[]}
use mathlib.Core.Path.{refl, ap}
use Rattle.trace.specs.Trace.{heard_then}
use Rattle.trace.specs.InkLaws.{size_none, size-one}
use Rattle.trace.proofs.writer.heard_size.Goals as goal

pub returns-in-None : goal.returns-in-None
returns-in-None c = size_none 8 _ (ap (λ x. heard_then x []) c.in-None.is)

pub returns-in-Some : goal.returns-in-Some
returns-in-Some c = size-one 8 _ _ (ap (λ x. heard_then x []) c.in-Some.is) refl
