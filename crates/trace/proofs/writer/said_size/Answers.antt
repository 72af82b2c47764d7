-- Nothing, or the end. Assumes nothing.
use mathlib.Core.List.{[]}
use mathlib.Core.Path.{refl, ap}
use Rattle.trace.specs.Trace.{said_then}
use Rattle.trace.specs.InkLaws.{size_none, size-one}
use Rattle.trace.proofs.writer.said_size.Goals as goal

pub returns-in-Going : goal.returns-in-Going
returns-in-Going c = size_none 4 _ (ap (λ x. said_then x []) c.in-Going.is)

pub returns-in-Done : goal.returns-in-Done
returns-in-Done c = size-one 4 _ _ (ap (λ x. said_then x []) c.in-Done.is) refl

pub returns-in-Ended : goal.returns-in-Ended
returns-in-Ended c = size-one 4 _ _ (ap (λ x. said_then x []) c.in-Ended.is) refl

pub returns-in-Refused : goal.returns-in-Refused
returns-in-Refused c = size_none 4 _ (ap (λ x. said_then x []) c.in-Refused.is)
