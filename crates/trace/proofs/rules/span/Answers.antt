-- `turns::rules::span` meets its contract. Assumes nothing.
use native.Mathlib.Omega.{arith}
use Rattle.trace.proofs.rules.span.Goals as goal

pub returns-then-period-left : goal.returns-then-period-left
returns-then-period-left c = omega arith

pub returns-else-period-left : goal.returns-else-period-left
returns-else-period-left c = omega arith
