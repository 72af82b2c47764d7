-- The refusals, then the start. Assumes nothing.
use borrow.Author.Rules.{rules}
use native.Mathlib.Omega.{arith}
use borrow.Author.Tests.{lt-ltb, le-ltb}
use mathlib.Core.Path.{◌∙◌}
use Rattle.codes.specs.SaysLaws.{passes, stops}
use Rattle.turns.specs.Calls.{refused_of, start_traced}
use Rattle.turns.specs.CallLaws.{not-ready, is-ready, ready-period, room-short, room-enough}
use Rattle.turns.proofs.calls.traced_start_track.Goals as goal

pub returns-in-Err : goal.returns-in-Err
unfolding start_traced
returns-in-Err c = c.refused.ensures ∙ not-ready c.args.t c.args.period c.args.budget (λ r. refused_of r c.args.t) _ c.ready.ensures c.in-Err.is

pub returns-then-total-ge4294967296 : goal.returns-then-total-ge4294967296
unfolding start_traced
returns-then-total-ge4294967296 c =
    stops _ _ _ (search (rules, le-ltb)) c.refused-then-total-ge4294967296.ensures ∙ is-ready c.args.t c.args.period c.args.budget (λ r. refused_of r c.args.t) _ c.ready.ensures c.in_default.is

pub periods-n-requires : goal.periods-n-requires
periods-n-requires c = (ready-period c.args.t c.args.period c.args.budget c.ready.ensures c.in_default.is, search rules)

pub returns-then-room-n : goal.returns-then-room-n
unfolding start_traced
returns-then-room-n c =
    passes _ _ _ (search (rules, lt-ltb)) (stops _ _ _ (search (rules, room-short)) c.refused-then-room-n.ensures)
    ∙ is-ready c.args.t c.args.period c.args.budget (λ r. refused_of r c.args.t) _ c.ready.ensures c.in_default.is

pub returns : goal.returns
unfolding start_traced
returns c =
    passes _ _ _ (search (rules, lt-ltb)) (passes _ _ _ (search (rules, room-enough)) (rw (c.unchanged.ensures, c.begun_as-begun.ensures)))
    ∙ is-ready c.args.t c.args.period c.args.budget (λ r. refused_of r c.args.t) _ c.ready.ensures c.in_default.is

pub overflow_mul-n : goal.overflow_mul-n
overflow_mul-n c = omega (arith, c.periods-n.ensures.1)

pub overflow_add-n : goal.overflow_add-n
overflow_add-n c = omega (arith, c.periods-n.ensures.1)
