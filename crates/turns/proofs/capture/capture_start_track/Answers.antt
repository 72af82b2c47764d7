-- The refusals, then the start. Assumes nothing.
use borrow.Author.Rules.{rules}
use native.Mathlib.Omega.{arith}
use borrow.Author.Tests.{le-leb, lt-leb}
use mathlib.Core.Path.{◌∙◌}
use Rattle.codes.specs.SaysLaws.{passes, stops}
use Rattle.turns.specs.Calls.{refused_of}
use Rattle.turns.specs.Capture.{capture_start}
use Rattle.turns.specs.CallLaws.{not-ready, is-ready, ready-period}
use Rattle.turns.specs.CaptureLaws.{holds-periods, lacks-periods}
use Rattle.turns.proofs.capture.capture_start_track.Goals as goal

pub returns-in-Err : goal.returns-in-Err
unfolding capture_start
returns-in-Err c = c.refused.ensures ∙ not-ready c.args.t c.args.period c.args.budget (λ r. refused_of r c.args.t) _ c.ready.ensures c.in-Err.is

pub nonzero_div-len : goal.nonzero_div-len
nonzero_div-len c = ready-period c.args.t c.args.period c.args.budget c.ready.ensures c.in_default.is

pub returns-then-len-period : goal.returns-then-len-period
unfolding capture_start
returns-then-len-period c =
    let a = c.args in
    let ok = c.in_default.is in
    stops _ _ _ (lt-leb _ _ (lacks-periods a.periods a.period a.len (ready-period c.args.t c.args.period c.args.budget c.ready.ensures ok) (search rules))) c.refused-then-len-period.ensures
    ∙ is-ready c.args.t c.args.period c.args.budget (λ r. refused_of r c.args.t) _ c.ready.ensures ok

pub overflow_mul-total : goal.overflow_mul-total
overflow_mul-total c =
    let a = c.args in
    let most = holds-periods a.periods a.period a.len (ready-period c.args.t c.args.period c.args.budget c.ready.ensures c.in_default.is) (search rules) in
    omega arith

pub returns : goal.returns
unfolding capture_start
returns c =
    let a = c.args in
    let ok = c.in_default.is in
    passes _ _ _ (le-leb _ _ (holds-periods a.periods a.period a.len (ready-period c.args.t c.args.period c.args.budget c.ready.ensures ok) (search rules))) (rw (c.unchanged.ensures, c.begun_as-track.ensures))
    ∙ is-ready c.args.t c.args.period c.args.budget (λ r. refused_of r c.args.t) _ c.ready.ensures ok
