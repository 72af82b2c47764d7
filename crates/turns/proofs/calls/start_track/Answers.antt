-- The refusals, then the start. Assumes nothing.
use mathlib.Core.Path.{◌∙◌}
use Rattle.turns.specs.Calls.{refused_of, start_call}
use Rattle.turns.specs.CallLaws.{not-ready, is-ready}
use Rattle.turns.proofs.calls.start_track.Goals as goal

pub returns-in-Err : goal.returns-in-Err
unfolding start_call
returns-in-Err c = c.refused.ensures ∙ not-ready c.args.t c.args.period c.args.budget (λ r. refused_of r c.args.t) _ c.ready.ensures c.in-Err.is

pub returns : goal.returns
unfolding start_call
returns c = rw (c.unchanged.ensures, c.begun_as-track.ensures) (is-ready c.args.t c.args.period c.args.budget (λ r. refused_of r c.args.t) _ c.ready.ensures c.in_default.is)
