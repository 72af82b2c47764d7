-- The refusals, then the turn. Assumes nothing.
use borrow.Author.Rules.{rules}
use mathlib.Core.Bool.{true}
use mathlib.Core.Path.{◌∙◌}
use Rattle.codes.specs.SaysLaws.{passes, stops, passed, failed}
use Rattle.turns.specs.ConsistentLaws.{both, consistent-facts}
use Rattle.turns.specs.Calls.{refused_of}
use Rattle.turns.specs.Capture.{capture_call}
use Rattle.turns.specs.CallLaws.{not-admitted, is-admitted, admitted}
use Rattle.turns.proofs.capture.capture_track.Goals as goal

pub returns-then-not-lends_all : goal.returns-then-not-lends_all
unfolding capture_call
returns-then-not-lends_all c = stops _ _ _ (search (rules, failed)) c.refused.ensures

pub returns-in-Err : goal.returns-in-Err
unfolding capture_call
returns-in-Err c = passes _ _ _ (search (rules, passed)) (c.refused-in-Err.ensures ∙ not-admitted true c.args.t c.args.len (λ r. refused_of r c.args.t) _ c.admit.ensures c.in-Err.is)

pub caught_turn-requires : goal.caught_turn-requires
caught_turn-requires c =
    let a = admitted true c.args.t c.args.len c.admit.ensures c.in_default.is in
    (consistent-facts _ a.0, (both _ _ a.1).0)

pub returns : goal.returns
unfolding capture_call
returns c = passes _ _ _ (search (rules, passed)) (c.caught_turn.ensures ∙ is-admitted true c.args.t c.args.len (λ r. refused_of r c.args.t) _ c.admit.ensures c.in_default.is)
