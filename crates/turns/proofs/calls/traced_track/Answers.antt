-- The refusals, then the rules, then the count. Assumes nothing.
use borrow.Author.Rules.{rules}
use mathlib.Core.Bool.{false}
use mathlib.Core.Path.{ap, ◌∙◌}
use Rattle.codes.specs.SaysLaws.{passes, stops, passed, failed}
use Rattle.turns.specs.ConsistentLaws.{both, consistent-facts}
use Rattle.turns.specs.KeepLaws.{turns-left, good_left}
use Rattle.turns.specs.Rules.{counted_of}
use Rattle.turns.specs.Calls.{refused_of, traced_call}
use Rattle.turns.specs.CallLaws.{not-admitted, is-admitted, admitted}
use Rattle.turns.proofs.calls.traced_track.Goals as goal

pub returns-then-not-room_agrees : goal.returns-then-not-room_agrees
unfolding traced_call
returns-then-not-room_agrees c = stops _ _ _ (search (rules, failed)) c.refused.ensures

pub returns-in-Err : goal.returns-in-Err
unfolding traced_call
returns-in-Err c = passes _ _ _ (search (rules, passed)) (c.refused-in-Err.ensures ∙ not-admitted false c.args.t c.args.len (λ r. refused_of r c.args.t) _ c.admit.ensures c.in-Err.is)

pub turn-s-requires : goal.turn-s-requires
turn-s-requires c =
    let a = admitted false c.args.t c.args.len c.admit.ensures c.in_default.is in
    let f = consistent-facts _ a.0 in
    (f.placed, f.paced.within, good_left _ f (both _ _ a.1).0)

pub counted-requires : goal.counted-requires
counted-requires c =
    let a = admitted false c.args.t c.args.len c.admit.ensures c.in_default.is in
    turns-left _ _ _ _ _ c.turn-s.ensures (consistent-facts _ a.0) (both _ _ a.1).0

pub returns : goal.returns
unfolding traced_call
returns c =
    passes _ _ _ (search (rules, passed))
    (c.counted.ensures ∙ ap counted_of (rw (← c.comes_to_played-outcome.ensures) c.turn-s.ensures) ∙ is-admitted false c.args.t c.args.len (λ r. refused_of r c.args.t) _ c.admit.ensures c.in_default.is)
