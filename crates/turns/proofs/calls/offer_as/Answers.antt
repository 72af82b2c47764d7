-- The refusals of a turn, then what rule 1 submits. Assumes nothing.
use mathlib.Core.Path.{◌≡◌, ap, ◌∙◌}
use Rattle.std.specs.Prelude.{Ok, Err}
use Rattle.std.proofs.lemmas.Grind.{common_steps}
use native.Mathlib.Omega.{arith}
use Rattle.turns.specs.ConsistentLaws.{consistent-facts}
use Rattle.turns.specs.Calls.{offer_by, offer_as}
use Rattle.turns.specs.Types.{Choice}
use Rattle.turns.specs.CallLaws.{not-admitted, is-admitted, admitted}
use Rattle.turns.proofs.calls.offer_as.Goals as goal

pub returns-in_err-admit : goal.returns-in_err-admit
unfolding offer_as
returns-in_err-admit c =
    let a = c.args in
    let e : Err c.in_err-admit.field-0.0 ≡ offer_as a.capture a.t a.len = not-admitted a.capture a.t a.len Err _ c.admit.ensures c.in_err-admit.was in
    grind (arith, common_steps, e)

pub choose-choice-requires : goal.choose-choice-requires
choose-choice-requires c = let a = c.args in (consistent-facts _ (admitted a.capture a.t a.len c.admit.ensures c.in_ok-admit.was).0).placed.room

pub offer_by-requires : goal.offer_by-requires
offer_by-requires c = let a = c.args in (consistent-facts _ (admitted a.capture a.t a.len c.admit.ensures c.in_ok-admit.was).0).paced.within

pub returns : goal.returns
unfolding offer_as
returns c =
    let a = c.args in
    ap Ok (c.offer_by.ensures ∙ ap (λ (h : Choice). offer_by h a.t) c.choose-choice.ensures) ∙ is-admitted a.capture a.t a.len Err _ c.admit.ensures c.in_ok-admit.was
