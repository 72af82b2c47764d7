-- `state_store::calls::change` meets its contract: the core, then the effect. Assumes nothing.
use Rattle.std.proofs.Common.{ap, ◌∙◌}
use borrow.Author.Tests.{not-true, not-false}
use Rattle.state_store.specs.Effect.{effect_in}
use Rattle.state_store.specs.EffectLaws.{effect-over}
use Rattle.state_store.specs.FinishLaws.{change-none, change-all}
use Rattle.state_store.proofs.calls.change.Goals as goal

pub returns-then-not-whole : goal.returns-then-not-whole
returns-then-not-whole c = let a = c.args in change-none a.whole a.state.now a.effect a.core a.page.now (not-true a.whole c.if-not-whole.true-raw)

pub returns : goal.returns
returns c =
    let a = c.args in
    change-all a.whole a.state.now a.effect a.core a.page.now (not-false a.whole c.if-not-whole.false-raw)
    (c.apply.ensures
    ∙ ap (effect_in a.core.guard a.effect a.page.now) c.put_core.ensures
    ∙ effect-over a.state.now a.page.now a.core a.effect (λ k. (c.slice_known-1.given k).fits) (λ k. (c.shared_slice_known-1.given k).fits) c.requires)
