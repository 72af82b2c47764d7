-- `state_store::calls::change_core` meets its contract, by whether the store is whole. Assumes nothing.
use Rattle.std.proofs.Common.{[], ◌∙◌, lit<}
use borrow.Author.Tests.{not-true, not-false}
use Rattle.state_store.specs.Types.{Nothing}
use Rattle.state_store.specs.EffectLaws.{effect-over}
use Rattle.state_store.specs.FinishLaws.{change-none, change-all}
use Rattle.state_store.proofs.calls.change_core.Goals as goal

pub returns-then-not-whole : goal.returns-then-not-whole
returns-then-not-whole c = let a = c.args in change-none a.whole a.state.now Nothing a.core [] (not-true a.whole c.if-not-whole.true-raw)

pub returns : goal.returns
returns c =
    let a = c.args in
    change-all a.whole a.state.now Nothing a.core [] (not-false a.whole c.if-not-whole.false-raw)
    (c.put_core.ensures ∙ effect-over a.state.now [] a.core Nothing (λ k. (c.slice_known-1.given k).fits) (λ k. lit< tt) c.requires)
