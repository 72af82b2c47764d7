-- `state_store::effect::put_set` meets its contract: the parameters, then the stream's state. Assumes nothing.
use Rattle.std.proofs.Common.{ap, ◌∙◌}
use Rattle.state_store.specs.Effect.{lived_in}
use Rattle.state_store.proofs.effect.put_set.Goals as goal

pub returns : goal.returns
returns c =
    let a = c.args in
    c.put_life.ensures ∙ ap (lived_in a.guard a.stream 0) c.put_params.ensures
