-- `state_store::config::clear` meets its contract: all behind the head is filled with 0. Assumes nothing.
use Rattle.state_store.specs.NewLaws.{cleared}
use Rattle.state_store.proofs.config.clear.Goals as goal

pub returns : goal.returns
returns c = cleared c.args.s.now c.fill.new.self c.requires (c.fill.ensures.after (λ y p. p))
