-- `state_store::head::is_whole` meets its contract. Assumes nothing.
use Rattle.std.proofs.Common.{◌&&◌, ◌∙◌}
use Rattle.state_store.proofs.head.is_whole.Goals as goal

pub returns : goal.returns
returns c = c.both-2.ensures ∙ (λ i. c.is_whole_flat-flat.ensures i && c.both.ensures i)
