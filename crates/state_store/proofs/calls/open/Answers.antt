-- `state_store::calls::open` meets its contract. Assumes nothing.
use Rattle.std.proofs.Common.{rules}
use Rattle.state_store.specs.Calls.{open_in}
use Rattle.state_store.proofs.calls.open.Goals as goal

pub returns : goal.returns
unfolding open_in
returns c = search rules
