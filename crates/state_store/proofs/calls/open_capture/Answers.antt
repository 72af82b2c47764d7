-- `state_store::calls::open_capture` meets its contract. Assumes nothing.
use Rattle.std.proofs.Common.{rules}
use Rattle.state_store.specs.Calls.{open_capture_in}
use Rattle.state_store.proofs.calls.open_capture.Goals as goal

pub returns : goal.returns
unfolding open_capture_in
returns c = search rules
