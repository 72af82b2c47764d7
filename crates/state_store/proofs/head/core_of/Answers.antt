-- `state_store::head::core_of` meets its contract: the test, then the core. Assumes nothing.
use Rattle.state_store.proofs.head.core_of.Goals as goal

pub core_by-requires : goal.core_by-requires
core_by-requires c = c.is_whole.ensures

pub returns : goal.returns
returns c = c.core_by.ensures
