-- `state_store::flat::at_stage` meets its contract. Assumes nothing.
use Rattle.state_store.proofs.flat.at_stage.Goals as goal

pub returns : goal.returns
returns c = simp c.flag.ensures
