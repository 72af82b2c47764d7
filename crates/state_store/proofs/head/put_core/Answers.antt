-- `state_store::head::put_core` meets its contract: three runs of stores. Assumes nothing.
use Rattle.state_store.specs.HeadLaws.{core-runs}
use Rattle.state_store.proofs.head.put_core.Goals as goal

pub returns : goal.returns
returns c =
    let a = c.args in
    core-runs a.s.now a.c c.flat_of-flat.ensures c.put_counts.ensures c.put_flat.ensures c.put_guard.ensures
