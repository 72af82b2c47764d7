-- `model_store::made::fill` meets its contract. Assumes nothing.
use Rattle.model_store.specs.NewLaws.{filled}
use Rattle.model_store.proofs.made.fill.Goals as goal

pub returns : goal.returns
returns c =
    let a = c.args in
    filled a.device.now _ _ a.rows.now a.place a.room c.copy.ensures c.clear.ensures
