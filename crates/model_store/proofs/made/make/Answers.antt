-- `model_store::made::make` meets its contract: each part is stored where the one before it ends. Assumes nothing.
use Rattle.model_store.specs.NewLaws.{made_all}
use Rattle.model_store.proofs.made.make.Goals as goal

pub returns : goal.returns
returns c =
    let a = c.args in
    made_all a.device.now _ _ _ _ _ a.n a.jacks.now a.pcms.now a.maps.now c.requires.1 c.requires.2 c.requires.3
    c.put_counts.ensures
    c.fill.ensures
    c.fill-2.ensures
    c.fill-3.ensures
    c.clear.ensures
