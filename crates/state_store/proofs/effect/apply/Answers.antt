-- `state_store::effect::apply` meets its contract, case by case. Assumes nothing.
use Rattle.state_store.proofs.effect.apply.Goals as goal

pub returns-in-FillJacks : goal.returns-in-FillJacks
returns-in-FillJacks c = rw c.in-FillJacks.is c.fill.ensures

pub returns-in-FillStreams : goal.returns-in-FillStreams
returns-in-FillStreams c = rw c.in-FillStreams.is c.fill-in-FillStreams.ensures

pub returns-in-FillMaps : goal.returns-in-FillMaps
returns-in-FillMaps c = rw c.in-FillMaps.is c.fill-in-FillMaps.ensures

pub returns-in-Store : goal.returns-in-Store
returns-in-Store c = rw c.in-Store.is c.put_set.ensures

pub returns-in-Move : goal.returns-in-Move
returns-in-Move c = rw c.in-Move.is c.put_life.ensures
