-- `exchange::calls::bad_length` meets its contract: nothing is changed. Assumes nothing.
use Rattle.exchange.proofs.calls.bad_length.Goals as goal

pub returns : goal.returns
returns c = simp c.no_ids.ensures
