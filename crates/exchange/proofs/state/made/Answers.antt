-- `exchange::state::made` meets its contract, by those of its parts. Assumes nothing.
use Rattle.exchange.proofs.state.made.Goals as goal

pub returns : goal.returns
returns c = simp (c.new-2.ensures, c.no_params.ensures, c.new.ensures)
