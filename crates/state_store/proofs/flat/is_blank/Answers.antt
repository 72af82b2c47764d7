-- `state_store::flat::is_blank` meets its contract: a chain of tests. Assumes nothing.
use Rattle.state_store.proofs.flat.is_blank.Goals as goal

pub returns : goal.returns
returns c = simp (c.both-3.ensures, c.both-2.ensures, c.both.ensures, c.is_short.ensures)
