-- `state_store::flat::is_plain` meets its contract: a chain of tests. Assumes nothing.
use Rattle.state_store.proofs.flat.is_plain.Goals as goal

pub returns : goal.returns
returns c = simp (c.both.ensures, c.both-t-3.ensures, c.both-t-2.ensures, c.both-t.ensures)
