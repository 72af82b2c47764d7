-- `state_store::nonblocking::hold` meets its contract: the place, the token, the result. Assumes nothing.
use Rattle.state_store.specs.Steps.{held}
use Rattle.state_store.proofs.nonblocking.hold.Goals as goal

pub returns : goal.returns
returns c =
    λ i. held 0 (c.put_token.ensures i) (c.placed.ensures i) (c.put_u64.ensures i)
