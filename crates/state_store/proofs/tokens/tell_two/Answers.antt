-- `state_store::tokens::tell_two` meets its contract: one number after the other. Assumes nothing.
use Rattle.state_store.specs.TokenLaws.{two-told}
use Rattle.state_store.proofs.tokens.tell_two.Goals as goal

pub returns : goal.returns
returns c = two-told _ _ _ _ _ c.put_u64.ensures c.put_u64-2.ensures
