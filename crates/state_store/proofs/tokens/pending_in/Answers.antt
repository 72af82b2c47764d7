-- `state_store::tokens::pending_in` meets its contract: its tokens. Assumes nothing.
use Rattle.state_store.proofs.tokens.pending_in.Goals as goal

pub returns : goal.returns
returns c = λ i. record { tokens = c.read_tokens-tokens.ensures i }
