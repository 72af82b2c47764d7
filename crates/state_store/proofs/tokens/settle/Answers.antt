-- `state_store::tokens::settle` meets its contract: the token, then the word. Assumes nothing.
use Rattle.layout.specs.Lent.{made}
use Rattle.state_store.proofs.tokens.settle.Goals as goal

pub returns : goal.returns
returns c = λ i. made (c.word_of.ensures i) (c.put_token.ensures i)
