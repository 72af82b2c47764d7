-- `state_store::tokens::token_at` meets its contract: the record stands at its place. Assumes nothing.
use Rattle.std.proofs.Common.{sym}
use Rattle.state_store.specs.Store.{token_in}
use Rattle.state_store.specs.PlaceLaws.{token-in, token-out}
use Rattle.state_store.proofs.tokens.token_at.Goals as goal

pub returns-then-k-ge32 : goal.returns-then-k-ge32
returns-then-k-ge32 c = sym (token-out _ _ c.if-k-ge32.true)

pub returns : goal.returns
unfolding token_in
returns c = token-in _ _ _ c.if-k-ge32.false (λ i. record { state = c.get_u32.ensures i; status = c.get_u32-2.ensures i })
