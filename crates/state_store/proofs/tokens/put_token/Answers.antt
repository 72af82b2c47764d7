-- `state_store::tokens::put_token` meets its contract: its two fields, one after the other. Assumes nothing.
use Rattle.std.proofs.Common.{sym, ◌∙◌, le-ltb, lt-ltb}
use Rattle.codes.specs.SaysLaws.{picks, skips}
use Rattle.state_store.specs.TokenLaws.{token-stored}
use Rattle.state_store.proofs.tokens.put_token.Goals as goal

pub returns-then-k-ge32 : goal.returns-then-k-ge32
returns-then-k-ge32 c = let a = c.args in sym (skips _ _ _ (le-ltb a.k 32 c.if-k-ge32.true))

pub returns : goal.returns
returns c =
    let a = c.args in
    token-stored a.s.now _ _ _ a.t c.put_u32.ensures c.put_u32-2.ensures ∙ sym (picks _ _ _ (lt-ltb a.k 32 c.if-k-ge32.false))
