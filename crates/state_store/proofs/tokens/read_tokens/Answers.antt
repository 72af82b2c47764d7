-- `state_store::tokens::read_tokens` meets its contract: a token at a time. Assumes nothing.
use Rattle.std.proofs.Common.{◌≡◌, ◌<◌, length, ◌∙◌, arith, length-set, rules}
use Rattle.state_store.specs.TokenLaws.{first-none, first_next, first-all}
use Rattle.state_store.proofs.tokens.read_tokens.Goals as goal

pub loop-k-init : goal.loop-k-init
loop-k-init c = (search rules, first-none _ c.new.result.tokens)

pub loop-k-preserved : goal.loop-k-preserved
loop-k-preserved c =
    let i = c.loop-k.invariant in
    let h : c.loop-k.k < length c.loop-k.tokens = omega arith in
    (length-set c.loop-k.tokens c.loop-k.k _ ∙ i.0, first_next _ c.loop-k.k c.loop-k.tokens _ h (omega arith) i.1 c.token_at-t.ensures)

pub returns : goal.returns
returns c =
    let i = c.loop-k.invariant in
    let k : c.loop-k.k ≡ 32 = omega arith in
    first-all _ c.loop-k.k c.loop-k.tokens k i.0 i.1
