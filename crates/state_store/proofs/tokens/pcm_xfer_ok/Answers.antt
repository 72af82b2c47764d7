-- `state_store::tokens::pcm_xfer_ok` meets its contract: the length, the test, then the token. Assumes nothing.
use Rattle.std.proofs.Common.{ap, ◌∙◌}
use Rattle.codes.specs.SaysLaws.{passed, failed}
use Rattle.pending.specs.Table.{finish_token}
use Rattle.state_store.specs.Store.{core_of}
use Rattle.state_store.specs.TokenLaws.{finish-short, finish-barred, finish-told}
use Rattle.state_store.proofs.tokens.pcm_xfer_ok.Goals as goal

pub returns-then-state-lt-SIZE : goal.returns-then-state-lt-SIZE
returns-then-state-lt-SIZE c = let a = c.args in finish-short a.state.now a.token c.if-state-lt-SIZE.true

pub returns-then-not-consistent : goal.returns-then-not-consistent
returns-then-not-consistent c =
    let a = c.args in
    finish-barred a.state.now a.token (λ k. (c.slice_known-1.given k).fits) c.if-state-lt-SIZE.false
    (c.core_of-c.ensures ∙ ap core_of c.get_head.ensures) (failed c.consistent.ensures c.if-not-consistent.true-raw)

pub returns : goal.returns
returns c =
    let a = c.args in
    finish-told a.state.now a.token (λ k. (c.slice_known-1.given k).fits) c.if-state-lt-SIZE.false
    (c.core_of-c.ensures ∙ ap core_of c.get_head.ensures) _ _ (passed c.consistent.ensures c.if-not-consistent.false-raw)
    (c.finish_token.ensures ∙ ap finish_token c.token_at-t.ensures) c.settle.ensures
