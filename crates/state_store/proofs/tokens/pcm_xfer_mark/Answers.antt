-- `state_store::tokens::pcm_xfer_mark` meets its contract: the length, the test, then the reading. Assumes nothing.
use Rattle.std.proofs.Common.{sym, ap, ◌∙◌}
use Rattle.codes.specs.SaysLaws.{passed, failed}
use Rattle.pending.specs.Table.{mark_token}
use Rattle.state_store.specs.Types.{Token}
use Rattle.state_store.specs.Store.{core_of}
use Rattle.state_store.specs.TokenLaws.{mark-short, mark-barred, mark-quiet, mark-told}
use Rattle.state_store.proofs.tokens.pcm_xfer_mark.Goals as goal

pub returns-then-state-lt-SIZE : goal.returns-then-state-lt-SIZE
returns-then-state-lt-SIZE c = let a = c.args in mark-short a.state.now a.kind a.token a.status c.if-state-lt-SIZE.true

pub returns-then-not-consistent : goal.returns-then-not-consistent
returns-then-not-consistent c =
    let a = c.args in
    mark-barred a.state.now a.kind a.token a.status (λ k. (c.slice_known-1.given k).fits) c.if-state-lt-SIZE.false
    (c.core_of-c.ensures ∙ ap core_of c.get_head.ensures) (failed c.consistent.ensures c.if-not-consistent.true-raw)

pub returns-in-None : goal.returns-in-None
returns-in-None c =
    let a = c.args in
    mark-quiet a.state.now a.kind a.token a.status (λ k. (c.slice_known-1.given k).fits) c.if-state-lt-SIZE.false
    (c.core_of-c.ensures ∙ ap core_of c.get_head.ensures) (passed c.consistent.ensures c.if-not-consistent.false-raw)
    (sym c.from_words-reading.ensures ∙ c.in-None.is)

pub returns-in-Some : goal.returns-in-Some
returns-in-Some c =
    let a = c.args in
    mark-told a.state.now a.kind a.token a.status (λ k. (c.slice_known-1.given k).fits) c.if-state-lt-SIZE.false
    (c.core_of-c.ensures ∙ ap core_of c.get_head.ensures) _ _ _ _ (passed c.consistent.ensures c.if-not-consistent.false-raw)
    (sym c.from_words-reading.ensures ∙ c.in-Some.is) (c.mark_token.ensures ∙ ap (λ (t : Token). mark_token t c.in-Some.done.status) c.token_at-t.ensures) c.settle.ensures
