-- `state_store::tokens::pending_token` meets its contract: the lengths, the tests, then the token. Assumes nothing.
use Rattle.std.proofs.Common.{sym, ap, ◌∙◌}
use borrow.Author.Tests.{not-true, not-false}
use Rattle.codes.specs.SaysLaws.{passed, failed}
use Rattle.state_store.specs.Store.{core_of}
use Rattle.state_store.specs.TokenLaws.{seen-unread, seen-barred, seen-past, seen-told}
use Rattle.state_store.proofs.tokens.pending_token.Goals as goal

pub returns-then-not-both : goal.returns-then-not-both
returns-then-not-both c = let a = c.args in seen-unread a.state.now a.res.now a.token (sym c.both.ensures ∙ not-true _ c.if-not-both.true-raw)

pub returns-then-not-consistent : goal.returns-then-not-consistent
returns-then-not-consistent c =
    let a = c.args in
    seen-barred a.state.now a.res.now a.token (sym c.both.ensures ∙ not-false _ c.if-not-both.false-raw) (c.core_of-c.ensures ∙ ap core_of c.get_head.ensures) (failed c.consistent.ensures c.if-not-consistent.true-raw)

pub returns-then-token-ge32 : goal.returns-then-token-ge32
returns-then-token-ge32 c =
    let a = c.args in
    seen-past a.state.now a.res.now a.token (sym c.both.ensures ∙ not-false _ c.if-not-both.false-raw) (c.core_of-c.ensures ∙ ap core_of c.get_head.ensures) (passed c.consistent.ensures c.if-not-consistent.false-raw) c.if-token-ge32.true

pub returns : goal.returns
returns c =
    let a = c.args in
    seen-told a.state.now a.res.now a.token (sym c.both.ensures ∙ not-false _ c.if-not-both.false-raw) (c.core_of-c.ensures ∙ ap core_of c.get_head.ensures) _ _ _ (passed c.consistent.ensures c.if-not-consistent.false-raw) c.if-token-ge32.false
    c.token_at.ensures c.seen_token-seen.ensures c.tell_seen.ensures
