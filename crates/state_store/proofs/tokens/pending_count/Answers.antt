-- `state_store::tokens::pending_count` meets its contract: the lengths, then the count. Assumes nothing.
use Rattle.std.proofs.Common.{sym, ap, ◌∙◌}
use borrow.Author.Tests.{not-true, not-false}
use Rattle.state_store.specs.Store.{core_of}
use Rattle.state_store.specs.TokenLaws.{pending-unread, pending-told}
use Rattle.state_store.proofs.tokens.pending_count.Goals as goal

pub returns-then-not-both : goal.returns-then-not-both
returns-then-not-both c = let a = c.args in pending-unread a.state.now a.res.now (sym c.both.ensures ∙ not-true _ c.if-not-both.true-raw)

pub returns : goal.returns
returns c =
    let a = c.args in
    c.show.ensures
    ∙ pending-told a.state.now a.res.now (sym c.both.ensures ∙ not-false _ c.if-not-both.false-raw) (c.core_of-c.ensures ∙ ap core_of c.get_head.ensures) c.pending_in.ensures c.count-n.ensures
