-- `state_store::calls::feed_by` meets its contract: the lengths, then the answer. Assumes nothing.
use Rattle.std.proofs.Common.{◌≡◌, Bool, ◌&&◌, leb, length, sym, ap, ◌∙◌}
use borrow.Author.Tests.{not-true, not-false}
use Rattle.layout.specs.Lent.{message_size}
use Rattle.state_store.specs.Store.{whole_head}
use Rattle.state_store.specs.Store.{core_of}
use Rattle.state_store.specs.FinishLaws.{long-state, long-message, feed-unread, feed-short, fed}
use Rattle.state_store.proofs.calls.feed_by.Goals as goal

-- the test that was made is that of the contract
tested : {p q r : Bool} (m : Bool) → p ≡ q → r ≡ (p && m) → (q && m) ≡ r
tested m e h = ap (λ (b : Bool). b && m) (sym e) ∙ sym h

pub returns-then-not-both : goal.returns-then-not-both
returns-then-not-both c =
    let a = c.args in
    feed-unread a.state.now a.message.now a.res.now a.w a.page.now (sym c.both.ensures ∙ not-true _ c.if-not-both.true-raw)

pub returns-then-not-both-2 : goal.returns-then-not-both-2
returns-then-not-both-2 c =
    let a = c.args in
    feed-short a.state.now a.message.now a.res.now (sym c.both.ensures ∙ not-false _ c.if-not-both.false-raw) a.w a.page.now
    (λ k. (c.slice_known-1.given k).fits) (tested (leb message_size (length a.message.now)) c.page_ok.ensures c.both-2.ensures ∙ not-true _ c.if-not-both-2.true-raw)

pub pending_look-found-requires : goal.pending_look-found-requires
pending_look-found-requires c =
    let a = c.args in
    long-state a.state.now a.res.now (sym c.both.ensures ∙ not-false _ c.if-not-both.false-raw)

pub finish-requires : goal.finish-requires
finish-requires c =
    let a = c.args in (
      long-state a.state.now a.res.now (sym c.both.ensures ∙ not-false _ c.if-not-both.false-raw),
      long-message a.w a.page.now a.message.now (tested (leb message_size (length a.message.now)) c.page_ok.ensures c.both-2.ensures ∙ not-false _ c.if-not-both-2.false-raw),
    )

pub returns : goal.returns
returns c =
    let a = c.args in
    c.finish.ensures
    ∙ fed a.state.now a.message.now a.res.now (sym c.both.ensures ∙ not-false _ c.if-not-both.false-raw)
    (c.is_whole-whole.ensures ∙ ap whole_head c.get_head-h.ensures) (c.core_by-c.ensures ∙ ap core_of c.get_head-h.ensures) a.w a.page.now
    (tested (leb message_size (length a.message.now)) c.page_ok.ensures c.both-2.ensures ∙ not-false _ c.if-not-both-2.false-raw) c.verdict_by-verdict.ensures c.pending_look-found.ensures c.answer-plan.ensures

pub core_by-c-requires : goal.core_by-c-requires
core_by-c-requires c = c.is_whole-whole.ensures
