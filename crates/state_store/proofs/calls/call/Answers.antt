-- `state_store::calls::call` meets its contract: the lengths, then the call. Assumes nothing.
use Rattle.std.proofs.Common.{sym, ap, ◌∙◌, le-leb}
use borrow.Author.Tests.{lt-leb, not-true, not-false}
use Rattle.state_store.specs.Store.{whole_head}
use Rattle.state_store.specs.Store.{core_of}
use Rattle.state_store.specs.FinishLaws.{long-state, call-unread, call-short, called}
use Rattle.state_store.proofs.calls.call.Goals as goal

pub returns-then-not-both : goal.returns-then-not-both
returns-then-not-both c =
    let a = c.args in
    call-unread a.state.now a.message.now a.res.now a.t a.asked (sym c.both.ensures ∙ not-true _ c.if-not-both.true-raw)

pub returns-then-message-lt-MESSAGE : goal.returns-then-message-lt-MESSAGE
returns-then-message-lt-MESSAGE c =
    let a = c.args in
    call-short a.state.now a.message.now a.res.now (sym c.both.ensures ∙ not-false _ c.if-not-both.false-raw) a.t a.asked
    (λ k. (c.slice_known-1.given k).fits) (lt-leb 24 _ c.if-message-lt-MESSAGE.true)

pub look-found-requires : goal.look-found-requires
look-found-requires c =
    let a = c.args in
    long-state a.state.now a.res.now (sym c.both.ensures ∙ not-false _ c.if-not-both.false-raw)

pub finish-requires : goal.finish-requires
finish-requires c =
    let a = c.args in
    (long-state a.state.now a.res.now (sym c.both.ensures ∙ not-false _ c.if-not-both.false-raw), c.if-message-lt-MESSAGE.false)

pub returns : goal.returns
returns c =
    let a = c.args in
    c.finish.ensures
    ∙ called a.state.now a.message.now a.res.now (sym c.both.ensures ∙ not-false _ c.if-not-both.false-raw)
    (c.is_whole-whole.ensures ∙ ap whole_head c.get_head-h.ensures) (c.core_by.ensures ∙ ap core_of c.get_head-h.ensures) a.t a.asked
    (le-leb 24 _ c.if-message-lt-MESSAGE.false) c.look-found.ensures c.begin-plan.ensures
