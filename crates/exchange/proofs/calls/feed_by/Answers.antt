-- `exchange::calls::feed_by` meets its contract: the lengths, then the answer. Assumes nothing.
use Rattle.std.proofs.Common.{length, refl, ◌∙◌, le-leb}
use borrow.Author.Tests.{lt-leb}
use Rattle.exchange.specs.StepLaws.{stepped, moved}
use Rattle.sound_core.specs.Plan.{answer_of}
use Rattle.exchange.specs.Exchange.{feed_of}
use Rattle.codes.specs.SaysLaws.{passed, failed, passes, stops}
use Rattle.exchange.proofs.calls.feed_by.Goals as goal

pub returns-then-not-long : goal.returns-then-not-long
unfolding feed_of
returns-then-not-long c =
    let a = c.args in
    moved (feed_of a.w a.s a.page.now (length a.message.now)) a.s a.page.now a.message.now
    (stops _ _ _ (simp (failed c.page_ok-long.ensures c.if-not-long.true-raw)) refl)
    (stepped c.bad_length.ensures refl)

pub returns-then-message-lt-MESSAGE : goal.returns-then-message-lt-MESSAGE
unfolding feed_of
returns-then-message-lt-MESSAGE c =
    let a = c.args in
    moved (feed_of a.w a.s a.page.now (length a.message.now)) a.s a.page.now a.message.now
    (stops _ _ _ (simp (passed c.page_ok-long.ensures c.if-not-long.false-raw, lt-leb _ _ c.if-message-lt-MESSAGE.true)) refl)
    (stepped c.bad_length-then-message-lt-MESSAGE.ensures refl)

pub returns : goal.returns
unfolding feed_of
returns c =
    let a = c.args in
    moved (feed_of a.w a.s a.page.now (length a.message.now)) a.s a.page.now a.message.now
    (passes _ _ _ (simp (passed c.page_ok-long.ensures c.if-not-long.false-raw, le-leb _ _ c.if-message-lt-MESSAGE.false))
    (c.answer-plan.ensures ∙ (λ i. answer_of a.s.core (c.verdict_by-verdict.ensures i) (c.pending_look-found.ensures i))))
    c.finish.ensures
