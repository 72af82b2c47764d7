-- `exchange::calls::feed_failure` meets its contract: the length, then the answer. Assumes nothing.
use Rattle.std.proofs.Common.{Err, [], length, refl, ap, ◌∙◌, le-leb}
use borrow.Author.Tests.{lt-leb}
use Rattle.exchange.specs.StepLaws.{stepped, moved}
use Rattle.exchange.specs.Types.{QueueFailed}
use Rattle.tables.specs.declared.verdict.Fault.TheVariants.{Refused}
use Rattle.sound_core.specs.Plan.{answer_of}
use Rattle.exchange.specs.Exchange.{fail_of}
use Rattle.codes.specs.SaysLaws.{passes, stops}
use Rattle.exchange.proofs.calls.feed_failure.Goals as goal

pub returns-then-message-lt-MESSAGE : goal.returns-then-message-lt-MESSAGE
unfolding fail_of
returns-then-message-lt-MESSAGE c =
    let a = c.args in
    moved (fail_of a.s (length a.message.now)) a.s [] a.message.now
    (stops _ _ _ (lt-leb _ _ c.if-message-lt-MESSAGE.true) refl)
    (stepped c.bad_length.ensures refl)

pub returns : goal.returns
unfolding fail_of
returns c =
    let a = c.args in
    moved (fail_of a.s (length a.message.now)) a.s [] a.message.now
    (passes _ _ _ (le-leb _ _ c.if-message-lt-MESSAGE.false) (c.answer-plan.ensures ∙ ap (answer_of a.s.core (Err (Refused QueueFailed))) c.pending_look-found.ensures))
    c.finish.ensures
