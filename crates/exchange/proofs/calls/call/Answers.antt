-- `exchange::calls::call` meets its contract: the length, then the call. Assumes nothing.
use Rattle.std.proofs.Common.{[], length, refl, ap, ◌∙◌, le-leb}
use borrow.Author.Tests.{lt-leb}
use Rattle.exchange.specs.StepLaws.{stepped, moved}
use Rattle.sound_core.specs.Plan.{begin_of}
use Rattle.exchange.specs.Exchange.{call_of}
use Rattle.codes.specs.SaysLaws.{passes, stops}
use Rattle.exchange.proofs.calls.call.Goals as goal

pub returns-then-message-lt-MESSAGE : goal.returns-then-message-lt-MESSAGE
unfolding call_of
returns-then-message-lt-MESSAGE c =
    let a = c.args in
    moved (call_of a.s a.ring.track a.asked (length a.message.now)) a.s [] a.message.now
    (stops _ _ _ (lt-leb _ _ c.if-message-lt-MESSAGE.true) refl)
    (stepped c.bad_length.ensures refl)

pub returns : goal.returns
unfolding call_of
returns c =
    let a = c.args in
    moved (call_of a.s a.ring.track a.asked (length a.message.now)) a.s [] a.message.now
    (passes _ _ _ (le-leb _ _ c.if-message-lt-MESSAGE.false) (c.begin-plan.ensures ∙ ap (begin_of a.s.core a.ring.track a.asked) c.look-found.ensures))
    c.finish.ensures
