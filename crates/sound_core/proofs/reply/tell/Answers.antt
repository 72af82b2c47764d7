-- `sound_core::reply::tell` meets its contract: a short message is refused, and otherwise what is said is put. Assumes nothing.
use mathlib.Core.Path.{refl}
use borrow.Author.Tests.{le-leb, lt-leb}
use Rattle.codes.specs.SaysLaws.{passes, stops}
use Rattle.sound_core.proofs.reply.tell.Goals as goal

pub returns-then-message-lt-MESSAGE : goal.returns-then-message-lt-MESSAGE
returns-then-message-lt-MESSAGE c = let short = lt-leb 24 _ c.if-message-lt-MESSAGE.true in (stops _ _ _ short refl, stops _ _ _ short refl)

pub returns : goal.returns
returns c =
    let long = le-leb 24 _ c.if-message-lt-MESSAGE.false in
    (passes _ _ _ long c.put.ensures.0, passes _ _ _ long c.put.ensures.1)
