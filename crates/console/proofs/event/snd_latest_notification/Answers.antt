-- `console::event::snd_latest_notification` meets its contract: by what the event says. Assumes nothing.
use Rattle.std.proofs.Common.{false, refl, ◌∙◌, le-leb}
use borrow.Author.Tests.{lt-leb}
use Rattle.codes.specs.SaysLaws.{passes, stops}
use Rattle.console.specs.Entries.{notice_entry}
use Rattle.console.specs.VersionLaws.{noticed-is}
use Rattle.console.proofs.event.snd_latest_notification.Goals as goal

pub returns-then-res-lt-RESULT : goal.returns-then-res-lt-RESULT
unfolding notice_entry
returns-then-res-lt-RESULT c = stops _ _ _ (lt-leb _ _ c.if-res-lt-RESULT.true) refl

pub returns : goal.returns
unfolding notice_entry
returns c =
    let a = c.args in
    passes _ _ _ (le-leb _ _ c.if-res-lt-RESULT.false) (c.tell.ensures ∙ noticed-is false a.event.now a.res.now c.latest_notification-said.result c.latest_notification-said.ensures)
