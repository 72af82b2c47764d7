-- `console::versions::snd_latest_notification_in` meets its contract: each test in its order, then by what the event says. Assumes nothing.
use Rattle.std.proofs.Common.{Bool, refl, ap, ◌∙◌, le-leb}
use borrow.Author.Tests.{lt-leb}
use Rattle.codes.specs.SaysLaws.{passes, stops}
use Rattle.console.specs.Entries.{notice_shown, notice_entry_in}
use Rattle.console.specs.VersionLaws.{noticed-is, version-known, version-unknown}
use Rattle.console.proofs.versions.snd_latest_notification_in.Goals as goal

pub returns-then-res-lt-RESULT : goal.returns-then-res-lt-RESULT
unfolding notice_entry_in
returns-then-res-lt-RESULT c = stops _ _ _ (lt-leb _ _ c.if-res-lt-RESULT.true) refl

pub returns-in_default : goal.returns-in_default
unfolding notice_entry_in
returns-in_default c =
    let a = c.args in
    passes _ _ _ (le-leb _ _ c.if-res-lt-RESULT.false) (stops _ _ _ (version-unknown a.version _ _ c.in_default.is c.try_from.ensures) refl)

pub returns : goal.returns
unfolding notice_entry_in
returns c =
    let a = c.args in
    passes _ _ _ (le-leb _ _ c.if-res-lt-RESULT.false)
    (passes _ _ _ (version-known a.version _ _ c.in-Ok.is c.try_from.ensures)
    (c.tell.ensures
    ∙ noticed-is c.has_controls-controls.result a.event.now a.res.now c.latest_notification_in-said.result c.latest_notification_in-said.ensures
    ∙ ap (λ (controls : Bool). notice_shown controls a.event.now a.res.now) c.has_controls-controls.ensures))
