-- `sound_core::decide::own_xfer` meets its contract, test by test. Assumes nothing.
use borrow.Author.Tests.{lt-ltb, le-ltb}
use Rattle.codes.specs.SaysLaws.{passed, failed, passes, stops}
use Rattle.sound_core.specs.GateLaws.{faces, faces-not}
use Rattle.sound_core.specs.Plan.{direction_in, own_xfer}
use Rattle.sound_core.proofs.decide.own_xfer.Goals as goal

pub returns-then-c-stream : goal.returns-then-c-stream
unfolding own_xfer
returns-then-c-stream c = stops _ _ _ (le-ltb _ _ c.if-c-stream.true) c.end_refused.ensures

pub returns-then-not-taken : goal.returns-then-not-taken
unfolding own_xfer
returns-then-not-taken c =
    passes _ _ _ (lt-ltb _ _ c.if-c-stream.false)
    (stops _ _ _ (failed (rw (c.takes.ensures, c.life_in.ensures) at c.held_to-taken.ensures) c.if-not-taken.true-raw) c.end_refused-then-not-taken.ensures)

pub returns-then-not-faces : goal.returns-then-not-faces
unfolding own_xfer
returns-then-not-faces c =
    let a = c.args in
    passes _ _ _ (lt-ltb _ _ c.if-c-stream.false)
    (passes _ _ _ (passed (rw (c.takes.ensures, c.life_in.ensures) at c.held_to-taken.ensures) c.if-not-taken.false-raw)
    (faces-not a.capture (direction_in a.look) _ _ (failed (rw c.direction_in.ensures at c.held_to-faces.ensures) c.if-not-faces.true-raw) c.end_refused-then-not-faces.ensures))

pub returns : goal.returns
unfolding own_xfer
returns c =
    let a = c.args in
    passes _ _ _ (lt-ltb _ _ c.if-c-stream.false)
    (passes _ _ _ (passed (rw (c.takes.ensures, c.life_in.ensures) at c.held_to-taken.ensures) c.if-not-taken.false-raw)
    (faces a.capture (direction_in a.look) _ _ (passed (rw c.direction_in.ensures at c.held_to-faces.ensures) c.if-not-faces.false-raw) c.end_refused-2.ensures))
