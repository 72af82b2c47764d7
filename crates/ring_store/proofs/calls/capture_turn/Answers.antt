-- The step of the track that the store holds, the accepted bytes, and the step written over the store. Assumes nothing.
use mathlib.Core.Path.{ap, ◌∙◌}
use lib.ListN.{length}
use Rattle.turns.specs.Capture.{capture_call}
use Rattle.ring_store.specs.Types.{Catch}
use Rattle.ring_store.specs.CallsLaws.{caught-short, caught-stepped}
use Rattle.ring_store.proofs.calls.capture_turn.Goals as goal

pub returns-then-ring-lt-SIZE : goal.returns-then-ring-lt-SIZE
returns-then-ring-lt-SIZE c =
    let a = c.args in
    caught-short a.ring.now a.recording.now a.kind a.slot a.written a.bytes.now c.if-ring-lt-SIZE.true

pub returns : goal.returns
returns c =
    let a = c.args in
    caught-stepped a.ring.now a.recording.now a.kind a.slot a.written a.bytes.now c.track-t.result c.capture_track-step.result
    (λ k. (c.slice_known-1.given k).fits) c.if-ring-lt-SIZE.false c.track-t.ensures
    (c.capture_track-step.ensures ∙ ap (λ (k : Catch). capture_call c.track-t.result (length a.recording.now) k) c.from_words-c.ensures)
    c.leave.ensures c.copy.ensures
