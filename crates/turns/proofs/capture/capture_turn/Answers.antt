-- The step of the track, brought to the ring and to the recording. Assumes nothing.
use mathlib.Core.Path.{ap, ◌∙◌}
use lib.ListN.{length}
use Rattle.turns.specs.Calls.{turned_of}
use Rattle.turns.specs.Capture.{capture_call, recording_after}
use Rattle.turns.specs.Types.{Step}
use Rattle.turns.proofs.capture.capture_turn.Goals as goal

pub returns : goal.returns
returns c =
    let a = c.args in
    let e = c.capture_track-s.ensures ∙ ap (capture_call a.r.track (length a.recording.now)) c.from_words-c.ensures in
    (c.turned.ensures ∙ ap (turned_of a.r) e, c.copy.ensures ∙ ap (λ (x : Step). recording_after a.r.track x a.bytes.now a.recording.now) e)
