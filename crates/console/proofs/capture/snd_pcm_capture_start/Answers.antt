-- `console::capture::snd_pcm_capture_start` meets its contract: what the state opens, and the ring's own start of a capture. Assumes nothing.
use Rattle.std.proofs.Common.{◌∙◌, le-leb}
use borrow.Author.Tests.{lt-leb}
use Rattle.std.specs.Prelude.{Ok, Err}
use Rattle.ring_store.specs.Calls.{capture_start_in}
use Rattle.console.specs.Entries.{began}
use Rattle.console.specs.EntryLaws.{capture-short, capture-started}
use Rattle.console.proofs.capture.snd_pcm_capture_start.Goals as goal

pub returns-then-ring-lt-SIZE : goal.returns-then-ring-lt-SIZE
returns-then-ring-lt-SIZE c = let a = c.args in capture-short a.state.now a.ring.now a.stream _ a.budget a.message.now a.periods (lt-leb _ _ c.if-ring-lt-SIZE.true)

pub returns-in-Err : goal.returns-in-Err
returns-in-Err c =
    let a = c.args in
    capture-started a.state.now a.ring.now a.stream _ a.budget a.message.now a.periods (λ k. (c.slice_known-1.given k).fits) (le-leb _ _ c.if-ring-lt-SIZE.false)
    (Err _) _ c.open_capture-opening.new.state c.open_capture-opening.new.message _ c.in-Err.is c.track-t.ensures c.open_capture-opening.ensures

pub returns-in-Ok : goal.returns-in-Ok
unfolding capture_start_in
returns-in-Ok c =
    let a = c.args in
    (λ i. began (c.capture_start.ensures i).answer c.open_capture-opening.new.state (c.capture_start.ensures i).store c.open_capture-opening.new.message)
    ∙ capture-started a.state.now a.ring.now a.stream _ a.budget a.message.now a.periods (λ k. (c.slice_known-1.given k).fits) (le-leb _ _ c.if-ring-lt-SIZE.false)
    (Ok _) _ c.open_capture-opening.new.state c.open_capture-opening.new.message _ c.in-Ok.is c.track-t.ensures c.open_capture-opening.ensures
