-- `console::transfer::snd_pcm_xfer_start` meets its contract: what the state opens, and the ring's own start. Assumes nothing.
use Rattle.std.proofs.Common.{◌∙◌, le-leb}
use borrow.Author.Tests.{lt-leb}
use Rattle.std.specs.Prelude.{Ok, Err}
use Rattle.ring_store.specs.Calls.{start_in}
use Rattle.console.specs.Entries.{began}
use Rattle.console.specs.EntryLaws.{playback-short, playback-started}
use Rattle.console.proofs.transfer.snd_pcm_xfer_start.Goals as goal

pub returns-then-ring-lt-SIZE : goal.returns-then-ring-lt-SIZE
returns-then-ring-lt-SIZE c = let a = c.args in playback-short a.state.now a.ring.now a.stream _ a.budget a.message.now (lt-leb _ _ c.if-ring-lt-SIZE.true)

pub returns-in-Err : goal.returns-in-Err
returns-in-Err c =
    let a = c.args in
    playback-started a.state.now a.ring.now a.stream _ a.budget a.message.now (λ k. (c.slice_known-1.given k).fits) (le-leb _ _ c.if-ring-lt-SIZE.false)
    (Err _) _ c.open-opening.new.state c.open-opening.new.message _ c.in-Err.is c.track-t.ensures c.open-opening.ensures

pub returns-in-Ok : goal.returns-in-Ok
unfolding start_in
returns-in-Ok c =
    let a = c.args in
    (λ i. began (c.start.ensures i).answer c.open-opening.new.state (c.start.ensures i).store c.open-opening.new.message)
    ∙ playback-started a.state.now a.ring.now a.stream _ a.budget a.message.now (λ k. (c.slice_known-1.given k).fits) (le-leb _ _ c.if-ring-lt-SIZE.false)
    (Ok _) _ c.open-opening.new.state c.open-opening.new.message _ c.in-Ok.is c.track-t.ensures c.open-opening.ensures
