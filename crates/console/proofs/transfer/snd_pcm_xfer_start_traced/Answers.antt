-- `console::transfer::snd_pcm_xfer_start_traced` meets its contract: what the state opens, and the ring's own start of a trace. Assumes nothing.
use Rattle.std.proofs.Common.{◌∙◌, le-leb}
use borrow.Author.Tests.{lt-leb}
use Rattle.std.specs.Prelude.{Ok, Err}
use Rattle.ring_store.specs.Calls.{start_traced_in}
use Rattle.console.specs.Entries.{began}
use Rattle.console.specs.EntryLaws.{traced-short, traced-started}
use Rattle.console.proofs.transfer.snd_pcm_xfer_start_traced.Goals as goal

pub returns-then-size-lt-SIZE : goal.returns-then-size-lt-SIZE
returns-then-size-lt-SIZE c = let a = c.args in traced-short a.state.now a.ring.now a.stream _ a.budget a.message.now _ (lt-leb _ _ c.if-size-lt-SIZE.true)

pub returns-in-Err : goal.returns-in-Err
returns-in-Err c =
    let a = c.args in
    traced-started a.state.now a.ring.now a.stream _ a.budget a.message.now _ (λ k. (c.slice_known-1.given k).fits) (le-leb _ _ c.if-size-lt-SIZE.false)
    (Err _) _ c.open-opening.new.state c.open-opening.new.message _ c.in-Err.is c.track-t.ensures c.open-opening.ensures

pub returns-in-Ok : goal.returns-in-Ok
unfolding start_traced_in
returns-in-Ok c =
    let a = c.args in
    (λ i. began (c.start_traced.ensures i).answer c.open-opening.new.state (c.start_traced.ensures i).store c.open-opening.new.message)
    ∙ traced-started a.state.now a.ring.now a.stream _ a.budget a.message.now _ (λ k. (c.slice_known-1.given k).fits) (le-leb _ _ c.if-size-lt-SIZE.false)
    (Ok _) _ c.open-opening.new.state c.open-opening.new.message _ c.in-Ok.is c.track-t.ensures c.open-opening.ensures
