-- The step of the track that the store holds, written over it. Assumes nothing.
use borrow.Author.Rules.{rules}
use mathlib.Core.Path.{ap, ◌∙◌}
use Rattle.turns.specs.Capture.{capture_start}
use Rattle.ring_store.specs.Types.{Track}
use Rattle.ring_store.specs.Calls.{capture_start_in}
use Rattle.ring_store.specs.CallsLaws.{short, stepped}
use Rattle.ring_store.proofs.calls.capture_start.Goals as goal

pub returns-then-ring-lt-SIZE : goal.returns-then-ring-lt-SIZE
unfolding capture_start_in
returns-then-ring-lt-SIZE c = short c.args.ring.now _ (search rules)

pub returns : goal.returns
unfolding capture_start_in
returns c =
    let a = c.args in
    stepped a.ring.now _ _ (λ k. (c.slice_known-1.given k).fits) c.if-ring-lt-SIZE.false
    (◌∙◌ {b = capture_start c.track-t.result a.stream a.periods a.period a.len a.budget} c.capture_start_track-step.ensures (ap (λ (u : Track). capture_start u a.stream a.periods a.period a.len a.budget) c.track-t.ensures)) c.leave.ensures
