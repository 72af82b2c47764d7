-- The step of the track that the store holds, written over it. Assumes nothing.
use borrow.Author.Rules.{rules}
use mathlib.Core.Path.{ap, ◌∙◌}
use Rattle.turns.specs.Calls.{start_traced}
use Rattle.ring_store.specs.Types.{Track}
use Rattle.ring_store.specs.Calls.{start_traced_in}
use Rattle.ring_store.specs.CallsLaws.{short, stepped}
use Rattle.ring_store.proofs.calls.start_traced.Goals as goal

pub returns-then-ring-lt-SIZE : goal.returns-then-ring-lt-SIZE
unfolding start_traced_in
returns-then-ring-lt-SIZE c = short c.args.ring.now _ (search rules)

pub returns : goal.returns
unfolding start_traced_in
returns c =
    let a = c.args in
    stepped a.ring.now _ _ (λ k. (c.slice_known-1.given k).fits) c.if-ring-lt-SIZE.false
    (◌∙◌ {b = start_traced c.track-t.result a.stream a.len a.period a.budget a.room} c.traced_start_track-step.ensures (ap (λ (u : Track). start_traced u a.stream a.len a.period a.budget a.room) c.track-t.ensures)) c.leave.ensures
