-- The step of the track that the store holds, written over it. Assumes nothing.
use borrow.Author.Rules.{rules}
use mathlib.Core.Path.{◌∙◌}
use Rattle.turns.specs.Calls.{drain_call}
use Rattle.turns.specs.InPlace.{drain_words}
use Rattle.ring_store.specs.Store.{ring_of}
use Rattle.ring_store.specs.Calls.{drain_in}
use Rattle.ring_store.specs.CallsLaws.{short, stepped}
use Rattle.ring_store.proofs.calls.drain_turn.Goals as goal

pub returns-then-ring-lt-SIZE : goal.returns-then-ring-lt-SIZE
unfolding drain_in
returns-then-ring-lt-SIZE c = short c.args.ring.now _ (search rules)

pub returns : goal.returns
unfolding drain_in drain_words ring_of
returns c =
    stepped c.args.ring.now _ _ (λ k. (c.slice_known-1.given k).fits) c.if-ring-lt-SIZE.false
    (c.drain_track-step.ensures ∙ (λ j. drain_call (c.track-t.ensures j) (c.from_words-reading.ensures j))) c.leave.ensures
