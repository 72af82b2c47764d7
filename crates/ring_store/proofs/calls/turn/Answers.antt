-- The step of the track that the store holds, written over it. Assumes nothing.
use borrow.Author.Rules.{rules}
use borrow.Author.Tests.{not-true}
use mathlib.Core.Path.{refl, ap, ◌∙◌}
use Rattle.turns.specs.Calls.{turn_call, refused_of}
use Rattle.turns.specs.InPlace.{turn_words}
use Rattle.turns.specs.Script.{reading_of}
use Rattle.ring_store.specs.Types.{Track}
use Rattle.codes.specs.declared.answers.Refusal.TheVariants.{InvalidParam}
use Rattle.ring_store.specs.Store.{track_at, ring_of}
use Rattle.ring_store.specs.Calls.{turn_in}
use Rattle.ring_store.specs.CallsLaws.{short, stepped, turn-idle}
use Rattle.ring_store.proofs.calls.turn.Goals as goal

pub returns-then-ring-lt-SIZE : goal.returns-then-ring-lt-SIZE
unfolding turn_in
returns-then-ring-lt-SIZE c = short c.args.ring.now _ (search rules)

pub returns-then-not-t : goal.returns-then-not-t
unfolding turn_in turn_words ring_of
returns-then-not-t c =
    let a = c.args in
    let r = reading_of a.kind a.slot a.status in
    stepped a.ring.now (refused_of InvalidParam c.track-t.result) (turn_call (track_at a.ring.now) a.len r)
    (λ k. (c.slice_known-1.given k).fits) c.if-ring-lt-SIZE.false
    (turn-idle c.track-t.result a.len r (not-true _ c.if-not-t.true) ∙ ap (λ (u : Track). turn_call u a.len r) c.track-t.ensures)
    refl

pub returns : goal.returns
unfolding turn_in turn_words ring_of
returns c =
    let a = c.args in
    stepped a.ring.now _ _ (λ k. (c.slice_known-1.given k).fits) c.if-ring-lt-SIZE.false
    (c.turn_track-step.ensures ∙ (λ j. turn_call (c.track-t.ensures j) a.len (c.from_words-reading.ensures j))) c.leave.ensures
