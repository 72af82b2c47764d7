-- The step of the track that the store holds, what it wrote to the room, and the step written over the store. Assumes nothing.
use Rattle.ring_store.specs.CallsLaws.{traced-short, traced-stepped}
use Rattle.ring_store.proofs.calls.turn_traced.Goals as goal

pub returns-then-ring-lt-SIZE : goal.returns-then-ring-lt-SIZE
returns-then-ring-lt-SIZE c =
    let a = c.args in
    traced-short a.ring.now a.len a.room.now a.kind a.slot a.status c.if-ring-lt-SIZE.true

pub returns : goal.returns
returns c =
    let a = c.args in
    traced-stepped a.ring.now a.len a.room.now a.kind a.slot a.status c.track-t.result c.from_words-reading.result c.turn_traced-step.result
    (λ k. (c.slice_known-1.given k).fits) c.if-ring-lt-SIZE.false c.track-t.ensures c.from_words-reading.ensures c.turn_traced-step.ensures.0
    c.leave.ensures c.turn_traced-step.ensures.1
