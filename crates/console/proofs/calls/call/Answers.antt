-- `console::calls::call` meets its contract: the ring's length, then the state's call with the ring's track. Assumes nothing.
use Rattle.std.proofs.Common.{length, refl, ap, ◌∙◌, arith, le-leb}
use borrow.Author.Tests.{lt-leb}
use Rattle.codes.specs.SaysLaws.{passes, stops}
use Rattle.turns.specs.declared.ring.Track.{Track}
use Rattle.ring_store.specs.Store.{ring_size}
use Rattle.state_store.specs.Calls.{call_in}
use Rattle.console.proofs.calls.call.Goals as goal

pub returns-then-ring-lt-SIZE : goal.returns-then-ring-lt-SIZE
returns-then-ring-lt-SIZE c = stops _ _ _ (lt-leb ring_size (length c.args.ring.now) (omega (arith, c.if-ring-lt-SIZE.true))) refl

pub returns : goal.returns
returns c =
    let a = c.args in
    passes _ _ _ (le-leb _ _ c.if-ring-lt-SIZE.false)
    (c.call.ensures ∙ ap (λ (x : Track). call_in a.state.now x a.asked a.message.now a.res.now) c.track-t.ensures)
