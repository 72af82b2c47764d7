-- `state_store::nonblocking::submit` meets its contract: the lowest free place, or none. Assumes nothing.
use Rattle.std.proofs.Common.{ℕ, length, ap, ◌∙◌}
use Rattle.state_store.specs.Steps.{held, held_by}
use Rattle.state_store.specs.SubmitLaws.{spot_is}
use Rattle.state_store.proofs.nonblocking.submit.Goals as goal

pub returns-in-Err : goal.returns-in-Err
returns-in-Err c =
    let a = c.args in
    ap (λ (n : ℕ). held n a.state.now a.places.now a.res.now) c.word.ensures
    ∙ ap (held_by a.many a.state.now a.stream a.payload.now a.places.now a.res.now)
    (spot_is a.many a.state.now (length a.payload.now) (length a.places.now) a.period c.pending_in.ensures c.lowest-free.ensures c.find_spot-spot.ensures c.in-Err.is)

pub returns-in-Ok : goal.returns-in-Ok
returns-in-Ok c =
    let a = c.args in
    c.hold.ensures
    ∙ ap (held_by a.many a.state.now a.stream a.payload.now a.places.now a.res.now)
    (spot_is a.many a.state.now (length a.payload.now) (length a.places.now) a.period c.pending_in.ensures c.lowest-free.ensures c.find_spot-spot.ensures c.in-Ok.is)
