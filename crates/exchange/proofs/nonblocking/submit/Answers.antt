-- `exchange::nonblocking::submit` meets its contract. Assumes nothing.
use Rattle.std.proofs.Common.{length, sym, refl, ◌∙◌}
use Rattle.exchange.specs.SubmitLaws.{submitted-by, submit-replied}
use Rattle.exchange.proofs.nonblocking.submit.Goals as goal

pub returns-in-Err : goal.returns-in-Err
returns-in-Err c =
    let a = c.args in
    submit-replied a.places a.stream a.payload.now a.store.now c.refused_nb.ensures
    (submitted-by a.places a.s (length a.payload.now) (length a.store.now) a.period _ _ c.lowest-free.ensures (sym c.in-Err.is ∙ c.find_spot-outcome.ensures)) refl

pub returns-in-Ok : goal.returns-in-Ok
returns-in-Ok c =
    let a = c.args in
    submit-replied a.places a.stream a.payload.now a.store.now c.token_nb.ensures
    (submitted-by a.places a.s (length a.payload.now) (length a.store.now) a.period _ _ c.lowest-free.ensures (sym c.in-Ok.is ∙ c.find_spot-outcome.ensures)) c.placed.ensures
