-- `exchange::nonblocking::pcm_xfer_nb` meets its contract. Assumes nothing.
use Rattle.std.proofs.Common.{false, length, sym, refl, ◌∙◌, leb-true}
use Rattle.exchange.specs.StepLaws.{came, set-up-long}
use Rattle.exchange.specs.Submit.{places_of}
use Rattle.exchange.specs.SubmitLaws.{nb-by, nb-says, nb-replied, submit-placed, submit-silent}
use Rattle.exchange.proofs.nonblocking.pcm_xfer_nb.Goals as goal

pub set_up_nb-requires : goal.set_up_nb-requires
set_up_nb-requires c = leb-true _ _ (set-up-long false _ _ c.args.s _ c.args.stream (came c.in-Ok-SetUp.is (rw c.in-Ok-SetUp.is at c.in-Ok-SetUp.field-0-is) ∙ c.checked-outcome.ensures))

pub returns-in-Err : goal.returns-in-Err
returns-in-Err c =
    let a = c.args in
    nb-replied (places_of a.ring.track.descriptors) a.s a.stream a.payload.now a.store.now a.message.now c.refused_nb.ensures
    (nb-by a.s (length a.payload.now) (length a.store.now) a.ring a.stream (length a.message.now) _ (sym c.in-Err.is ∙ c.checked-outcome.ensures)) (nb-says a.s a.ring a.stream _ _ _) refl refl

pub returns-in-Ok-SetUp : goal.returns-in-Ok-SetUp
returns-in-Ok-SetUp c =
    let a = c.args in
    let u = c.set_up_nb.ensures in
    nb-replied (places_of a.ring.track.descriptors) a.s a.stream a.payload.now a.store.now a.message.now u.0
    (nb-by a.s (length a.payload.now) (length a.store.now) a.ring a.stream (length a.message.now) _ (came c.in-Ok-SetUp.is (rw c.in-Ok-SetUp.is at c.in-Ok-SetUp.field-0-is) ∙ c.checked-outcome.ensures)) (nb-says a.s a.ring a.stream _ _ _) refl u.1

pub returns-in-Ok-Open : goal.returns-in-Ok-Open
returns-in-Ok-Open c =
    let a = c.args in
    let n = length a.payload.now in
    let len = length a.store.now in
    let w = nb-by a.s n len a.ring a.stream (length a.message.now) _ (came c.in-Ok-Open.is (rw c.in-Ok-Open.is at c.in-Ok-Open.field-0-is) ∙ c.checked-outcome.ensures) in
    let u = submit-placed a.s n len _ a.stream a.payload.now a.store.now c.places_of-places.ensures c.submit.ensures in
    nb-replied (places_of a.ring.track.descriptors) a.s a.stream a.payload.now a.store.now a.message.now u.0 w (nb-says a.s a.ring a.stream _ _ _) u.1
    (submit-silent (places_of a.ring.track.descriptors) a.s n len _ a.stream a.message.now)
