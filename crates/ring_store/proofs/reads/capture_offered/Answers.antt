-- The lengths, then by the cases of the offer. Assumes nothing.
use mathlib.Core.Path.{sym, ap, ◌∙◌}
use Rattle.turns.specs.Capture.{capture_offer}
use Rattle.turns.specs.CallLaws.{failed}
use Rattle.ring_store.specs.Types.{Track}
use Rattle.ring_store.specs.ReadsLaws.{unroomy, told}
use Rattle.ring_store.specs.Calls.{offer_word, says_room}
use Rattle.ring_store.proofs.reads.capture_offered.Goals as goal

pub returns-then-not-roomy : goal.returns-then-not-roomy
returns-then-not-roomy c = let a = c.args in unroomy a.ring.now a.res.now _ (failed c.roomy.ensures c.if-not-roomy.true-raw)

pub returns-in-Ok : goal.returns-in-Ok
returns-in-Ok c =
    let a = c.args in
    told a.ring.now a.res.now _ _ (ap (offer_word says_room) (sym c.in-Ok.is ∙ c.capture_offer-offer.ensures ∙ ap (λ (u : Track). capture_offer u a.len) c.track-t.ensures)) c.tell_room.ensures

pub returns-in-Err : goal.returns-in-Err
returns-in-Err c =
    let a = c.args in
    told a.ring.now a.res.now _ _ (ap (offer_word says_room) (sym c.in-Err.is ∙ c.capture_offer-offer.ensures ∙ ap (λ (u : Track). capture_offer u a.len) c.track-t.ensures)) c.tell_refusal.ensures
