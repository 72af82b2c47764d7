-- Refused, or the values. Assumes nothing.
use mathlib.Core.Path.{refl}
use borrow.Author.Tests.{not-true, not-false}
use Rattle.codes.specs.SaysLaws.{passes, stops}
use Rattle.turns.specs.CallLaws.{passed, failed}
use Rattle.ring_store.specs.ReadsLaws.{unroomy, bare, tells}
use Rattle.ring_store.proofs.reads.tell.Goals as goal

pub returns-then-not-roomy : goal.returns-then-not-roomy
returns-then-not-roomy c = let a = c.args in unroomy a.ring.now a.res.now _ (failed c.roomy.ensures c.if-not-roomy.true-raw)

pub returns-then-not-sound : goal.returns-then-not-sound
returns-then-not-sound c =
    let a = c.args in
    bare a.ring.now a.res.now 1 _ (passed c.roomy.ensures c.if-not-roomy.false-raw) (stops _ _ _ (not-true _ c.if-not-sound.true-raw) refl)

pub returns : goal.returns
returns c =
    let a = c.args in
    tells a.ring.now a.res.now _ a.values.now _ (passed c.roomy.ensures c.if-not-roomy.false-raw) c.put_values.ensures (passes _ _ _ (not-false _ c.if-not-sound.false-raw) refl)
