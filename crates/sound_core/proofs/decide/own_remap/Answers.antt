-- `sound_core::decide::own_remap` meets its contract, test by test. Assumes nothing.
use mathlib.Core.Path.{ap}
use Rattle.std.specs.Prelude.{not}
use borrow.Author.Tests.{lt-ltb, le-ltb, eq-eqb, ne_eqb}
use Rattle.codes.specs.SaysLaws.{passed, failed, passes, stops}
use Rattle.sound_core.specs.Plan.{own_remap}
use Rattle.sound_core.proofs.decide.own_remap.Goals as goal

pub returns-then-c-jack : goal.returns-then-c-jack
unfolding own_remap
returns-then-c-jack c = stops _ _ _ (le-ltb _ _ c.if-c-jack.true) c.end_refused.ensures

pub returns-then-c-eq0 : goal.returns-then-c-eq0
unfolding own_remap
returns-then-c-eq0 c = passes _ _ _ (lt-ltb _ _ c.if-c-jack.false) (stops _ _ _ (ap not (eq-eqb _ _ c.if-c-eq0.true)) c.end_refused-then-c-eq0.ensures)

pub returns-then-not-can_remap : goal.returns-then-not-can_remap
unfolding own_remap
returns-then-not-can_remap c = passes _ _ _ (lt-ltb _ _ c.if-c-jack.false) (passes _ _ _ (ap not (ne_eqb _ _ c.if-c-eq0.false)) (stops _ _ _ (failed c.can_remap.ensures c.if-not-can_remap.true-raw) c.end_refused-then-not-can_remap.ensures))

pub returns : goal.returns
unfolding own_remap
returns c = passes _ _ _ (lt-ltb _ _ c.if-c-jack.false) (passes _ _ _ (ap not (ne_eqb _ _ c.if-c-eq0.false)) (passes _ _ _ (passed c.can_remap.ensures c.if-not-can_remap.false-raw) c.send.ensures))
