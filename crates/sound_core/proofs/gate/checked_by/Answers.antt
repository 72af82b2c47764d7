-- `sound_core::gate::checked_by` meets its contract: a chain of tests. Assumes nothing.
use Rattle.std.specs.Prelude.{not, Ok, Err}
use mathlib.Core.Path.{refl, ap}
use borrow.Author.Tests.{eq-eqb, ne_eqb, lt-ltb, le-ltb, not-true, not-false}
use Rattle.sound_core.specs.Types.{NoStatus, InvalidParam, IoError, BadState, SetUp}
use Rattle.codes.specs.SaysLaws.{passed, failed, passes, stops}
use Rattle.sound_core.specs.GateLaws.{faces, faces-not}
use Rattle.sound_core.proofs.gate.checked_by.Goals as goal

pub returns-then-not-c : goal.returns-then-not-c
returns-then-not-c c = stops _ (Ok SetUp) _ (not-true _ c.if-not-c.true) refl

pub returns-then-c-stream : goal.returns-then-c-stream
returns-then-c-stream c = passes _ (Ok SetUp) _ (not-false _ c.if-not-c.false) (stops _ (Err InvalidParam) _ (le-ltb _ _ c.if-c-stream.true) refl)

pub returns-then-not-taken : goal.returns-then-not-taken
returns-then-not-taken c =
    passes _ (Ok SetUp) _ (not-false _ c.if-not-c.false)
    (passes _ (Err InvalidParam) _ (lt-ltb _ _ c.if-c-stream.false)
    (stops _ (Err BadState) _ (failed (rw c.takes.ensures at c.held_to-taken.ensures) c.if-not-taken.true-raw) refl))

pub returns-then-not-faces : goal.returns-then-not-faces
returns-then-not-faces c =
    let a = c.args in
    passes _ (Ok SetUp) _ (not-false _ c.if-not-c.false)
    (passes _ (Err InvalidParam) _ (lt-ltb _ _ c.if-c-stream.false)
    (passes _ (Err BadState) _ (passed (rw c.takes.ensures at c.held_to-taken.ensures) c.if-not-taken.false-raw)
    (faces-not a.capture a.direction (Err InvalidParam) _ (failed c.held_to-faces.ensures c.if-not-faces.true-raw) refl)))

pub returns-then-p-eq0 : goal.returns-then-p-eq0
returns-then-p-eq0 c =
    let a = c.args in
    passes _ (Ok SetUp) _ (not-false _ c.if-not-c.false)
    (passes _ (Err InvalidParam) _ (lt-ltb _ _ c.if-c-stream.false)
    (passes _ (Err BadState) _ (passed (rw c.takes.ensures at c.held_to-taken.ensures) c.if-not-taken.false-raw)
    (faces a.capture a.direction (Err InvalidParam) _ (passed c.held_to-faces.ensures c.if-not-faces.false-raw)
    (stops _ (Err (IoError NoStatus)) _ (ap not (eq-eqb _ _ c.if-p-eq0.true)) refl))))

pub returns : goal.returns
returns c =
    let a = c.args in
    passes _ (Ok SetUp) _ (not-false _ c.if-not-c.false)
    (passes _ (Err InvalidParam) _ (lt-ltb _ _ c.if-c-stream.false)
    (passes _ (Err BadState) _ (passed (rw c.takes.ensures at c.held_to-taken.ensures) c.if-not-taken.false-raw)
    (faces a.capture a.direction (Err InvalidParam) _ (passed c.held_to-faces.ensures c.if-not-faces.false-raw)
    (passes _ (Err (IoError NoStatus)) _ (ap not (ne_eqb _ _ c.if-p-eq0.false)) refl))))
