-- `sound_core::gate::xfer_gate` meets its contract: a chain of refusals, then the rest. Assumes nothing.
use Rattle.std.specs.Prelude.{◌&&◌, Err}
use mathlib.Core.Path.{refl, ◌∙◌}
use borrow.Author.Tests.{not-true, not-false}
use Rattle.codes.specs.SaysLaws.{passed, failed}
use Rattle.sound_core.specs.Types.{InvalidParam, Busy, BadLength}
use Rattle.codes.specs.SaysLaws.{passes, stops}
use Rattle.sound_core.proofs.gate.xfer_gate.Goals as goal

pub returns-then-not-lengths : goal.returns-then-not-lengths
returns-then-not-lengths c = stops _ (Err BadLength) _ (not-true _ c.if-not-lengths.true-raw) refl

pub returns-then-not-sound : goal.returns-then-not-sound
returns-then-not-sound c =
    passes _ (Err BadLength) _ (not-false _ c.if-not-lengths.false-raw)
    (stops _ (Err InvalidParam) _ (failed (c.both-sound.ensures ∙ (λ i. c.consistent.ensures i && (c.both.ensures ∙ (λ j. c.is_consistent.ensures j && c.stream_ok-own.ensures j)) i)) c.if-not-sound.true-raw) refl)

pub returns-then-not-free : goal.returns-then-not-free
returns-then-not-free c =
    passes _ (Err BadLength) _ (not-false _ c.if-not-lengths.false-raw)
    (passes _ (Err InvalidParam) _ (passed (c.both-sound.ensures ∙ (λ i. c.consistent.ensures i && (c.both.ensures ∙ (λ j. c.is_consistent.ensures j && c.stream_ok-own.ensures j)) i)) c.if-not-sound.false-raw)
    (stops _ (Err Busy) _ (failed (c.both-free.ensures ∙ (λ i. c.is_idle_stage.ensures i && (c.both-rest.ensures ∙ (λ j. c.is_idle.ensures j && c.args.clear)) i)) c.if-not-free.true-raw) refl))

pub returns : goal.returns
returns c =
    passes _ (Err BadLength) _ (not-false _ c.if-not-lengths.false-raw)
    (passes _ (Err InvalidParam) _ (passed (c.both-sound.ensures ∙ (λ i. c.consistent.ensures i && (c.both.ensures ∙ (λ j. c.is_consistent.ensures j && c.stream_ok-own.ensures j)) i)) c.if-not-sound.false-raw)
    (passes _ (Err Busy) _ (passed (c.both-free.ensures ∙ (λ i. c.is_idle_stage.ensures i && (c.both-rest.ensures ∙ (λ j. c.is_idle.ensures j && c.args.clear)) i)) c.if-not-free.false-raw) c.checked_by.ensures))
