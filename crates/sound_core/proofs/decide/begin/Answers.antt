-- `sound_core::decide::begin` meets its contract: a chain of refusals, then set-up or the call. Assumes nothing.
use Rattle.std.specs.Prelude.{◌&&◌}
use mathlib.Core.Path.{◌∙◌}
use Rattle.sound_core.specs.Plan.{begin_of}
use Rattle.codes.specs.SaysLaws.{passed, failed}
use Rattle.codes.specs.SaysLaws.{passes, stops}
use Rattle.sound_core.proofs.decide.begin.Goals as goal

pub returns-then-not-sound : goal.returns-then-not-sound
unfolding begin_of
returns-then-not-sound c = stops _ _ _ (failed (c.both-sound.ensures ∙ (λ i. c.consistent.ensures i && c.is_consistent.ensures i)) c.if-not-sound.true-raw) c.refuse.ensures

pub returns-then-not-free : goal.returns-then-not-free
unfolding begin_of
returns-then-not-free c =
    passes _ _ _ (passed (c.both-sound.ensures ∙ (λ i. c.consistent.ensures i && c.is_consistent.ensures i)) c.if-not-sound.false-raw)
    (stops _ _ _ (failed (c.both-free.ensures ∙ (λ i. c.is_idle_stage.ensures i && c.is_idle.ensures i)) c.if-not-free.true-raw) c.refuse-then-not-free.ensures)

pub returns-then-not-call_ok : goal.returns-then-not-call_ok
unfolding begin_of
returns-then-not-call_ok c =
    passes _ _ _ (passed (c.both-sound.ensures ∙ (λ i. c.consistent.ensures i && c.is_consistent.ensures i)) c.if-not-sound.false-raw)
    (passes _ _ _ (passed (c.both-free.ensures ∙ (λ i. c.is_idle_stage.ensures i && c.is_idle.ensures i)) c.if-not-free.false-raw)
    (stops _ _ _ (failed c.call_ok.ensures c.if-not-call_ok.true-raw) c.refuse-then-not-call_ok.ensures))

pub returns : goal.returns
unfolding begin_of
returns c =
    passes _ _ _ (passed (c.both-sound.ensures ∙ (λ i. c.consistent.ensures i && c.is_consistent.ensures i)) c.if-not-sound.false-raw)
    (passes _ _ _ (passed (c.both-free.ensures ∙ (λ i. c.is_idle_stage.ensures i && c.is_idle.ensures i)) c.if-not-free.false-raw)
    (passes _ _ _ (passed c.call_ok.ensures c.if-not-call_ok.false-raw) c.set_up.ensures))
