-- `model_store::transfer` meets its contract. Assumes nothing.
use Rattle.std.proofs.Common.{sym, ap, ◌∙◌}
use Rattle.model.specs.Device.{within_of}
use Rattle.model_store.specs.TransferLaws.{transfer-short, transfer-answer, transfer-many, transfer-told}
use Rattle.model_store.proofs.transfer.Goals as goal

pub returns-then-device-lt-SIZE : goal.returns-then-device-lt-SIZE
returns-then-device-lt-SIZE c =
    let a = c.args in
    transfer-short a.device.now a.request.now a.answer.now c.if-device-lt-SIZE.true

pub returns-then-answer-lt-SIZE : goal.returns-then-answer-lt-SIZE
returns-then-answer-lt-SIZE c =
    let a = c.args in
    transfer-answer a.device.now a.request.now a.answer.now c.if-device-lt-SIZE.false (λ k. (c.slice_known-1.given k).fits) c.if-answer-lt-SIZE.true

pub returns-then-within : goal.returns-then-within
returns-then-within c =
    let a = c.args in
    let w = sym (c.within.ensures ∙ ap within_of c.counts_at-counts.ensures) ∙ c.if-within.true in
    transfer-told a.device.now a.request.now a.answer.now c.if-device-lt-SIZE.false c.if-answer-lt-SIZE.false w _ _ _ c.play-status.ensures c.write.ensures.1

pub returns : goal.returns
returns c =
    let a = c.args in
    let w = sym (c.within.ensures ∙ ap within_of c.counts_at-counts.ensures) ∙ c.if-within.false in
    transfer-many a.device.now a.request.now a.answer.now c.if-device-lt-SIZE.false c.if-answer-lt-SIZE.false (λ k. (c.slice_known-1.given k).fits) w
