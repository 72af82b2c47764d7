-- `model_store::answer::outcome` meets its contract. Assumes nothing.
use Rattle.std.proofs.Common.{sym, ap, ◌∙◌}
use Rattle.codes.specs.Requests.{says_request}
use Rattle.std.specs.Prelude.{Ok, Err}
use Rattle.model.specs.ControlLaws.{outcome-short, outcome-by}
use Rattle.model_store.specs.Store.{device_of}
use Rattle.model_store.specs.AnswerLaws.{gave, unchanged}
use Rattle.model_store.proofs.answer.outcome.Goals as goal

pub returns-then-request-lt-HEADER : goal.returns-then-request-lt-HEADER
returns-then-request-lt-HEADER c =
    let a = c.args in
    unchanged a.device.now (λ k. (c.slice_known-1.given k).fits) _ _ (outcome-short a.request.now (device_of a.device.now) c.if-request-lt-HEADER.true) c.tell.ensures

pub returns-in_default : goal.returns-in_default
returns-in_default c =
    let a = c.args in
    unchanged a.device.now (λ k. (c.slice_known-1.given k).fits) _ _
    (outcome-by a.request.now (device_of a.device.now) (Err c.in_default.field-0) _ c.if-request-lt-HEADER.false (sym (ap says_request c.in_default.is) ∙ c.try_from.ensures) c.get_u32.ensures)
    c.tell-in_default.ensures

pub returns : goal.returns
returns c =
    let a = c.args in
    gave
    (outcome-by a.request.now (device_of a.device.now) (Ok c.in-Ok.code) _ c.if-request-lt-HEADER.false (sym (ap says_request c.in-Ok.is) ∙ c.try_from.ensures) c.get_u32.ensures)
    c.answer.ensures
