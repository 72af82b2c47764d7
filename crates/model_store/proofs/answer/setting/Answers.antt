-- `model_store::answer::setting` meets its contract. Assumes nothing.
use Rattle.layout.specs.Bytes.{Bytes}
use Rattle.model_store.specs.AnswerLaws.{unchanged, setting-length, setting-stream, setting-keeps}
use Rattle.model_store.proofs.answer.setting.Goals as goal

pub returns-then-request-ne-SIZE : goal.returns-then-request-ne-SIZE
returns-then-request-ne-SIZE c =
    let a = c.args in
    unchanged a.device.now (λ k. (c.slice_known-1.given k).fits) _ _ (setting-length a.device.now a.request.now a.streams c.requires.2 c.if-request-ne-SIZE.true) c.tell.ensures

pub returns-then-streams-stream : goal.returns-then-streams-stream
returns-then-streams-stream c =
    let a = c.args in
    unchanged a.device.now (λ k. (c.slice_known-1.given k).fits) _ _
    (setting-stream a.device.now a.request.now a.streams c.requires.2 _ c.get_u32-stream.ensures c.if-request-ne-SIZE.false c.if-streams-stream.true)
    c.tell-then-streams-stream.ensures

pub returns : goal.returns
returns c =
    let a = c.args in
    let b : Bytes a.device.now = λ k. (c.slice_known-1.given k).fits in
    let r : Bytes a.request.now = λ k. (c.shared_slice_known-1.given k).fits in
    setting-keeps a.device.now a.request.now a.streams c.requires.2 _ _ _ a.page.now _ _ b r c.get_u32-stream.ensures c.if-request-ne-SIZE.false c.if-streams-stream.false c.requires.3
    c.copy.ensures
    c.put_u8.ensures
    c.tell-2.ensures
