-- `model_store::answer::rows` meets its contract: the range is within the table, so its bytes are within the store. Assumes nothing.
use Rattle.std.proofs.Common.{sym, ap, ◌∙◌, arith}
use Rattle.model.specs.Control.{says_range}
use Rattle.model_store.specs.AnswerLaws.{range-room, range-laid}
use Rattle.model_store.proofs.answer.rows.Goals as goal

pub copy-requires : goal.copy-requires
copy-requires c =
    let a = c.args in
    let h = range-room a.request.now a.size a.n c.in-Some.field-0.start c.in-Some.field-0.count (sym (ap says_range c.in-Some.is) ∙ c.asked.ensures) in
    (omega (arith, c.requires.1), omega (arith, c.requires.2))

pub returns : goal.returns
returns c =
    let a = c.args in
    let e = sym (ap says_range c.in-Some.is) ∙ c.asked.ensures in
    let h = range-room a.request.now a.size a.n c.in-Some.field-0.start c.in-Some.field-0.count e in
    range-laid a.request.now a.size a.n a.place a.device.now a.page.now _ c.in-Some.field-0.start c.in-Some.field-0.count e (omega (arith, c.requires.1)) _ c.put_u32.ensures c.copy.ensures
