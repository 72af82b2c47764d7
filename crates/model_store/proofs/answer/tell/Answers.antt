-- `model_store::answer::tell` meets its contract. Assumes nothing.
use Rattle.model.specs.PageLaws.{status-laid}
use Rattle.std.proofs.Common.{rules}
use Rattle.model_store.proofs.answer.tell.Goals as goal

pub returns : goal.returns
returns c =
    let a = c.args in
    status-laid a.status a.page.now _ (search rules) c.put_u32.ensures
