-- `model::control::tell` meets its contract. Assumes nothing.
use Rattle.std.proofs.Common.{arith}
use Rattle.layout.specs.Bytes.{le}
use Rattle.model.specs.PageLaws.{status-laid}
use Rattle.model.specs.ControlLaws.{laid-gives}
use Rattle.model.proofs.control.tell.Goals as goal

pub returns : goal.returns
returns c =
    laid-gives c.args.d (le 4 c.args.status) c.args.page.now _ 4 (status-laid c.args.status c.args.page.now _ (omega arith) c.put_u32.ensures)
