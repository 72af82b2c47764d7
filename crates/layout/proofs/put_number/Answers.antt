-- `layout::put_number` meets its contract: past the end, within the slice, or across its end. Assumes nothing.
use Rattle.std.proofs.Common.{rules, sym}
use Rattle.layout.specs.StoreLaws.{sets-out}
use Rattle.layout.proofs.put_number.Goals as goal

pub returns-then-n-at : goal.returns-then-n-at
returns-then-n-at c = let a = c.args in sym (sets-out a.bytes.now a.out.now a.at (search rules))
