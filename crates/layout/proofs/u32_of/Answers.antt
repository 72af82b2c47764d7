-- `layout::u32_of` meets its contract. Assumes nothing.
use Rattle.std.proofs.Common.{◌∙◌, arith}
use Rattle.layout.specs.BytesLaws.{from_le_bytes-un_4}
use Rattle.layout.proofs.u32_of.Goals as goal

pub returns : goal.returns
returns c = c.from_le_bytes.ensures ∙ from_le_bytes-un_4 c.args.bytes (omega arith)
