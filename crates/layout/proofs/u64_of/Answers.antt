-- `layout::u64_of` meets its contract. Assumes nothing.
use Rattle.std.proofs.Common.{◌∙◌, arith}
use Rattle.layout.specs.BytesLaws.{from_le_bytes-un_8}
use Rattle.layout.proofs.u64_of.Goals as goal

pub returns : goal.returns
returns c = c.from_le_bytes.ensures ∙ from_le_bytes-un_8 c.args.bytes (omega arith)
