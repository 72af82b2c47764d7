-- `layout::u32_bytes` meets its contract. Assumes nothing.
use Rattle.std.proofs.Common.{◌∙◌}
use Rattle.layout.specs.BytesLaws.{to_le_bytes-le_4}
use Rattle.layout.proofs.u32_bytes.Goals as goal

pub returns : goal.returns
returns c = c.to_le_bytes.ensures ∙ to_le_bytes-le_4 c.args.v
