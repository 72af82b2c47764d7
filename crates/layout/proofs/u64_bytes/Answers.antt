-- `layout::u64_bytes` meets its contract. Assumes nothing.
use Rattle.std.proofs.Common.{◌∙◌}
use Rattle.layout.specs.BytesLaws.{to_le_bytes-le_8}
use Rattle.layout.proofs.u64_bytes.Goals as goal

pub returns : goal.returns
returns c = c.to_le_bytes.ensures ∙ to_le_bytes-le_8 c.args.v
