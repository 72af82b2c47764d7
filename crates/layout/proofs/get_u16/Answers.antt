-- `layout::get_u16` meets its contract. Assumes nothing.
use Rattle.std.proofs.Common.{◌∙◌, ap, arith}
use Rattle.layout.specs.Bytes.{un, num_at}
use Rattle.layout.specs.BytesLaws.{from_le_bytes-un_2}
use Rattle.layout.proofs.get_u16.Goals as goal

pub returns : goal.returns
unfolding num_at
returns c = c.from_le_bytes.ensures ∙ from_le_bytes-un_2 c.get_bytes.result (omega arith) ∙ ap un c.get_bytes.ensures
