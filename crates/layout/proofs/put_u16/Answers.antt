-- `layout::put_u16` meets its contract. Assumes nothing.
use Rattle.std.proofs.Common.{◌∙◌, ap}
use Rattle.std.proofs.lemmas.List.Edits.{sets}
use Rattle.layout.specs.BytesLaws.{to_le_bytes-le_2}
use Rattle.layout.proofs.put_u16.Goals as goal

pub returns : goal.returns
returns c =
    let a = c.args in
    c.put_number.ensures ∙ ap (sets a.out.now a.at) (c.to_le_bytes.ensures ∙ to_le_bytes-le_2 a.v)
