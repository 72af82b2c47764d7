-- `exchange::effect::stream_field` meets its contract: the record stands at its place. Assumes nothing.
use Rattle.std.proofs.Common.{[], sym, refl, ap, ◌∙◌, arith}
use lib.ListN.{get_or-eq_default}
use Rattle.layout.specs.RowsLaws.{length-rows}
use Rattle.records.specs.Records.{pcm_info_of}
use Rattle.tables.specs.Tables.{pcm_at, pcms_place, pcms_in}
use Rattle.exchange.specs.Tables.{field_of}
use Rattle.exchange.proofs.effect.stream_field.Goals as goal

pub returns-then-i-ge127 : goal.returns-then-i-ge127
returns-then-i-ge127 c =
    let a = c.args in
    let t = a.tables.now in
    c.nothing.ensures ∙ ap (field_of a.field) (sym (get_or-eq_default (pcms_in t) (pcm_info_of []) (omega (arith, c.if-i-ge127.true, length-rows pcm_at 32 pcms_place 127 t))))

pub field_at-requires : goal.field_at-requires
field_at-requires c = (c.if-i-ge127.false, refl)

pub returns : goal.returns
returns c = c.field_at.ensures
