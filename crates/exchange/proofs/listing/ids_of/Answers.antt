-- `exchange::listing::ids_of` meets its contract, by the law of a list that grows. Assumes nothing.
use Rattle.std.proofs.Common.{◌≡◌, [], length, take, arith, length-take-le}
use Rattle.layout.specs.RowsLaws.{length-rows}
use Rattle.records.specs.Records.{pcm_info_of}
use Rattle.tables.specs.Tables.{pcm_at, pcms_place, pcms_in}
use Rattle.exchange.specs.ListLaws.{length_ids, listed_more}
use Rattle.exchange.proofs.listing.ids_of.Goals as goal

pub with_id-list-requires : goal.with_id-list-requires
with_id-list-requires c =
    let a = c.args in
    let t = pcms_in a.tables.now in
    let n : length t ≡ 127 = length-rows pcm_at 32 pcms_place 127 a.tables.now in
    rw c.loop-i.invariant (omega (arith, length_ids a.direction 0 (take c.loop-i.i t), length-take-le c.loop-i.i t (omega arith)))

pub loop-i-preserved : goal.loop-i-preserved
loop-i-preserved c =
    let a = c.args in
    let t = pcms_in a.tables.now in
    let n : length t ≡ 127 = length-rows pcm_at 32 pcms_place 127 a.tables.now in
    simp (c.with_id-list.ensures, c.direction_at-found.ensures, c.loop-i.invariant) (listed_more a.direction c.loop-i.i t (pcm_info_of []) (omega arith) (omega arith))
