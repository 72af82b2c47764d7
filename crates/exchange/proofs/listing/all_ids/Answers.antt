-- `exchange::listing::all_ids` meets its contract: a table of 127 has no more. Assumes nothing.
use Rattle.std.proofs.Common.{List, ap, ◌∙◌}
use Rattle.layout.specs.RowsLaws.{length-rows}
use Rattle.tables.specs.Tables.{pcm_at, pcms_place, pcms_in}
use Rattle.exchange.specs.Types.{PcmInfo}
use Rattle.exchange.specs.Exchange.{ids_from, listed}
use Rattle.exchange.specs.ListLaws.{take-cap}
use Rattle.exchange.proofs.listing.all_ids.Goals as goal

pub returns-then-n-gt127 : goal.returns-then-n-gt127
returns-then-n-gt127 c =
    let a = c.args in
    c.ids_of.ensures
    ∙ ap (λ (t : List PcmInfo). listed (ids_from a.direction 0 t)) (take-cap a.n (pcms_in a.tables.now) (length-rows pcm_at 32 pcms_place 127 a.tables.now) c.if-n-gt127.true)
