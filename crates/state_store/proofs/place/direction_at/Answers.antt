-- `state_store::place::direction_at` meets its contract: the store's tables are lent. Assumes nothing.
use Rattle.std.proofs.Common.{ℕ, List, [], get_or, ap, ◌∙◌}
use Rattle.records.specs.Records.{pcm_info_of}
use Rattle.tables.specs.Tables.{pcms_in}
use Rattle.state_store.specs.PlaceLaws.{tables-part}
use Rattle.state_store.proofs.place.direction_at.Goals as goal

pub returns : goal.returns
returns c =
    c.direction_at.ensures ∙ ap (λ (l : List ℕ). (get_or (pcms_in l) c.args.stream (pcm_info_of [])).direction) (tables-part c.args.s.now c.requires)
