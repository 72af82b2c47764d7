-- `pending::table::lowest` meets its contract: the first free token among so many. Assumes nothing.
use Rattle.std.proofs.Common.{rules, tests, ◌∙◌}
use Rattle.std.proofs.lemmas.Iterator.{YieldsList-from_slice, YieldsList-from_take}
use Rattle.std.proofs.lemmas.Iterator.Consumers.{YieldsList-at}
use Rattle.std.proofs.lemmas.Iterator.Search.{position_from_yields_List}
use Rattle.pending.specs.LowestLaws.{is_free, searched}
use Rattle.pending.proofs.table.lowest.Goals as goal

pub returns : goal.returns
returns c =
    let a = c.args in
    let found =
    position_from_yields_List is_free _ _ c.position-free.result c.position-free.ensures.ran
    (YieldsList-from_take _ (YieldsList-at c.take.ensures.source (YieldsList-from_slice a.p.tokens c.iter.ensures.rest)) c.take.ensures.count)
    (λ x b q k. search (rules, tests)) in
    c.unwrap_or.ensures ∙ searched a.p a.places _ _ c.bound-n.ensures (search rules) found
