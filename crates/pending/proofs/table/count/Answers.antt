-- `pending::table::count` meets its contract: the sum of the weights, of which there are 32. Assumes nothing.
use Rattle.std.proofs.Common.{rules, tests, ◌≡◌, length, ◌∙◌, sym, arith, ◌≤◌}
use Rattle.std.proofs.lemmas.Iterator.{YieldsList-from_slice, YieldsList-from_map}
use Rattle.std.proofs.lemmas.Iterator.Consumers.{YieldsList-at, sum_by_from_yields_List, fits_by_from_yields_list}
use Rattle.pending.specs.Table.{weight_of, count_of}
use Rattle.pending.specs.LowestLaws.{counts, count_most}
use Rattle.pending.proofs.table.count.Goals as goal

pub sum-requires-clause-fits : goal.sum-requires-clause-fits
sum-requires-clause-fits c =
    let a = c.args in
    let n : length a.p.tokens ≡ 32 = search rules in
    let m : count_of a.p.tokens ≤ length a.p.tokens = count_most a.p.tokens in
    fits_by_from_yields_list weight_of a.p.tokens c.map.result _
    (YieldsList-from_map _ weight_of (YieldsList-at c.map.ensures.source (YieldsList-from_slice a.p.tokens c.iter.ensures.rest)) c.map.ensures.closure (λ x r q k. search (rules, tests)))
    (omega (arith, counts a.p.tokens))

pub returns : goal.returns
returns c =
    let a = c.args in
    sum_by_from_yields_List weight_of a.p.tokens c.map.result _ c.sum.ensures.ran
    (YieldsList-from_map _ weight_of (YieldsList-at c.map.ensures.source (YieldsList-from_slice a.p.tokens c.iter.ensures.rest)) c.map.ensures.closure (λ x r q k. search (rules, tests)))
    ∙ sym (counts a.p.tokens)
