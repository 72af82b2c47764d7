-- `state_store::head::put_counts` meets its contract: the list of its stores, in the layout's order. Assumes nothing.
use Rattle.layout.specs.ChainLaws.{stored}
use Rattle.layout.specs.ChainLaws.Stored.{put, end}
use Rattle.state_store.specs.Steps.{counts_row, counts_values}
use Rattle.state_store.proofs.head.put_counts.Goals as goal

pub returns : goal.returns
returns c =
    let a = c.args in
    stored _ a.s.now 0 counts_row (counts_values a.counts a.read)
    (put c.put_u32.ensures (put c.put_u32-2.ensures (put c.put_u32-3.ensures (put c.put_u32-4.ensures (put c.put_u32-5.ensures (put c.put_u32-6.ensures end))))))
