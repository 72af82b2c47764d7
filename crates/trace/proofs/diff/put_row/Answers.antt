-- Number by number behind one another. Assumes nothing.
use Rattle.layout.specs.ChainLaws.{stored}
use Rattle.layout.specs.ChainLaws.Stored.{put, end}
use Rattle.trace.specs.Listed.{row_widths}
use Rattle.trace.proofs.diff.put_row.Goals as goal

pub returns : goal.returns
returns c =
    let a = c.args in
    stored _ a.list.now a.at row_widths _
    (put c.put_u64.ensures (put c.put_u8.ensures (put c.put_u8-2.ensures (put c.put_u32.ensures (put c.put_u32-2.ensures
    (put c.put_u32-3.ensures (put c.put_u32-4.ensures (put c.put_u32-5.ensures (put c.put_u32-6.ensures end)))))))))
