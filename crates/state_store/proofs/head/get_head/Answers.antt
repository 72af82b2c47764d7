-- `state_store::head::get_head` meets its contract: the list of its reads, in the layout's order. Assumes nothing.
use Rattle.std.proofs.Common.{ap}
use Rattle.layout.specs.ChainLaws.{got}
use Rattle.layout.specs.ChainLaws.Got.{get, end}
use Rattle.state_store.specs.Store.{head_row, head_from, head_at}
use Rattle.state_store.proofs.head.get_head.Goals as goal

pub returns : goal.returns
unfolding head_at
returns c =
    ap head_from (got c.args.s.now 0 head_row _
    (get c.get_u32.ensures (get c.get_u32-2.ensures (get c.get_u32-3.ensures (get c.get_u32-4.ensures (get c.get_u32-5.ensures (get c.get_u32-6.ensures (get c.get_u8.ensures (get c.get_u8-2.ensures (get c.get_u8-3.ensures (get c.get_u8-4.ensures (get c.get_u32-7.ensures (get c.get_u32-8.ensures (get c.get_u32-9.ensures (get c.get_u32-10.ensures (get c.get_u8-5.ensures (get c.get_u8-6.ensures (get c.get_u8-7.ensures (get c.get_u8-8.ensures (get c.get_u64.ensures (get c.get_u64-2.ensures end)))))))))))))))))))))
