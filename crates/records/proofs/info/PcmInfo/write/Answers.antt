-- `records::info::PcmInfo::write` meets its contract: the list of its stores, in the layout's order. Assumes nothing.
use borrow.Author.Rules.{rules}
use Rattle.layout.specs.ChainLaws.Stored.{put, end}
use Rattle.records.specs.Records.{pcm_info, pcm_info_values}
use Rattle.records.specs.SliceLaws.{stores, stores-none}
use Rattle.records.proofs.info.PcmInfo.write.Goals as goal

pub returns-then-out-lt-SIZE : goal.returns-then-out-lt-SIZE
returns-then-out-lt-SIZE c = let a = c.args in stores-none pcm_info (pcm_info_values a.self) a.out.now (search rules)

pub returns : goal.returns
returns c =
    let a = c.args in
    stores pcm_info (pcm_info_values a.self) _ a.out.now c.if-out-lt-SIZE.false
    (put c.put_u32.ensures (put c.put_u32-2.ensures (put c.put_u64.ensures (put c.put_u64-2.ensures
    (put c.put_u8.ensures (put c.put_u8-2.ensures (put c.put_u8-3.ensures (put c.put_u32-3.ensures
    (put c.put_u8-4.ensures end)))))))))

pub put_u32-requires : goal.put_u32-requires
put_u32-requires c = tt

pub put_u32-requires-2 : goal.put_u32-requires-2
put_u32-requires-2 c = tt

pub put_u64-requires : goal.put_u64-requires
put_u64-requires c = tt

pub put_u64-requires-2 : goal.put_u64-requires-2
put_u64-requires-2 c = tt

pub put_u8-requires : goal.put_u8-requires
put_u8-requires c = tt

pub put_u8-requires-2 : goal.put_u8-requires-2
put_u8-requires-2 c = tt

pub put_u8-requires-3 : goal.put_u8-requires-3
put_u8-requires-3 c = tt

pub put_u32-requires-3 : goal.put_u32-requires-3
put_u32-requires-3 c = tt

pub put_u8-requires-4 : goal.put_u8-requires-4
put_u8-requires-4 c = tt
