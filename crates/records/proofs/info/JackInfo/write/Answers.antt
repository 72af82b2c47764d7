-- `records::info::JackInfo::write` meets its contract: the list of its stores, in the layout's order. Assumes nothing.
use borrow.Author.Rules.{rules}
use Rattle.layout.specs.ChainLaws.Stored.{put, end}
use Rattle.records.specs.Records.{jack_info, jack_info_values}
use Rattle.records.specs.SliceLaws.{stores, stores-none}
use Rattle.records.proofs.info.JackInfo.write.Goals as goal

pub returns-then-out-lt-SIZE : goal.returns-then-out-lt-SIZE
returns-then-out-lt-SIZE c = let a = c.args in stores-none jack_info (jack_info_values a.self) a.out.now (search rules)

pub returns : goal.returns
returns c =
    let a = c.args in
    stores jack_info (jack_info_values a.self) _ a.out.now c.if-out-lt-SIZE.false
    (put c.put_u32.ensures (put c.put_u32-2.ensures (put c.put_u32-3.ensures (put c.put_u32-4.ensures
    (put c.put_u8.ensures (put c.put_u32-5.ensures (put c.put_u16.ensures (put c.put_u8-2.ensures end))))))))

pub put_u32-requires : goal.put_u32-requires
put_u32-requires c = tt

pub put_u32-requires-2 : goal.put_u32-requires-2
put_u32-requires-2 c = tt

pub put_u32-requires-3 : goal.put_u32-requires-3
put_u32-requires-3 c = tt

pub put_u32-requires-4 : goal.put_u32-requires-4
put_u32-requires-4 c = tt

pub put_u8-requires : goal.put_u8-requires
put_u8-requires c = tt

pub put_u32-requires-5 : goal.put_u32-requires-5
put_u32-requires-5 c = tt

pub put_u16-requires : goal.put_u16-requires
put_u16-requires c = tt

pub put_u8-requires-2 : goal.put_u8-requires-2
put_u8-requires-2 c = tt
