-- `records::info::ChannelMap::read` meets its contract: the list of its reads, in the layout's order. Assumes nothing.
use mathlib.Core.Path.{sym}
use borrow.Author.Rules.{rules}
use Rattle.layout.specs.ChainLaws.Got.{get, end}
use Rattle.records.specs.Records.{channel_map}
use Rattle.records.specs.SliceLaws.{read_short, reads}
use Rattle.records.proofs.info.ChannelMap.read.Goals as goal

pub returns-then-s-lt-SIZE : goal.returns-then-s-lt-SIZE
returns-then-s-lt-SIZE c = sym (read_short channel_map c.args.s.now (search rules))

pub returns : goal.returns
returns c =
    reads channel_map _ c.args.s.now c.if-s-lt-SIZE.false
    (get c.get_u32.ensures (get c.get_u8.ensures (get c.get_u8-2.ensures (get c.get_u64.ensures
    (get c.get_u64-2.ensures (get c.get_u16.ensures end))))))

pub get_u32-requires : goal.get_u32-requires
get_u32-requires c = tt

pub get_u8-requires : goal.get_u8-requires
get_u8-requires c = tt

pub get_u8-requires-2 : goal.get_u8-requires-2
get_u8-requires-2 c = tt

pub get_u64-requires : goal.get_u64-requires
get_u64-requires c = tt

pub get_u64-requires-2 : goal.get_u64-requires-2
get_u64-requires-2 c = tt

pub get_u16-requires : goal.get_u16-requires
get_u16-requires c = tt
