-- `records::control::Remap::read` meets its contract: the list of its reads, in the layout's order. Assumes nothing.
use mathlib.Core.Path.{sym}
use borrow.Author.Rules.{rules}
use Rattle.layout.specs.ChainLaws.Got.{get, end}
use Rattle.records.specs.Records.{remap}
use Rattle.records.specs.SliceLaws.{read_short, reads}
use Rattle.records.proofs.control.Remap.read.Goals as goal

pub returns-then-s-lt-SIZE : goal.returns-then-s-lt-SIZE
returns-then-s-lt-SIZE c = sym (read_short remap c.args.s.now (search rules))

pub returns : goal.returns
returns c =
    reads remap _ c.args.s.now c.if-s-lt-SIZE.false
    (get c.get_u32.ensures (get c.get_u32-2.ensures (get c.get_u32-3.ensures (get c.get_u32-4.ensures end))))

pub get_u32-requires : goal.get_u32-requires
get_u32-requires c = tt

pub get_u32-requires-2 : goal.get_u32-requires-2
get_u32-requires-2 c = tt

pub get_u32-requires-3 : goal.get_u32-requires-3
get_u32-requires-3 c = tt

pub get_u32-requires-4 : goal.get_u32-requires-4
get_u32-requires-4 c = tt
