-- `records::transfer::Transfer::read` meets its contract: the list of its reads, in the layout's order. Assumes nothing.
use mathlib.Core.Path.{sym}
use borrow.Author.Rules.{rules}
use Rattle.layout.specs.ChainLaws.Got.{get, end}
use Rattle.records.specs.Records.{transfer}
use Rattle.records.specs.SliceLaws.{read_short, reads}
use Rattle.records.proofs.transfer.Transfer.read.Goals as goal

pub returns-then-s-lt-SIZE : goal.returns-then-s-lt-SIZE
returns-then-s-lt-SIZE c = sym (read_short transfer c.args.s.now (search rules))

pub returns : goal.returns
returns c =
    reads transfer _ c.args.s.now c.if-s-lt-SIZE.false
    (get c.get_u32.ensures end)

pub get_u32-requires : goal.get_u32-requires
get_u32-requires c = tt
