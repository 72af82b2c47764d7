-- `records::info::byte_of` meets its contract: the table holds the powers of 256. Assumes nothing.
use lib.Dec.{lit<}
use native.Mathlib.Nat.{one-le-pow}
use borrow.Author.Rules.{rules}
use Rattle.records.specs.PositionLaws.{place-power, byte_at, byte-none}
use Rattle.records.proofs.info.byte_of.Goals as goal

pub returns-then-i-ge8 : goal.returns-then-i-ge8
returns-then-i-ge8 c = let a = c.args in byte-none a.v a.i (search rules)

pub nonzero_div-result : goal.nonzero_div-result
nonzero_div-result c = let i = c.args.i in rw (place-power i (search rules)) (one-le-pow i 256 (lit< tt))

pub returns : goal.returns
returns c = let a = c.args in byte_at a.v a.i (search rules)
