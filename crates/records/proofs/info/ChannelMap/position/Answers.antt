-- `records::info::ChannelMap::position` meets its contract: the byte is in the first, the second or the third number. Assumes nothing.
use mathlib.Core.Path.{sym}
use borrow.Author.Rules.{rules}
use borrow.Author.Tests.{le-ltb}
use Rattle.codes.specs.SaysLaws.{skips}
use Rattle.records.specs.PositionLaws.{in-first, in-second, in-third}
use Rattle.records.proofs.info.ChannelMap.position.Goals as goal

pub returns-then-i-lt8 : goal.returns-then-i-lt8
returns-then-i-lt8 c = let a = c.args in in-first a.self a.i _ (search rules) c.byte_of.ensures

pub returns-then-i-lt16 : goal.returns-then-i-lt16
returns-then-i-lt16 c = let a = c.args in in-second a.self a.i _ (search rules) (search rules) c.byte_of-then-i-lt16.ensures

pub returns-then-i-lt-POSITIONS : goal.returns-then-i-lt-POSITIONS
returns-then-i-lt-POSITIONS c =
    let a = c.args in
    in-third a.self a.i _ (search rules) (search rules) c.byte_of-then-i-lt-POSITIONS.ensures

pub returns : goal.returns
returns c = sym (skips _ _ _ (le-ltb c.args.i 18 (search rules)))
