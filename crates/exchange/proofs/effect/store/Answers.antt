-- `exchange::effect::store` meets its contract: past the last stream nothing is stored. Assumes nothing.
use Rattle.std.proofs.Common.{◌≡◌, length, sym, arith, rules}
use lib.Seq.{set_out}
use Rattle.exchange.proofs.effect.store.Goals as goal

pub returns-then-i-ge127 : goal.returns-then-i-ge127
returns-then-i-ge127 c =
    let a = c.args in
    let n : length a.old ≡ 127 = search rules in
    sym (set_out a.old a.stream a.to (omega arith))
