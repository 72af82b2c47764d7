-- `pending::calls::stored` meets its contract: past the table nothing is stored. Assumes nothing.
use mathlib.Core.Path.{◌≡◌, sym}
use native.Mathlib.Omega.{arith}
use lib.ListN.{length}
use lib.Seq.{set_out}
use borrow.Author.Rules.{rules}
use Rattle.pending.proofs.calls.stored.Goals as goal

pub returns-then-k-ge32 : goal.returns-then-k-ge32
returns-then-k-ge32 c =
    let a = c.args in
    let n : length a.old ≡ 32 = search rules in
    sym (set_out a.old a.k a.t (omega arith))
