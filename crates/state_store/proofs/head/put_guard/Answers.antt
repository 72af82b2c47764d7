-- `state_store::head::put_guard` meets its contract: the list of its stores. Assumes nothing.
use Rattle.std.proofs.Common.{[], ◌∷◌, length, ap, arith}
use lib.Seq.{length-sets}
use Rattle.layout.specs.ChainLaws.{stored}
use Rattle.layout.specs.ChainLaws.Stored.{put, end}
use Rattle.state_store.specs.Store.{guard_row, flag}
use Rattle.state_store.proofs.head.put_guard.Goals as goal

pub returns : goal.returns
returns c =
    let a = c.args in
    stored _ a.s.now 48 guard_row (flag a.guard ∷ 0 ∷ []) (put (rw c.number.ensures at c.put_u64.ensures) (put c.put_u64-2.ensures end))

pub shape_of-s : goal.shape_of-s
shape_of-s c = omega (arith, simp length-sets at (ap length (returns c)))
