-- `state_store::result::put_ids` meets its contract, by the law of a list that grows. Assumes nothing.
use Rattle.std.proofs.Common.{ℕ, eqb, length, ap, ◌∙◌, arith}
use lib.Seq.{length-sets}
use Rattle.state_store.specs.ListedLaws.{none-listed, ids_short, turn-listed}
use Rattle.state_store.proofs.result.put_ids.Goals as goal

pub loop-i-init : goal.loop-i-init
loop-i-init c = let a = c.args in none-listed a.tables.now _ a.direction

pub put_id-count-requires : goal.put_id-count-requires
put_id-count-requires c =
    let a = c.args in
    omega (arith, c.loop-i.invariant.counted, ids_short a.tables.now a.direction c.loop-i.i (omega arith))

pub loop-i-preserved : goal.loop-i-preserved
loop-i-preserved c =
    let a = c.args in
    turn-listed a.tables.now _ a.direction c.loop-i.i _ _ _ _ _ (omega arith) (ap (λ (k : ℕ). eqb k a.direction) c.direction_at-found.ensures) c.loop-i.invariant c.put_id-count.ensures.count c.put_id-count.ensures.bytes

pub shape_of-res : goal.shape_of-res
shape_of-res c = ap length c.loop-i.invariant.stored ∙ simp length-sets
