-- `state_store::result::put_ids` meets its contract, by the law of a list that grows. Assumes nothing.
use Rattle.state_store.specs.Steps.{ids_in, Listed}
use Rattle.state_store.proofs.result.put_ids.Given as goal

abbrev pub invariant-loop-i : goal.invariant-loop-i
invariant-loop-i l = Listed l.initial.res (ids_in l.tables l.direction l.i) l.count l.res
