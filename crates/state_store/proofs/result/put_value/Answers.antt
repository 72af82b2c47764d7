-- `state_store::result::put_value` meets its contract, case by case. Assumes nothing.
use Rattle.std.proofs.Common.{[], ◌∷◌}
use Rattle.layout.specs.ChainLaws.{Stored, stored}
use Rattle.state_store.proofs.result.put_value.Goals as goal

pub returns-in-Number : goal.returns-in-Number
returns-in-Number c = rw c.in-Number.is c.put_u64.ensures

pub returns-in-Range : goal.returns-in-Range
returns-in-Range c =
    rw c.in-Range.is (stored _ _ 0 (1 ∷ 1 ∷ []) _ (Stored.put c.put_u8.ensures (Stored.put c.put_u8-in-Range.ensures Stored.end)))

pub returns-in-Streams : goal.returns-in-Streams
returns-in-Streams c = rw c.in-Streams.is c.put_streams.ensures
