-- `model_store::made::put_counts` meets its contract. Assumes nothing.
use Rattle.std.proofs.Common.{[], ◌∷◌}
use Rattle.layout.specs.ChainLaws.{Stored, stored}
use Rattle.model_store.proofs.made.put_counts.Goals as goal

pub returns : goal.returns
returns c = stored _ _ 0 (4 ∷ 4 ∷ 4 ∷ []) _ (Stored.put c.put_u32.ensures (Stored.put c.put_u32-2.ensures (Stored.put c.put_u32-3.ensures Stored.end)))
