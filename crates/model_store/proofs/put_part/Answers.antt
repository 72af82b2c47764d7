-- `model_store::put_part` meets its contract. Assumes nothing.
use Rattle.std.proofs.Common.{[], ◌∷◌}
use Rattle.layout.specs.ChainLaws.{Stored, stored}
use Rattle.model_store.proofs.put_part.Goals as goal

pub returns : goal.returns
returns c = stored _ _ 0 (8 ∷ 8 ∷ []) _ (Stored.put c.put_u64.ensures (Stored.put c.put_u64-2.ensures Stored.end))
