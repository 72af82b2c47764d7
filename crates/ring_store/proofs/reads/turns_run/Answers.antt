-- The turns that were run. Assumes nothing.
use mathlib.Core.Path.{refl}
use mathlib.Core.List.{[], ◌∷◌}
use Rattle.ring_store.specs.Types.{Track}
use Rattle.ring_store.specs.ReadsLaws.{told, read_by}
use Rattle.ring_store.proofs.reads.turns_run.Goals as goal

pub returns : goal.returns
returns c =
    let a = c.args in
    told a.ring.now a.res.now _ _ (read_by _ _ _ (λ (t : Track). t.turns ∷ []) _ c.track-t.ensures c.is_consistent-sound.ensures refl) c.tell.ensures
