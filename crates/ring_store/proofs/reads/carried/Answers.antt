-- A slot below 32 of a consistent ring. Assumes nothing.
use mathlib.Core.Path.{◌∙◌}
use mathlib.Core.List.{[], ◌∷◌}
use Rattle.codes.specs.Says.{says, guard}
use Rattle.ring_store.specs.Store.{ring_of}
use Rattle.ring_store.specs.ReadsLaws.{told, guards}
use Rattle.ring_store.proofs.reads.carried.Goals as goal

pub returns : goal.returns
unfolding ring_of
returns c =
    let a = c.args in
    told a.ring.now a.res.now _ _ ((λ j. guard (c.is_slot-sound.ensures j) (says 1 []) (says 0 ((c.get_slot-found.ensures j).offset ∷ (c.get_slot-found.ensures j).len ∷ []))) ∙ guards _ _ _ _) c.tell.ensures
