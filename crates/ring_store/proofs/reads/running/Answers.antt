-- 1 where a transfer runs, else 0. Assumes nothing.
use mathlib.Core.Path.{ap}
use mathlib.Core.List.{[], ◌∷◌}
use Prim.Native.Nat.{ℕ}
use Rattle.codes.specs.Says.{pick}
use Rattle.ring_store.specs.Types.{Track}
use Rattle.ring_store.specs.ReadsLaws.{told, read_by}
use Rattle.ring_store.proofs.reads.running.Goals as goal

pub returns : goal.returns
returns c =
    let a = c.args in
    told a.ring.now a.res.now _ _ (read_by _ _ _ (λ (t : Track). pick t.running 1 0 ∷ []) _ c.track-t.ensures c.is_consistent-sound.ensures (ap (λ (n : ℕ). n ∷ []) c.flag_of-flag.ensures)) c.tell.ensures
