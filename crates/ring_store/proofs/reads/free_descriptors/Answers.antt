-- Of a consistent ring the difference is at most 32. Assumes nothing.
use native.Mathlib.Omega.{arith}
use mathlib.Core.Path.{sym, refl}
use mathlib.Core.List.{[], ◌∷◌}
use Rattle.turns.specs.Ring.{free}
use Rattle.turns.specs.ConsistentLaws.{consistent-facts}
use Rattle.turns.specs.CallLaws.{passed, failed}
use Rattle.ring_store.specs.Types.{Track}
use Rattle.ring_store.specs.ReadsLaws.{told, read_by, read-barred}
use Rattle.ring_store.proofs.reads.free_descriptors.Goals as goal

pub returns-then-not-sound : goal.returns-then-not-sound
returns-then-not-sound c =
    let a = c.args in
    told a.ring.now a.res.now _ _ (read-barred _ _ _ _ c.track-t.ensures (failed c.is_consistent-sound.ensures c.if-not-sound.true-raw)) c.tell.ensures

pub overflow_mul-free : goal.overflow_mul-free
overflow_mul-free c = omega (arith, (consistent-facts _ (passed c.is_consistent-sound.ensures c.if-not-sound.false-raw)).placed.room)

pub overflow_sub-free : goal.overflow_sub-free
overflow_sub-free c = omega (arith, (consistent-facts _ (passed c.is_consistent-sound.ensures c.if-not-sound.false-raw)).placed.room)

pub returns : goal.returns
returns c =
    let a = c.args in
    told a.ring.now a.res.now _ _ (read_by _ _ _ (λ (t : Track). free t ∷ []) _ c.track-t.ensures (sym (passed c.is_consistent-sound.ensures c.if-not-sound.false-raw)) refl) c.tell-2.ensures
