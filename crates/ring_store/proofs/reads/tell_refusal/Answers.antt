-- An answer with no values. Assumes nothing.
use mathlib.Core.Path.{ap}
use mathlib.Core.List.{[]}
use Prim.Native.Nat.{ℕ}
use Rattle.codes.specs.Says.{says}
use Rattle.turns.specs.CallLaws.{passed, failed}
use Rattle.ring_store.specs.ReadsLaws.{unroomy, bare}
use Rattle.ring_store.proofs.reads.tell_refusal.Goals as goal

pub returns-then-not-room : goal.returns-then-not-room
returns-then-not-room c = let a = c.args in unroomy a.ring.now a.res.now _ (failed c.roomy-room.ensures c.if-not-room.true-raw)

pub returns : goal.returns
returns c =
    let a = c.args in
    bare a.ring.now a.res.now _ _ (passed c.roomy-room.ensures c.if-not-room.false-raw) (ap (λ (k : ℕ). says k []) c.word.ensures)
