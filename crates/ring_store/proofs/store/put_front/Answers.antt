-- The list of its stores, in the layout's order. Assumes nothing.
use mathlib.Core.Path.{ap, ◌∙◌}
use mathlib.Core.List.{◌∷◌, []}
use Prim.Native.Nat.{ℕ}
use lib.ListN.{length}
use lib.Seq.{sets, length-sets}
use Rattle.layout.specs.Layout.{write}
use Rattle.layout.specs.ChainLaws.{stored}
use Rattle.layout.specs.ChainLaws.Stored.{put, end}
use Rattle.ring_store.specs.Store.{track_row}
use Rattle.ring_store.proofs.store.put_front.Goals as goal

pub returns : goal.returns
returns c =
    let a = c.args in
    stored _ a.ring.now 0 track_row _ (put c.put_u64.ensures (put c.put_u64-2.ensures (put c.put_u64-3.ensures (put c.put_u64-4.ensures (put c.put_u64-5.ensures (put c.put_u64-6.ensures (put c.put_u64-7.ensures (put c.put_u64-8.ensures (put c.put_u64-9.ensures (put c.put_u32.ensures (put c.put_u32-2.ensures (put c.put_u64-10.ensures (put c.put_u64-11.ensures end)))))))))))))
    ∙ ap (λ (n : ℕ). sets a.ring.now 0 (write track_row (a.t.descriptors ∷ a.t.head ∷ a.t.tail ∷ a.t.inflight ∷ a.t.total ∷ a.t.period ∷ a.t.next ∷ a.t.budget ∷ a.t.turns ∷ a.t.stream ∷ n ∷ a.t.room ∷ a.t.good ∷ []))) c.flag_of-flag.ensures

pub shape_of-ring : goal.shape_of-ring
shape_of-ring c = ap length (returns c) ∙ simp length-sets
