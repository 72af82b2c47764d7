-- The list of its stores, in the layout's order. Assumes nothing.
use mathlib.Core.Path.{ap, ◌∙◌}
use mathlib.Core.List.{◌∷◌, []}
use Prim.Native.Nat.{ℕ}
use lib.ListN.{length}
use lib.Seq.{sets, length-sets}
use Rattle.layout.specs.Layout.{write}
use Rattle.layout.specs.ChainLaws.{stored}
use Rattle.layout.specs.ChainLaws.Stored.{put, end}
use Rattle.ring_store.specs.Store.{side_place, side_row}
use Rattle.ring_store.proofs.store.put_side.Goals as goal

pub returns : goal.returns
returns c =
    let a = c.args in
    stored _ a.ring.now side_place side_row _ (put c.put_u64.ensures (put c.put_u64-2.ensures (put c.put_u32.ensures (put c.put_u64-3.ensures end))))
    ∙ ap (λ (n : ℕ). sets a.ring.now side_place (write side_row (a.t.lent ∷ a.t.kept ∷ n ∷ a.t.written ∷ []))) c.flag_of-flag.ensures

pub shape_of-ring : goal.shape_of-ring
shape_of-ring c = ap length (returns c) ∙ simp length-sets
