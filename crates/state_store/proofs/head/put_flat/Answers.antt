-- `state_store::head::put_flat` meets its contract: the list of its stores, in the layout's order. Assumes nothing.
use Rattle.std.proofs.Common.{length, ap, arith}
use lib.Seq.{length-sets}
use Rattle.layout.specs.ChainLaws.{stored}
use Rattle.layout.specs.ChainLaws.Stored.{put, end}
use Rattle.state_store.specs.Flat.{flat_row, flat_values}
use Rattle.state_store.proofs.head.put_flat.Goals as goal

pub returns : goal.returns
returns c =
    let a = c.args in
    stored _ a.s.now 24 flat_row (flat_values a.f)
    (put c.put_u8.ensures (put c.put_u8-2.ensures (put c.put_u8-3.ensures (put c.put_u8-4.ensures (put c.put_u32.ensures (put c.put_u32-2.ensures (put c.put_u32-3.ensures (put c.put_u32-4.ensures (put c.put_u8-5.ensures (put c.put_u8-6.ensures (put c.put_u8-7.ensures (put c.put_u8-8.ensures end))))))))))))

pub shape_of-s : goal.shape_of-s
shape_of-s c = omega (arith, simp length-sets at (ap length (returns c)))
