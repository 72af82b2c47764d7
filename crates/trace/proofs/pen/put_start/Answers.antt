-- Byte by byte behind one another. Assumes nothing.
use mathlib.Core.List.{[], ◌∷◌}
use native.Mathlib.Omega.{arith}
use Rattle.layout.specs.ChainLaws.{stored}
use Rattle.layout.specs.ChainLaws.Stored.{put, end}
use Rattle.trace.proofs.pen.put_start.Goals as goal

pub returns : goal.returns
returns c =
    let a = c.args in
    (omega arith, stored _ a.room.now a.at (1 ∷ 2 ∷ 4 ∷ 4 ∷ 4 ∷ []) _ (put c.put_u8.ensures (put c.put_u16.ensures (put c.put_u32.ensures (put c.put_u32-2.ensures (put c.put_u32-3.ensures end))))))
