-- `wav::writer::put_header` meets its contract: the list of its stores, in the header's order. Assumes nothing.
use mathlib.Core.Path.{◌≡◌, ap, ◌∙◌}
use Prim.Native.Nat.{ℕ, ◌+◌, ◌%◌}
use lib.ListN.{length}
use lib.Seq.{sets, length-sets}
use native.Mathlib.Omega.{arith}
use Rattle.layout.specs.Bytes.{le}
use Rattle.layout.specs.ChainLaws.{stored}
use Rattle.layout.specs.ChainLaws.Stored.{put, end}
use Rattle.wav.specs.Chunks.{padded}
use Rattle.wav.specs.Wave.{header, header_values}
use Rattle.wav.proofs.writer.put_header.Goals as goal

pub returns : goal.returns
returns c =
    let a = c.args in
    let z : 36 + a.len + a.len % 2 ≡ 36 + padded a.len = omega arith in
    let s = c.put_u32-2.ensures ∙ ap (λ (n : ℕ). sets c.put_u32.new.out 4 (le 4 n)) z in
    stored _ a.out.now 0 header (header_values a.channels a.hz a.whole a.bits a.len)
    (put c.put_u32.ensures
    (put s
    (put c.put_u32-3.ensures
    (put c.put_u32-4.ensures
    (put c.put_u32-5.ensures
    (put c.put_u16.ensures
    (put c.put_u16-2.ensures
    (put c.put_u32-6.ensures
    (put c.put_u32-7.ensures
    (put c.put_u16-3.ensures
    (put c.put_u16-4.ensures
    (put c.put_u32-8.ensures
    (put c.put_u32-9.ensures end)))))))))))))

pub shape_of-out : goal.shape_of-out
shape_of-out c = ap length (returns c) ∙ simp length-sets
