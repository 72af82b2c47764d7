-- `wav::writer::put_pad` meets its contract: one byte, or none. Assumes nothing.
use mathlib.Core.Path.{◌≡◌, ap, sym, ◌∙◌}
use Prim.Native.Nat.{ℕ}
use lib.Seq.{sets}
use native.Mathlib.Omega.{arith}
use Rattle.layout.specs.Bytes.{zeros, le}
use Rattle.wav.proofs.writer.put_pad.Goals as goal

pub returns-then-odd-eq1 : goal.returns-then-odd-eq1
unfolding zeros le
returns-then-odd-eq1 c =
    let a = c.args in
    c.put_u8.ensures ∙ sym (ap (λ (n : ℕ). sets a.out.now a.at (zeros n)) c.if-odd-eq1.true)

pub returns-else-odd-eq1 : goal.returns-else-odd-eq1
unfolding zeros
returns-else-odd-eq1 c =
    let a = c.args in
    let z : a.odd ≡ 0 = omega (arith, c.if-odd-eq1.false, c.requires) in
    sym (ap (λ (n : ℕ). sets a.out.now a.at (zeros n)) z)
