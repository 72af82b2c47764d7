-- `wav::sound::block` meets its contract: at most 255 samples of at most 31 bytes. Assumes nothing.
use mathlib.Core.Path.{ap}
use Prim.Native.Nat.{ℕ, ◌*◌, ◌/◌}
use native.Mathlib.Omega.{arith}
use borrow.Author.Rules.{rules}
use Rattle.wav.specs.WaveLaws.{small_product}
use Rattle.wav.proofs.sound.block.Goals as goal

pub overflow_mul-result : goal.overflow_mul-result
overflow_mul-result c = omega (arith, small_product c.args.channels (c.storage_bits-bits.result / 8) (search rules) (omega arith))

pub returns : goal.returns
returns c = let a = c.args in ap (λ (x : ℕ). a.channels * (x / 8)) c.storage_bits-bits.ensures
