-- `codes::formats::PcmFormat::sample_bits` meets its contract. Assumes nothing.
use mathlib.Core.Path.{ap}
use Prim.Native.Nat.{ℕ}
use native.Mathlib.Omega.{arith}
use lib.ListN.{get_or}
use Rattle.codes.specs.Formats.{sample_table}
use Rattle.codes.specs.FormatsLaws.{format-below}
use Rattle.codes.proofs.formats.PcmFormat.sample_bits.Goals as goal

pub bounds-n : goal.bounds-n
bounds-n c = omega (arith, format-below c.args.self)

pub returns : goal.returns
returns c = ap (λ (n : ℕ). get_or sample_table n 0) c.number-n.ensures
