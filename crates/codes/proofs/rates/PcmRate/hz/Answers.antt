-- `codes::rates::PcmRate::hz` meets its contract. Assumes nothing.
use mathlib.Core.Path.{ap}
use Prim.Native.Nat.{ℕ}
use native.Mathlib.Omega.{arith}
use lib.ListN.{get_or}
use Rattle.codes.specs.Rates.{hz_table}
use Rattle.codes.specs.RatesLaws.{rate-below}
use Rattle.codes.proofs.rates.PcmRate.hz.Goals as goal

pub bounds-n : goal.bounds-n
bounds-n c = omega (arith, rate-below c.args.self)

pub returns : goal.returns
returns c = ap (λ (n : ℕ). get_or hz_table n 0) c.number-n.ensures
