-- `tables::verdict::extent` meets its contract: a count times a size, each of 32 bits, fits 64. Assumes nothing.
use Prim.Native.Nat.{ℕ, ◌*◌, ◌<◌, ◌≤◌}
use native.Mathlib.Nat.{mul-le-mul}
use native.Mathlib.Omega.{arith}
use Rattle.tables.proofs.verdict.extent.Goals as goal

product : (a b : ℕ) → a < 4294967296 → b < 4294967296 → a * b ≤ 4294967295 * 4294967295
product a b p q =
    let k : a ≤ 4294967295 = omega arith in
    let l : b ≤ 4294967295 = omega arith in
    mul-le-mul k l

pub overflow_mul-result : goal.overflow_mul-result
overflow_mul-result c = omega (arith, product c.args.count c.args.size (omega arith) (omega arith))

pub overflow_add-result : goal.overflow_add-result
overflow_add-result c = omega (arith, product c.args.count c.args.size (omega arith) (omega arith))
