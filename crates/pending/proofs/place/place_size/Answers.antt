-- `pending::place::place_size` meets its contract: nothing divided by 0 is 0. Assumes nothing.
use mathlib.Core.Path.{sym, ap, ◌∙◌}
use Prim.Native.Nat.{ℕ, ◌/◌}
use native.Mathlib.Nat.{div-zero}
use Rattle.pending.proofs.place.place_size.Goals as goal

pub returns-then-places-eq0 : goal.returns-then-places-eq0
returns-then-places-eq0 c = let a = c.args in sym (ap (λ (n : ℕ). a.len / n) c.if-places-eq0.true ∙ div-zero a.len)
