-- `tables::kept::has_room` meets its contract. Assumes nothing.
use mathlib.Core.Path.{◌≡◌, refl, sym}
use mathlib.Core.Bool.{Bool, true, false}
use Prim.Native.Nat.{ℕ, ◌+◌, ◌-◌, ◌≤◌}
use native.Mathlib.Omega.{arith}
use lib.Dec.{leb}
use borrow.Author.Tests.{le-leb, lt-leb, leb-true, leb-false}
use Rattle.tables.proofs.kept.has_room.Goals as goal

-- what is left behind a place
behind : (len at n : ℕ) → at ≤ len → (t : Bool) → leb n (len - at) ≡ t → t ≡ leb (at + n) len
behind len at n h true e = sym (le-leb (at + n) len (omega (arith, leb-true n (len - at) e)))
behind len at n h false e = sym (lt-leb (at + n) len (omega (arith, leb-false n (len - at) e)))

pub returns-then-len-at : goal.returns-then-len-at
returns-then-len-at c = let a = c.args in sym (lt-leb (a.at + a.n) a.len (omega arith))

pub returns : goal.returns
returns c = let a = c.args in behind a.len a.at a.n c.if-len-at.false _ refl
