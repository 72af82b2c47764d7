-- `listing::lines::Text::give` meets its contract: the line is copied where it fits. Assumes nothing.
use mathlib.Core.Path.{◌≡◌}
use Prim.Native.Nat.{◌≤◌}
use native.Mathlib.Omega.{arith}
use lib.ListN.{length}
use lib.Seq.{length-take-le}
use borrow.Author.Rules.{rules}
use Rattle.listing.specs.Text.{text_of}
use Rattle.listing.specs.declared.lines.Text.{Text}
use Rattle.listing.specs.TextLaws.{given, withheld}
use Rattle.listing.proofs.lines.Text.give.Goals as goal

-- a text's length
len : (t : Text) → length t.bytes ≡ 32 → t.len ≤ 32 → length (text_of t) ≡ t.len
len t e h = length-take-le t.len t.bytes (omega arith)

pub returns-then-out-self : goal.returns-then-out-self
returns-then-out-self c =
    let t = c.args.self.now in
    withheld (text_of t) c.args.out.now (omega (arith, len t (search rules) (search rules)))

pub returns : goal.returns
returns c =
    let t = c.args.self.now in
    rw c.put_bytes.ensures (given (text_of t) c.args.out.now t.len (len t (search rules) (search rules)) (omega arith))
