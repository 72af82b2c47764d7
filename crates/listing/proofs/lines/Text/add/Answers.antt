-- `listing::lines::Text::add` meets its contract by the law of what is copied in. Assumes nothing.
use mathlib.Core.Path.{◌≡◌, refl, ap, ◌∙◌}
use Prim.Native.Nat.{◌+◌}
use native.Mathlib.Omega.{arith}
use lib.ListN.{length, take}
use borrow.Author.Rules.{rules}
use Rattle.listing.specs.TextLaws.{copied}
use Rattle.listing.proofs.lines.Text.add.Goals as goal

pub returns : goal.returns
returns c =
    let t = c.args.self.now in
    let word = c.args.word.now in
    let n : length t.bytes ≡ 32 = search rules in
    record { longer = refl; more = ap (take (t.len + length word)) c.put_bytes.ensures ∙ copied t.bytes word t.len (omega arith) }
