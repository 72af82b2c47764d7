-- `tables::kept::copy` meets its contract: that part of the page, stored. Assumes nothing.
use Rattle.std.proofs.Common.{sym, ap, ◌∙◌, arith, ◌≡◌, ℕ, ◌+◌, ◌-◌, take, drop}
use Rattle.std.proofs.lemmas.List.Edits.{sets}
use Rattle.layout.specs.BytesLaws.{bytes_at-part}
use Rattle.tables.proofs.kept.copy.Goals as goal

pub returns : goal.returns
returns c =
    let a = c.args in
    let n : 4 + a.n - 4 ≡ a.n = omega arith in
    c.put_bytes.ensures ∙ ap (sets a.s.now a.at) (ap (λ (k : ℕ). take k (drop 4 a.page.now)) n ∙ sym (bytes_at-part 4 a.n a.page.now c.requires))
