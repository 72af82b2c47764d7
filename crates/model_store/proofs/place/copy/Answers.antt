-- `model_store::place::copy` meets its contract. Assumes nothing.
use Rattle.std.proofs.Common.{◌≡◌, ℕ, ◌+◌, ◌-◌, take, drop, sym, ap, ◌∙◌, arith}
use Rattle.std.proofs.lemmas.List.Edits.{sets}
use Rattle.layout.specs.BytesLaws.{bytes_at-part}
use Rattle.model_store.proofs.place.copy.Goals as goal

pub returns : goal.returns
returns c =
    let a = c.args in
    let m : a.start + a.n - a.start ≡ a.n = omega arith in
    c.put_bytes.ensures ∙ ap (sets a.to.now a.at) (ap (λ (j : ℕ). take j (drop a.start a.from.now)) m ∙ sym (bytes_at-part a.start a.n a.from.now (omega arith)))
