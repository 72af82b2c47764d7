-- `model::control::rows` meets its contract. Assumes nothing.
use Rattle.std.proofs.Common.{◌≡◌, ℕ, ◌+◌, ◌-◌, ◌++◌, ◌∷◌, [], take, drop, sym, ap, subst, ◌∙◌, arith}
use Rattle.layout.specs.Bytes.{le}
use Rattle.layout.specs.Layout.{size, write}
use Rattle.layout.specs.Rows.{rows_bytes}
use Rattle.codes.specs.Says.{says}
use Rattle.model.specs.Control.{asked_says, says_range, Laid}
use Rattle.model.specs.ControlLaws.{gives, laid-gives, table-rows}
use Rattle.model.proofs.control.rows.Goals as goal

pub returns : goal.returns
returns g c =
    let a = c.args in
    let r = c.in-Some.field-0 in
    let w = g.R.Row.widths in
    let z : says 0 (r.start ∷ r.count ∷ []) ≡ asked_says a.request.now (size w) a.n = sym (ap says_range c.in-Some.is) ∙ c.asked.ensures ∙ ap (λ (k : ℕ). asked_says a.request.now k a.n) (c.SIZE.ensures ∙ g.met.R.Row.sized) in
    let m : r.start + r.count - r.start ≡ r.count = omega arith in
    gives _ (table-rows a.request.now (size w) a.n (λ x. write w (g.R.Row.values x)) a.rows.now a.d r.start r.count z)
    (laid-gives a.d _ a.page.now _ _
    (subst (λ (k : ℕ). Laid (le 4 0x8000 ++ rows_bytes (λ x. write w (g.R.Row.values x)) (take k (drop r.start a.rows.now))) a.page.now c.put_rows-length.result c.put_rows-length.new.page) m c.put_rows-length.ensures))
