-- `model::control::control` meets its contract. Assumes nothing.
use Rattle.std.proofs.Common.{sym, refl, ◌∙◌, eq-eqb, ne_eqb}
use Rattle.codes.specs.SaysLaws.{passes, stops}
use Rattle.layout.specs.Lent.{page_size}
use Rattle.model.specs.Control.{control_of}
use Rattle.model.proofs.control.control.Goals as goal

pub returns-then-page-ne-PAGE : goal.returns-then-page-ne-PAGE
unfolding control_of
returns-then-page-ne-PAGE c = stops _ _ _ (ne_eqb _ page_size c.if-page-ne-PAGE.true) refl

pub returns-then-within : goal.returns-then-within
unfolding control_of
returns-then-within c =
    passes _ _ _ (eq-eqb _ page_size c.if-page-ne-PAGE.false)
    (passes _ _ _ (sym c.within.ensures ∙ c.if-within.true) c.outcome.ensures)

pub returns : goal.returns
unfolding control_of
returns c = passes _ _ _ (eq-eqb _ page_size c.if-page-ne-PAGE.false) (stops _ _ _ (sym c.within.ensures ∙ c.if-within.false) refl)
