-- `model_store::control` meets its contract. Assumes nothing.
use Rattle.std.proofs.Common.{sym, ap, ◌∙◌}
use Rattle.model.specs.Device.{within_of}
use Rattle.model_store.specs.ControlLaws.{control-short, control-page, control-many, control-gave}
use Rattle.model_store.proofs.control.Goals as goal

pub returns-then-not-roomy : goal.returns-then-not-roomy
returns-then-not-roomy c =
    let a = c.args in
    let s = a.device.now in
    let r = a.res.now in
    control-short s a.request.now a.page.now r (sym c.roomy.ensures ∙ c.if-not-roomy.true)

pub returns-then-page-ne-PAGE : goal.returns-then-page-ne-PAGE
returns-then-page-ne-PAGE c =
    let a = c.args in
    let s = a.device.now in
    let r = a.res.now in
    control-page s a.request.now a.page.now r (sym c.roomy.ensures ∙ c.if-not-roomy.false) (λ k. (c.slice_known-1.given k).fits) c.if-page-ne-PAGE.true

pub returns-then-within : goal.returns-then-within
returns-then-within c =
    let a = c.args in
    let s = a.device.now in
    let r = a.res.now in
    let w = sym (c.within.ensures ∙ ap within_of c.counts_at-counts.ensures) ∙ c.if-within.true in
    control-gave s a.request.now a.page.now r (sym c.roomy.ensures ∙ c.if-not-roomy.false) c.if-page-ne-PAGE.false w _ _ _ _ c.outcome-n.ensures c.put_u64.ensures

pub returns : goal.returns
returns c =
    let a = c.args in
    let s = a.device.now in
    let r = a.res.now in
    let w = sym (c.within.ensures ∙ ap within_of c.counts_at-counts.ensures) ∙ c.if-within.false in
    control-many s a.request.now a.page.now r (sym c.roomy.ensures ∙ c.if-not-roomy.false) c.if-page-ne-PAGE.false (λ k. (c.slice_known-1.given k).fits) w
