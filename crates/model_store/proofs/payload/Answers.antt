-- `model_store::payload` meets its contract. Assumes nothing.
use Rattle.std.proofs.Common.{sym, ap, ◌∙◌}
use Rattle.model.specs.Device.{within_of}
use Rattle.model_store.specs.ReadsLaws.{plays-by, payload-short, payload-many, payload-part, payload-none}
use Rattle.model_store.proofs.payload.Goals as goal

pub returns-then-not-roomy : goal.returns-then-not-roomy
returns-then-not-roomy c =
    let a = c.args in
    let s = a.device.now in
    let r = a.res.now in
    payload-short s a.request.now r (sym c.roomy.ensures ∙ c.if-not-roomy.true)

pub returns-then-plays : goal.returns-then-plays
returns-then-plays c =
    let a = c.args in
    let s = a.device.now in
    let r = a.res.now in
    let n = c.counts_at-counts.ensures in
    let w = sym (c.within.ensures ∙ ap within_of n) ∙ c.if-within.true in
    let t = plays-by s a.request.now _ n c.plays.ensures ∙ c.if-plays.true in
    payload-part s a.request.now r (sym c.roomy.ensures ∙ c.if-not-roomy.false) w _ t c.put_part.ensures

pub returns-then-within : goal.returns-then-within
returns-then-within c =
    let a = c.args in
    let s = a.device.now in
    let r = a.res.now in
    let n = c.counts_at-counts.ensures in
    let w = sym (c.within.ensures ∙ ap within_of n) ∙ c.if-within.true in
    let t = plays-by s a.request.now _ n c.plays.ensures ∙ c.if-plays.false in
    payload-none s a.request.now r (sym c.roomy.ensures ∙ c.if-not-roomy.false) w _ t c.put_part-then-within.ensures

pub returns : goal.returns
returns c =
    let a = c.args in
    let s = a.device.now in
    let r = a.res.now in
    let w = sym (c.within.ensures ∙ ap within_of c.counts_at-counts.ensures) ∙ c.if-within.false in
    payload-many s a.request.now r (sym c.roomy.ensures ∙ c.if-not-roomy.false) w
