-- `model_store::new` meets its contract. Assumes nothing.
use Rattle.std.proofs.Common.{sym, refl, ◌∙◌}
use Rattle.model_store.specs.NewLaws.{new-short, new-jacks, new-pcms, new-maps, new-many, new-made}
use Rattle.model_store.proofs.new.Goals as goal

pub returns-then-device-lt-SIZE : goal.returns-then-device-lt-SIZE
returns-then-device-lt-SIZE c =
    let a = c.args in
    new-short a.device.now a.jacks.now a.pcms.now a.maps.now c.if-device-lt-SIZE.true

pub returns-then-jacks-ne0 : goal.returns-then-jacks-ne0
returns-then-jacks-ne0 c =
    let a = c.args in
    new-jacks a.device.now a.jacks.now a.pcms.now a.maps.now c.if-device-lt-SIZE.false c.if-jacks-ne0.true

pub returns-then-pcms-ne0 : goal.returns-then-pcms-ne0
returns-then-pcms-ne0 c =
    let a = c.args in
    new-pcms a.device.now a.jacks.now a.pcms.now a.maps.now c.if-device-lt-SIZE.false c.if-jacks-ne0.false c.if-pcms-ne0.true

pub returns-then-maps-ne0 : goal.returns-then-maps-ne0
returns-then-maps-ne0 c =
    let a = c.args in
    new-maps a.device.now a.jacks.now a.pcms.now a.maps.now c.if-device-lt-SIZE.false c.if-jacks-ne0.false c.if-pcms-ne0.false c.if-maps-ne0.true

pub returns-then-few : goal.returns-then-few
returns-then-few c =
    let a = c.args in
    new-made a.device.now a.jacks.now a.pcms.now a.maps.now c.if-device-lt-SIZE.false c.if-jacks-ne0.false c.if-pcms-ne0.false c.if-maps-ne0.false (sym c.few.ensures ∙ c.if-few.true)
    (λ k. (c.shared_slice_known-1.given k).fits)
    (λ k. (c.shared_slice_known-2-1.given k).fits)
    (λ k. (c.shared_slice_known-3-1.given k).fits)
    _
    _
    refl
    c.make.ensures

pub returns : goal.returns
returns c =
    let a = c.args in
    new-many a.device.now a.jacks.now a.pcms.now a.maps.now c.if-device-lt-SIZE.false c.if-jacks-ne0.false c.if-pcms-ne0.false c.if-maps-ne0.false (sym c.few.ensures ∙ c.if-few.false)
