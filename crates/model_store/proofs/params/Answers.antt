-- `model_store::params` meets its contract. Assumes nothing.
use Rattle.std.proofs.Common.{true, false, sym, ◌∙◌}
use Rattle.model.specs.DeviceLaws.{stream-below}
use Rattle.model_store.specs.ReadsLaws.{stream-by, params-short, params-bad, params_none, params-some}
use Rattle.model_store.proofs.params.Goals as goal

pub returns-then-not-roomy : goal.returns-then-not-roomy
returns-then-not-roomy c =
    let a = c.args in
    let s = a.device.now in
    let r = a.res.now in
    params-short s a.stream r (sym c.roomy.ensures ∙ c.if-not-roomy.true)

pub returns-then-get_u8-eq0 : goal.returns-then-get_u8-eq0
returns-then-get_u8-eq0 c =
    let a = c.args in
    let s = a.device.now in
    let r = a.res.now in
    let t = sym c.stream_ok.ensures ∙ c.if-stream_ok.true in
    params_none s a.stream r (sym c.roomy.ensures ∙ c.if-not-roomy.false) (stream-by s a.stream _ c.counts_at-counts.ensures true t) (stream-below c.counts_at-counts.result a.stream t) _ _
    c.get_u8.ensures
    c.if-get_u8-eq0.true
    c.put_u64.ensures

pub returns-then-stream_ok : goal.returns-then-stream_ok
returns-then-stream_ok c =
    let a = c.args in
    let s = a.device.now in
    let r = a.res.now in
    let t = sym c.stream_ok.ensures ∙ c.if-stream_ok.true in
    params-some s a.stream r (sym c.roomy.ensures ∙ c.if-not-roomy.false) (stream-by s a.stream _ c.counts_at-counts.ensures true t) (stream-below c.counts_at-counts.result a.stream t) _ _
    c.get_u8.ensures
    (λ k. (c.shared_slice_known-1.given k).fits)
    c.if-get_u8-eq0.false
    _
    c.put_u64-then-stream_ok.ensures
    c.copy.ensures

pub returns : goal.returns
returns c =
    let a = c.args in
    let s = a.device.now in
    let r = a.res.now in
    let t = sym c.stream_ok.ensures ∙ c.if-stream_ok.false in
    params-bad s a.stream r (sym c.roomy.ensures ∙ c.if-not-roomy.false) (stream-by s a.stream _ c.counts_at-counts.ensures false t)
