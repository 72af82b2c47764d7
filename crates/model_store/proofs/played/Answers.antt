-- `model_store::played` meets its contract. Assumes nothing.
use Rattle.std.proofs.Common.{true, false, sym, ◌∙◌}
use Rattle.model.specs.DeviceLaws.{stream-below}
use Rattle.model_store.specs.ReadsLaws.{stream-by, played-short, played-bad, played-word}
use Rattle.model_store.proofs.played.Goals as goal

pub returns-then-not-roomy : goal.returns-then-not-roomy
returns-then-not-roomy c =
    let a = c.args in
    let s = a.device.now in
    let r = a.res.now in
    played-short s a.stream r (sym c.roomy.ensures ∙ c.if-not-roomy.true)

pub returns-then-stream_ok : goal.returns-then-stream_ok
returns-then-stream_ok c =
    let a = c.args in
    let s = a.device.now in
    let r = a.res.now in
    let t = sym c.stream_ok.ensures ∙ c.if-stream_ok.true in
    played-word s a.stream r (sym c.roomy.ensures ∙ c.if-not-roomy.false) (stream-by s a.stream _ c.counts_at-counts.ensures true t) (stream-below c.counts_at-counts.result a.stream t) _ _
    c.get_u64-n.ensures
    c.put_u64.ensures

pub returns : goal.returns
returns c =
    let a = c.args in
    let s = a.device.now in
    let r = a.res.now in
    let t = sym c.stream_ok.ensures ∙ c.if-stream_ok.false in
    played-bad s a.stream r (sym c.roomy.ensures ∙ c.if-not-roomy.false) (stream-by s a.stream _ c.counts_at-counts.ensures false t)
