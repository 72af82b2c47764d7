-- `state_store::nonblocking::pcm_xfer_nb` meets its contract: by what the checks come to. Assumes nothing.
use Rattle.std.proofs.Common.{ℕ, sym, ap, ◌∙◌}
use Rattle.exchange.specs.StepLaws.{came}
use borrow.Author.Tests.{not-true, not-false}
use Rattle.layout.specs.Bytes.{Bytes}
use Rattle.state_store.specs.Store.{whole_head, core_of}
use Rattle.state_store.specs.Tokens.{submitted}
use Rattle.state_store.specs.FinishLaws.{long-state}
use Rattle.state_store.specs.SubmitLaws.{nb-unread, nb-gated, nb-long, nb-shut, nb-set-up, nb-open}
use Rattle.state_store.proofs.nonblocking.pcm_xfer_nb.Goals as goal

pub returns-then-not-both : goal.returns-then-not-both
returns-then-not-both c =
    let a = c.args in
    nb-unread a.state.now a.t a.stream a.payload.now a.places.now a.message.now a.res.now (sym c.both.ensures ∙ not-true _ c.if-not-both.true-raw)

pub life_at-life-requires : goal.life_at-life-requires
life_at-life-requires c =
    let a = c.args in
    long-state a.state.now a.res.now (sym c.both.ensures ∙ not-false _ c.if-not-both.false-raw)

pub set_up-requires : goal.set_up-requires
set_up-requires c =
    let a = c.args in
    let s = a.state.now in
    let e = a.payload.now in
    let p = a.places.now in
    let m = a.message.now in
    let r = a.res.now in
    let l = sym c.both.ensures ∙ not-false _ c.if-not-both.false-raw in
    let g = nb-gated s a.t a.stream e p m r (c.core_by-c.ensures ∙ ap core_of c.get_head-h.ensures) c.params_at-params.ensures c.life_at-life.ensures c.xfer_gate-gate.ensures in
    (long-state s r l, nb-long s a.t a.stream e p m r (came c.in-Ok-SetUp.is (rw c.in-Ok-SetUp.is at c.in-Ok-SetUp.field-0-is) ∙ g))

pub returns-in-Err : goal.returns-in-Err
returns-in-Err c =
    let a = c.args in
    let s = a.state.now in
    let e = a.payload.now in
    let p = a.places.now in
    let m = a.message.now in
    let r = a.res.now in
    let l = sym c.both.ensures ∙ not-false _ c.if-not-both.false-raw in
    let g = nb-gated s a.t a.stream e p m r (c.core_by-c.ensures ∙ ap core_of c.get_head-h.ensures) c.params_at-params.ensures c.life_at-life.ensures c.xfer_gate-gate.ensures in
    let b : Bytes s = λ k. (c.slice_known-1.given k).fits in
    ap (λ (n : ℕ). submitted n s p m r) c.word.ensures ∙ nb-shut s a.t a.stream e p m r l b _ (sym c.in-Err.is ∙ g)

pub returns-in-Ok-SetUp : goal.returns-in-Ok-SetUp
returns-in-Ok-SetUp c =
    let a = c.args in
    let s = a.state.now in
    let e = a.payload.now in
    let p = a.places.now in
    let m = a.message.now in
    let r = a.res.now in
    let l = sym c.both.ensures ∙ not-false _ c.if-not-both.false-raw in
    let g = nb-gated s a.t a.stream e p m r (c.core_by-c.ensures ∙ ap core_of c.get_head-h.ensures) c.params_at-params.ensures c.life_at-life.ensures c.xfer_gate-gate.ensures in
    let h = c.get_head-h.ensures in
    nb-set-up s a.t a.stream e p m r l (c.is_whole-whole.ensures ∙ ap whole_head h) (c.core_by-c.ensures ∙ ap core_of h) (came c.in-Ok-SetUp.is (rw c.in-Ok-SetUp.is at c.in-Ok-SetUp.field-0-is) ∙ g) c.set_up.ensures

pub returns-in-Ok-Open : goal.returns-in-Ok-Open
returns-in-Ok-Open c =
    let a = c.args in
    let s = a.state.now in
    let e = a.payload.now in
    let p = a.places.now in
    let m = a.message.now in
    let r = a.res.now in
    let l = sym c.both.ensures ∙ not-false _ c.if-not-both.false-raw in
    let g = nb-gated s a.t a.stream e p m r (c.core_by-c.ensures ∙ ap core_of c.get_head-h.ensures) c.params_at-params.ensures c.life_at-life.ensures c.xfer_gate-gate.ensures in
    let b : Bytes s = λ k. (c.slice_known-1.given k).fits in
    nb-open s a.t a.stream e p m r l b _ (came c.in-Ok-Open.is (rw c.in-Ok-Open.is at c.in-Ok-Open.field-0-is) ∙ g) c.places_of-many.ensures c.submit.ensures

pub core_by-c-requires : goal.core_by-c-requires
core_by-c-requires c = c.is_whole-whole.ensures
