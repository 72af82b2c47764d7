-- `state_store::calls::open_as` meets its contract: by what the checks come to. Assumes nothing.
use Rattle.std.specs.Prelude.{Ok, Err}
use Rattle.exchange.specs.StepLaws.{came}
use Rattle.std.proofs.Common.{ℕ, sym, ap, ◌∙◌}
use Rattle.state_store.specs.Store.{whole_head}
use Rattle.state_store.specs.Store.{core_of}
use Rattle.state_store.specs.Calls.{opened}
use Rattle.state_store.specs.Steps.{setting_up_by}
use Rattle.state_store.specs.OpenLaws.{gated, shut-short, long-open, set-up-long, opens}
use Rattle.sound_core.specs.declared.gate.Gate.TheVariants as gate
use Rattle.state_store.specs.StoreLaws.{core_at}
use Rattle.pending.specs.Table.{none_in}
use borrow.Author.Tests.{not-true, not-false}
use Rattle.state_store.specs.Types.{BadLength}
use Rattle.state_store.proofs.calls.open_as.Goals as goal

pub returns-then-not-lengths : goal.returns-then-not-lengths
returns-then-not-lengths c =
    let a = c.args in
    opens a.capture a.waiting a.state.now a.message.now a.t a.stream (Err BadLength)
    (shut-short a.capture a.waiting a.state.now a.message.now a.t a.stream (sym c.both-lengths.ensures ∙ not-true _ c.if-not-lengths.true-raw))

pub life_at-life-requires : goal.life_at-life-requires
life_at-life-requires c =
    let a = c.args in
    long-open a.capture a.waiting a.state.now a.message.now a.t a.stream (sym c.both-lengths.ensures ∙ not-false _ c.if-not-lengths.false-raw)

pub direction_at-direction-requires : goal.direction_at-direction-requires
direction_at-direction-requires c =
    let a = c.args in
    long-open a.capture a.waiting a.state.now a.message.now a.t a.stream (sym c.both-lengths.ensures ∙ not-false _ c.if-not-lengths.false-raw)

pub set_up-requires : goal.set_up-requires
set_up-requires c =
    let a = c.args in
    let s = a.state.now in
    let m = a.message.now in
    let t = a.t in
    let stream = a.stream in
    let capture = a.capture in
    let call = a.waiting in
    let g = gated capture call s m t stream c.both-lengths.ensures (c.is_none-clear.ensures ∙ ap none_in c.pending_in.ensures) (c.core_by-c.ensures ∙ ap core_of c.get_head-h.ensures) c.params_at-params.ensures c.life_at-life.ensures c.direction_at-direction.ensures c.xfer_gate-gate.ensures in
    set-up-long capture call s m t stream (came c.in-Ok-SetUp.is (rw c.in-Ok-SetUp.is at c.in-Ok-SetUp.field-0-is) ∙ g)

pub returns-in-Err : goal.returns-in-Err
returns-in-Err c =
    let a = c.args in
    let s = a.state.now in
    let m = a.message.now in
    let t = a.t in
    let stream = a.stream in
    let capture = a.capture in
    let call = a.waiting in
    let g = gated capture call s m t stream c.both-lengths.ensures (c.is_none-clear.ensures ∙ ap none_in c.pending_in.ensures) (c.core_by-c.ensures ∙ ap core_of c.get_head-h.ensures) c.params_at-params.ensures c.life_at-life.ensures c.direction_at-direction.ensures c.xfer_gate-gate.ensures in
    ap (λ (n : ℕ). opened (Err n) s m) c.word.ensures ∙ opens capture call s m t stream (Err _) (sym c.in-Err.is ∙ g)

pub returns-in-Ok-SetUp : goal.returns-in-Ok-SetUp
returns-in-Ok-SetUp c =
    let a = c.args in
    let s = a.state.now in
    let m = a.message.now in
    let t = a.t in
    let stream = a.stream in
    let capture = a.capture in
    let call = a.waiting in
    let g = gated capture call s m t stream c.both-lengths.ensures (c.is_none-clear.ensures ∙ ap none_in c.pending_in.ensures) (c.core_by-c.ensures ∙ ap core_of c.get_head-h.ensures) c.params_at-params.ensures c.life_at-life.ensures c.direction_at-direction.ensures c.xfer_gate-gate.ensures in
    c.set_up.ensures
    ∙ (λ i. setting_up_by ((c.is_whole-whole.ensures ∙ ap whole_head c.get_head-h.ensures) i) ((c.core_by-c.ensures ∙ ap core_of c.get_head-h.ensures ∙ sym (core_at s)) i) s call m)
    ∙ opens capture call s m t stream (Ok gate.SetUp) (came c.in-Ok-SetUp.is (rw c.in-Ok-SetUp.is at c.in-Ok-SetUp.field-0-is) ∙ g)

pub returns-in-Ok-Open : goal.returns-in-Ok-Open
returns-in-Ok-Open c =
    let a = c.args in
    let s = a.state.now in
    let m = a.message.now in
    let t = a.t in
    let stream = a.stream in
    let capture = a.capture in
    let call = a.waiting in
    let g = gated capture call s m t stream c.both-lengths.ensures (c.is_none-clear.ensures ∙ ap none_in c.pending_in.ensures) (c.core_by-c.ensures ∙ ap core_of c.get_head-h.ensures) c.params_at-params.ensures c.life_at-life.ensures c.direction_at-direction.ensures c.xfer_gate-gate.ensures in
    opens capture call s m t stream (Ok (gate.Open _)) (came c.in-Ok-Open.is (rw c.in-Ok-Open.is at c.in-Ok-Open.field-0-is) ∙ g)

pub core_by-c-requires : goal.core_by-c-requires
core_by-c-requires c = c.is_whole-whole.ensures
