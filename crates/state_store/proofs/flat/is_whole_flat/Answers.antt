-- `state_store::flat::is_whole_flat` meets its contract: by whether a call waits. Assumes nothing.
use Rattle.std.proofs.Common.{Bool, ◌&&◌, leb, ap, ◌∙◌, eq-eqb, ne_eqb}
use Rattle.state_store.specs.FlatTestLaws.{whole-none, whole-some}
use Rattle.state_store.proofs.flat.is_whole_flat.Goals as goal

pub returns-then-n-eq0 : goal.returns-then-n-eq0
returns-then-n-eq0 c =
    let a = c.args in
    c.both.ensures ∙ ap (λ (b : Bool). leb a.f.ready 1 && b) c.is_blank.ensures ∙ whole-none a.f (eq-eqb _ 0 c.if-n-eq0.true)

pub returns : goal.returns
returns c =
    let a = c.args in
    c.both-3.ensures
    ∙ ap (λ (b : Bool). leb a.f.ready 1 && b) (c.both-2.ensures ∙ ap (λ (b : Bool). leb a.f.stage 4 && b) c.is_call.ensures)
    ∙ whole-some a.f (ne_eqb _ 0 c.if-n-eq0.false)
