-- `exchange::xfer::pcm_xfer` meets its contract: by what the checks come to. Assumes nothing.
use Rattle.std.proofs.Common.{false, sym, refl, ◌∙◌, leb-true}
use Rattle.exchange.specs.StepLaws.{came, set-up-long, run-by, xfer-says, replied}
use Rattle.turns.specs.ConsistentLaws.{both}
use Rattle.exchange.proofs.xfer.pcm_xfer.Goals as goal

pub set_up-requires : goal.set_up-requires
set_up-requires c = leb-true _ _ (both _ _ (sym c.both-lengths.ensures ∙ set-up-long false _ _ c.args.s _ c.args.stream (came c.in-Ok-SetUp.is (rw c.in-Ok-SetUp.is at c.in-Ok-SetUp.field-0-is) ∙ c.checked-outcome.ensures))).0

pub returns-in-Err : goal.returns-in-Err
returns-in-Err c =
    let a = c.args in
    replied a.s a.stream a.message.now c.refused.ensures
    (run-by a.s a.ring a.stream _ a.budget a.script.now _ _ _ _ c.is_none-clear.ensures c.both-lengths.ensures (sym c.in-Err.is ∙ c.checked-outcome.ensures)) (xfer-says a.s a.ring a.stream _ a.budget a.script.now _) refl

pub returns-in-Ok-SetUp : goal.returns-in-Ok-SetUp
returns-in-Ok-SetUp c =
    let a = c.args in
    replied a.s a.stream a.message.now c.set_up.ensures.0
    (run-by a.s a.ring a.stream _ a.budget a.script.now _ _ _ _ c.is_none-clear.ensures c.both-lengths.ensures (came c.in-Ok-SetUp.is (rw c.in-Ok-SetUp.is at c.in-Ok-SetUp.field-0-is) ∙ c.checked-outcome.ensures)) (xfer-says a.s a.ring a.stream _ a.budget a.script.now _) c.set_up.ensures.1

pub returns-in-Ok-Open : goal.returns-in-Ok-Open
returns-in-Ok-Open c =
    let a = c.args in
    replied a.s a.stream a.message.now (simp (c.ended.ensures, c.transfer-d.ensures))
    (run-by a.s a.ring a.stream _ a.budget a.script.now _ _ _ _ c.is_none-clear.ensures c.both-lengths.ensures (came c.in-Ok-Open.is (rw c.in-Ok-Open.is at c.in-Ok-Open.field-0-is) ∙ c.checked-outcome.ensures)) (xfer-says a.s a.ring a.stream _ a.budget a.script.now _) refl
