-- `state_store::head::core_by` meets its contract, by whether the stage is whole. Assumes nothing.
use Rattle.std.proofs.Common.{sym, ◌∙◌}
use Rattle.state_store.proofs.head.core_by.Goals as goal

pub returns-then-whole : goal.returns-then-whole
returns-then-whole c =
    rw (sym c.requires ∙ c.if-whole.true) (cc c.stage_of-stage.ensures)

pub returns : goal.returns
returns c = rw (sym c.requires ∙ c.if-whole.false)
