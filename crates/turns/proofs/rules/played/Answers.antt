-- The status is ok exactly at 0x8000. Assumes nothing.
use mathlib.Core.Path.{sym, ◌∙◌}
use mathlib.Core.Bool.{true, false}
use Rattle.turns.specs.RuleLaws.{played-by}
use Rattle.turns.proofs.rules.played.Goals as goal

pub returns-then-ok : goal.returns-then-ok
returns-then-ok c = played-by _ true (sym c.if-ok.true ∙ c.status_is_ok-ok.ensures)

pub returns-else-ok : goal.returns-else-ok
returns-else-ok c = played-by _ false (sym c.if-ok.false ∙ c.status_is_ok-ok.ensures)
