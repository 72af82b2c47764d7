-- The reading at 12 times n, or none past the end. Assumes nothing.
use borrow.Author.Rules.{rules}
use mathlib.Core.Path.{◌∙◌}
use Rattle.turns.specs.ScriptLaws.{first_more, first-none}
use Rattle.turns.proofs.script.reading_of.Goals as goal

pub returns-then-n-count : goal.returns-then-n-count
returns-then-n-count c = c.reading_at.ensures ∙ first_more _ _ (search rules)

pub returns : goal.returns
returns c = first-none _ _ (search rules)
