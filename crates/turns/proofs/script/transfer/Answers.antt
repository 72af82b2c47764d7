-- The script's length, the start, then the loop. Assumes nothing.
use mathlib.Core.Path.{refl, ◌∙◌}
use borrow.Author.Rules.{rules}
use borrow.Author.Tests.{eq-eqb, ne_eqb}
use Rattle.codes.specs.SaysLaws.{passes, stops}
use Rattle.turns.specs.Script.{transfer_of}
use Rattle.turns.specs.ScriptLaws.{not-started, is-started}
use Rattle.turns.proofs.Tags as tags
use Rattle.turns.proofs.script.transfer.Goals as goal

pub returns-then-script-ne0 : goal.returns-then-script-ne0
unfolding transfer_of
returns-then-script-ne0 c = stops _ _ _ (search (rules, ne_eqb)) refl

pub returns-in_default : goal.returns-in_default
unfolding transfer_of
returns-in_default c =
    passes _ _ _ (eq-eqb _ _ c.if-script-ne0.false)
    (not-started _ _ _ _ _ c.start-t.ensures (tags.stops c.start-t.result.said c.in_default.not-Going))

pub returns : goal.returns
unfolding transfer_of
returns c =
    passes _ _ _ (eq-eqb _ _ c.if-script-ne0.false)
    (c.turn_by_turn.ensures ∙ is-started _ _ _ _ _ c.start-t.ensures c.in-Going.is)
