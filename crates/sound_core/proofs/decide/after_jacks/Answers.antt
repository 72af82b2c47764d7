-- `sound_core::decide::after_jacks` meets its contract. Assumes nothing.
use mathlib.Core.Path.{sym, ap, ◌∙◌}
use Rattle.std.specs.Prelude.{not}
use Rattle.codes.specs.SaysLaws.{passes, stops}
use Rattle.sound_core.specs.Plan.{after_jacks}
use Rattle.sound_core.proofs.decide.after_jacks.Goals as goal

pub returns-then-over : goal.returns-then-over
unfolding after_jacks
returns-then-over c = stops _ _ _ (ap not (sym (rw c.number.ensures at c.refused_by-over.ensures) ∙ c.if-over.true)) c.cut_short.ensures

pub returns : goal.returns
unfolding after_jacks
returns c = passes _ _ _ (ap not (sym (rw c.number.ensures at c.refused_by-over.ensures) ∙ c.if-over.false))
    (simp (c.send.ensures, c.query-q.ensures, c.effect_where-effect.ensures, c.count_where.ensures, c.is_good-good.ensures))
