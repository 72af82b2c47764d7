-- `sound_core::decide::after_maps` meets its contract. Assumes nothing.
use mathlib.Core.Path.{sym, ap, ◌∙◌}
use Rattle.std.specs.Prelude.{not}
use Rattle.codes.specs.SaysLaws.{passes, stops}
use Rattle.sound_core.specs.Plan.{after_maps}
use Rattle.sound_core.proofs.decide.after_maps.Goals as goal

pub returns-then-refused_by : goal.returns-then-refused_by
unfolding after_maps
returns-then-refused_by c = stops _ _ _ (ap not (sym (rw c.number.ensures at c.refused_by.ensures) ∙ c.if-refused_by.true)) c.cut_short.ensures

pub returns : goal.returns
unfolding after_maps
returns c = passes _ _ _ (ap not (sym (rw c.number.ensures at c.refused_by.ensures) ∙ c.if-refused_by.false))
    (simp (c.own.ensures, c.effect_where-effect.ensures, c.count_where.ensures, c.is_good-good.ensures))
