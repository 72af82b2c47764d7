-- `codes::versions::has_controls` meets its contract. Assumes nothing.
use mathlib.Core.Path.{ap, ◌∙◌}
use mathlib.Core.Bool.{Bool, ◌&&◌}
use lib.Dec.{eqb}
use Rattle.codes.proofs.versions.has_controls.Goals as goal

pub returns : goal.returns
returns c =
    c.both.ensures ∙ ap (λ (t : Bool). eqb c.args.version 0x0103 && t) c.has_ctls.ensures
