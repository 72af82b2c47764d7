-- `exchange::effect::life_at` meets its contract: past the end there is 0. Assumes nothing.
use Rattle.std.proofs.Common.{◌∙◌}
use Rattle.layout.specs.BytesLaws.{num_at-one}
use Rattle.exchange.proofs.effect.life_at.Goals as goal

pub returns : goal.returns
returns c = c.get_u8.ensures ∙ num_at-one _ _
