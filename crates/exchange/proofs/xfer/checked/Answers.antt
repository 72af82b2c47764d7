-- `exchange::xfer::checked` meets its contract: the checks, with the stream's parameters. Assumes nothing.
use Rattle.std.proofs.Common.{◌∙◌}
use Rattle.sound_core.specs.Gate.{gate_of}
use Rattle.exchange.proofs.xfer.checked.Goals as goal

pub returns : goal.returns
returns c =
    let a = c.args in
    c.xfer_gate.ensures
    ∙ (λ i. gate_of a.capture a.lengths a.clear a.s.core (c.params_of-params.ensures i) (c.life_of-life.ensures i) (c.direction_of-direction.ensures i) a.t a.stream)
