-- `exchange::nonblocking::set_up_nb` meets its contract. Assumes nothing.
use Rattle.std.proofs.Common.{ap}
use Rattle.std.specs.Prelude.{Ok}
use Rattle.exchange.specs.Types.{XferStep, NbStep}
use Rattle.exchange.specs.declared.nonblocking.NbReply.TheVariants.{Send}
use Rattle.exchange.proofs.nonblocking.set_up_nb.Goals as goal

abbrev step : XferStep → NbStep
step x = record { sound = x.sound; reply = Ok (Send 16) }

pub returns : goal.returns
returns c = (ap step c.set_up-x.ensures.0, c.set_up-x.ensures.1)
