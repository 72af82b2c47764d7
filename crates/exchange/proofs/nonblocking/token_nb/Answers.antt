-- `exchange::nonblocking::token_nb` meets its contract. Assumes nothing.
use Rattle.std.proofs.Common.{ap}
use Rattle.std.specs.Prelude.{Ok}
use Rattle.exchange.specs.Types.{Pending}
use Rattle.exchange.specs.Submit.{with_pending}
use Rattle.exchange.specs.declared.nonblocking.NbReply.TheVariants.{Token}
use Rattle.exchange.proofs.nonblocking.token_nb.Goals as goal

pub returns : goal.returns
returns c =
    let a = c.args in
    ap (λ (x : Pending). record { sound = with_pending a.s x; reply = Ok (Token a.k) }) c.hold-pending.ensures
