-- `exchange::nonblocking::pending_count` meets its contract. Assumes nothing.
use Rattle.std.proofs.Common.{ℕ, ap, ◌∙◌}
use Rattle.exchange.specs.State.{configured_of}
use Rattle.exchange.proofs.nonblocking.pending_count.Goals as goal

pub returns : goal.returns
returns c = c.count_told.ensures ∙ ap (λ (n : ℕ). configured_of c.args.s.core n) c.count-n.ensures
