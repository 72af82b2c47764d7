-- `state_store::place::life_at` meets its contract: the store's lifecycles are lent. Assumes nothing.
use Rattle.std.proofs.Common.{ℕ, List, get_or, ap, ◌∙◌}
use Rattle.state_store.specs.PlaceLaws.{lives-part}
use Rattle.state_store.proofs.place.life_at.Goals as goal

pub returns : goal.returns
returns c =
    c.life_at.ensures ∙ ap (λ (l : List ℕ). get_or l c.args.stream 0) (lives-part c.args.s.now c.requires)
