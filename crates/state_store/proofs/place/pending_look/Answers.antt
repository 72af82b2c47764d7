-- `state_store::place::pending_look` meets its contract: the store's tables and lifecycles are lent. Assumes nothing.
use Rattle.std.proofs.Common.{◌∙◌}
use Rattle.tables.specs.Tables.{jacks_in, pcms_in}
use Rattle.exchange.specs.Tables.{pending_by}
use Rattle.state_store.specs.PlaceLaws.{tables-part, lives-part}
use Rattle.state_store.proofs.place.pending_look.Goals as goal

pub returns : goal.returns
returns c =
    let t = tables-part c.args.s.now c.requires in
    c.pending_look.ensures ∙ (λ i. pending_by (jacks_in (t i)) (pcms_in (t i)) (lives-part c.args.s.now c.requires i) c.args.stage)
