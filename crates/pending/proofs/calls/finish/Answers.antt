-- `pending::calls::finish` meets its contract: the token alone, then the table. Assumes nothing.
use mathlib.Core.Path.{ap, ◌∙◌}
use Rattle.pending.specs.Types.{Told}
use Rattle.pending.specs.Table.{finish_token, judged_at}
use Rattle.pending.proofs.calls.finish.Goals as goal

pub returns : goal.returns
returns c =
    let a = c.args in
    c.judge.ensures ∙ ap (λ (t : Told). judged_at a.p a.token t) (c.finish_token-freed.ensures ∙ ap finish_token c.token_at-old.ensures)
