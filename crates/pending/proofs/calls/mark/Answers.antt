-- `pending::calls::mark` meets its contract: the token alone, then the table. Assumes nothing.
use mathlib.Core.Path.{ap, ◌∙◌}
use Rattle.pending.specs.Types.{Token, Told}
use Rattle.pending.specs.Table.{mark_token, judged_at}
use Rattle.pending.proofs.calls.mark.Goals as goal

pub returns : goal.returns
returns c =
    let a = c.args in
    c.judge.ensures ∙ ap (λ (t : Told). judged_at a.p a.token t) (c.mark_token-told.ensures ∙ ap (λ (t : Token). mark_token t a.status) c.token_at-t.ensures)
