-- Nothing where it was refused, else the track and what was sent. Assumes nothing.
use mathlib.Core.Path.{sym, ap, ◌∙◌}
use mathlib.Core.List.{List}
use Prim.Native.Nat.{ℕ}
use Rattle.ring_store.specs.Private.{sent_over}
use Rattle.ring_store.specs.CallsLaws.{refused_over, written_over}
use Rattle.ring_store.proofs.calls.leave.Goals as goal

pub returns-then-refused : goal.returns-then-refused
returns-then-refused c = let a = c.args in refused_over a.ring.now a.step _ c.word-answer.ensures (sym c.is_refused-refused.ensures ∙ c.if-refused.true)

pub returns : goal.returns
returns c =
    let a = c.args in
    written_over a.ring.now a.step _ c.word-answer.ensures (sym c.is_refused-refused.ensures ∙ c.if-refused.false) _
    (c.put_sent.ensures ∙ ap (λ (l : List ℕ). sent_over l a.step.sent) c.put_track.ensures)
