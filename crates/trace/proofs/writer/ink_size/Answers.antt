-- Three parts, and the start before the first turn. Assumes nothing.
use Rattle.trace.specs.InkLaws.{ink-first, ink-later}
use Rattle.trace.proofs.writer.ink_size.Goals as goal

pub returns-then-t-eq0 : goal.returns-then-t-eq0
returns-then-t-eq0 c =
    let a = c.args in
    ink-first a.t a.s _ _ _ c.sent_size-a.ensures c.heard_size-b.ensures c.said_size-c.ensures c.if-t-eq0.true

pub returns : goal.returns
returns c =
    let a = c.args in
    ink-later a.t a.s _ _ _ c.sent_size-a.ensures c.heard_size-b.ensures c.said_size-c.ensures c.if-t-eq0.false
