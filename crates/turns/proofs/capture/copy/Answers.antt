-- Nothing was accepted, or its bytes are stored behind those before. Assumes nothing.
use borrow.Author.Rules.{rules}
use mathlib.Core.Path.{ap, ◌∙◌}
use lib.Seq.{sets}
use Rattle.turns.specs.CaptureLaws.{copy-nothing}
use Rattle.turns.proofs.capture.copy.Goals as goal

pub returns-then-u-t : goal.returns-then-u-t
returns-then-u-t c =
    let a = c.args in
    copy-nothing a.t a.s a.bytes.now a.recording.now (search rules)

pub returns : goal.returns
returns c =
    let a = c.args in
    c.put_bytes.ensures ∙ ap (sets a.recording.now a.t.kept) c.part-payload.ensures
