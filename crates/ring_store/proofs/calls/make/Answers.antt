-- The track, and then every slot blank. Assumes nothing.
use borrow.Author.Rules.{rules}
use mathlib.Core.Path.{ap, ◌∙◌}
use Rattle.ring_store.specs.Private.{blank_over}
use Rattle.ring_store.specs.CallsLaws.{short, made-blank}
use Rattle.ring_store.proofs.calls.make.Goals as goal

pub returns-then-ring-lt-SIZE : goal.returns-then-ring-lt-SIZE
returns-then-ring-lt-SIZE c = short c.args.ring.now _ (search rules)

pub returns : goal.returns
returns c =
    made-blank c.args.ring.now c.args.t _ (λ k. (c.slice_known-1.given k).fits) c.if-ring-lt-SIZE.false (c.put_blanks.ensures ∙ ap blank_over c.put_track.ensures)
