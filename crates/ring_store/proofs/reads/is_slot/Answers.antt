-- The slot, and then the track. Assumes nothing.
use mathlib.Core.Path.{ap, ◌∙◌}
use borrow.Author.Tests.{lt-ltb, le-ltb}
use Rattle.turns.specs.CallLaws.{both-fails, both_rest}
use Rattle.turns.specs.Consistent.{consistent_of}
use Rattle.ring_store.proofs.reads.is_slot.Goals as goal

pub returns-then-slot-ge32 : goal.returns-then-slot-ge32
returns-then-slot-ge32 c = both-fails _ _ (le-ltb _ 32 c.if-slot-ge32.true)

pub returns : goal.returns
returns c = both_rest _ _ (lt-ltb _ 32 c.if-slot-ge32.false) (c.is_consistent.ensures ∙ ap consistent_of c.short_track-t.ensures)
