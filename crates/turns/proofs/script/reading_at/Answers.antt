-- Three words, and what they say. Assumes nothing.
use Rattle.turns.specs.Script.{reading_at}
use Rattle.turns.proofs.script.reading_at.Goals as goal

pub returns : goal.returns
unfolding reading_at
returns c = rw (c.from_words.ensures, c.get_u32-status.ensures, c.get_u32-slot.ensures, c.get_u32-kind.ensures)
