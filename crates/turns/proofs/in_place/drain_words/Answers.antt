-- The drain turn of what the numbers say. Assumes nothing.
use Rattle.turns.specs.InPlace.{drain_words}
use Rattle.turns.proofs.in_place.drain_words.Goals as goal

pub returns : goal.returns
unfolding drain_words
returns c = rw (c.drain_turn.ensures, c.from_words-reading.ensures)
