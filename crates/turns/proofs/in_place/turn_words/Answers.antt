-- The turn of what the numbers say. Assumes nothing.
use Rattle.turns.specs.InPlace.{turn_words}
use Rattle.turns.proofs.in_place.turn_words.Goals as goal

pub returns : goal.returns
unfolding turn_words
returns c = rw (c.turn_of.ensures, c.from_words-reading.ensures)
