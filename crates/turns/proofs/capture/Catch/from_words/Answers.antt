-- The status is read behind the payload. Assumes nothing.
use Rattle.turns.specs.Capture.{catch_of}
use Rattle.turns.proofs.capture.Catch.from_words.Goals as goal

pub returns : goal.returns
unfolding catch_of
returns c = rw (c.from_words-reading.ensures, c.get_u32-status.ensures, c.payload_len-at.ensures)
