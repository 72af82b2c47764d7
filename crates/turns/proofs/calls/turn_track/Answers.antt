-- The turn that is lent no room. Assumes nothing.
use Rattle.turns.proofs.calls.turn_track.Goals as goal

pub returns : goal.returns
returns c = c.traced_track.ensures
