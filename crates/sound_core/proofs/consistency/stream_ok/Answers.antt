-- `sound_core::consistency::stream_ok` meets its contract, by those of its tests. Assumes nothing.
use Rattle.sound_core.specs.Consistent.{stream_ok}
use Rattle.sound_core.proofs.consistency.stream_ok.Goals as goal

pub returns : goal.returns
unfolding stream_ok
returns c = simp (c.either.ensures, c.params_ok.ensures, c.both-looked.ensures)
