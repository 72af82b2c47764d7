-- `sound_core::consistency::consistent` meets its contract, by those of its tests. Assumes nothing.
use Rattle.sound_core.specs.Consistent.{consistent_of}
use Rattle.sound_core.proofs.consistency.consistent.Goals as goal

pub returns : goal.returns
unfolding consistent_of
returns c = simp (c.both-2.ensures, c.both.ensures, c.stage_ok.ensures, c.tables_ok-tables.ensures, c.both_or_neither-done.ensures, c.queries_answered-n.ensures)
