-- After i turns i slots are blank. Assumes nothing.
use Rattle.ring_store.specs.StoreLaws.{blank_none, blank-more}
use Rattle.ring_store.proofs.store.put_blanks.Goals as goal

pub loop-i-init : goal.loop-i-init
loop-i-init c = blank_none _

pub loop-i-preserved : goal.loop-i-preserved
loop-i-preserved c = let l = c.loop-i in blank-more _ l.ring _ l.i c.loop-i-test.true l.invariant c.put_slot.ensures
