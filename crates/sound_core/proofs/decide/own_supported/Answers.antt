-- `sound_core::decide::own_supported` meets its contract, test by test. Assumes nothing.
use borrow.Author.Tests.{lt-ltb, le-ltb}
use Rattle.codes.specs.SaysLaws.{passes, stops}
use Rattle.sound_core.specs.Plan.{own_supported}
use Rattle.sound_core.proofs.decide.own_supported.Goals as goal

pub returns-then-c-stream : goal.returns-then-c-stream
unfolding own_supported
returns-then-c-stream c = stops _ _ _ (le-ltb _ _ c.if-c-stream.true) c.end_refused.ensures

pub returns : goal.returns
unfolding own_supported
returns c = passes _ _ _ (lt-ltb _ _ c.if-c-stream.false) (simp (c.end.ensures, c.found.ensures))
