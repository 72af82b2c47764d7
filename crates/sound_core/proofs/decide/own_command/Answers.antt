-- `sound_core::decide::own_command` meets its contract, test by test. Assumes nothing.
use Rattle.codes.specs.SaysLaws.{passed, failed, passes, stops}
use Rattle.sound_core.specs.Plan.{own_command}
use Rattle.sound_core.proofs.decide.own_command.Goals as goal

pub returns-then-not-there : goal.returns-then-not-there
unfolding own_command
returns-then-not-there c = stops _ _ _ (failed c.held_to-there.ensures c.if-not-there.true-raw) c.end_refused.ensures

pub returns-then-not-permitted : goal.returns-then-not-permitted
unfolding own_command
returns-then-not-permitted c =
    passes _ _ _ (passed c.held_to-there.ensures c.if-not-there.false-raw)
    (stops _ _ _ (failed (rw c.kind_life.ensures at c.may-permitted.ensures) c.if-not-permitted.true-raw) c.end_refused-then-not-permitted.ensures)

pub returns : goal.returns
unfolding own_command
returns c =
    passes _ _ _ (passed c.held_to-there.ensures c.if-not-there.false-raw)
    (passes _ _ _ (passed (rw c.kind_life.ensures at c.may-permitted.ensures) c.if-not-permitted.false-raw) (simp (c.send.ensures, c.kind_code.ensures)))
