-- A mode that is none, or the judge of that mode. Assumes nothing.
use mathlib.Core.Path.{refl, ap}
use Rattle.std.specs.Prelude.{Ok}
use Rattle.codes.specs.SaysLaws.{passes, stops}
use Rattle.turns.specs.ConsistentLaws.{mode-facts, mode_small}
use Rattle.turns.specs.CallLaws.{passed, failed}
use Rattle.trace.proofs.course.judge.Goals as goal

pub returns-then-not-mode_ok : goal.returns-then-not-mode_ok
returns-then-not-mode_ok c = stops _ _ _ (failed c.mode_ok.ensures c.if-not-mode_ok.true-raw) refl

pub judged-requires : goal.judged-requires
judged-requires c = (mode_small _ (mode-facts _ (passed c.mode_ok.ensures c.if-not-mode_ok.false-raw))).0

pub returns : goal.returns
returns c = passes _ _ _ (passed c.mode_ok.ensures c.if-not-mode_ok.false-raw) (ap Ok c.judged.ensures)
