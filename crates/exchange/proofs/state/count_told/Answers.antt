-- 0 with the number, or 1. Assumes nothing.
use Rattle.std.proofs.Common.{refl, rules}
use Rattle.codes.specs.SaysLaws.{passes, stops}
use Rattle.codes.specs.SaysLaws.{passed, failed}
use Rattle.exchange.proofs.state.count_told.Goals as goal

pub returns-then-not-sound : goal.returns-then-not-sound
returns-then-not-sound c = stops _ _ _ (search (rules, failed)) refl

pub returns : goal.returns
returns c = passes _ _ _ (search (rules, passed)) refl
