-- A wrong slot frees nothing; the slot that is freed is the oldest. Assumes nothing.
use borrow.Author.Rules.{rules}
use Rattle.codes.specs.SaysLaws.{passes, stops}
use Rattle.turns.specs.RuleLaws.{oldest-facts}
use Rattle.turns.specs.CallLaws.{passed, failed}
use Rattle.turns.proofs.calls.freed.Goals as goal

pub returns-then-not-oldest : goal.returns-then-not-oldest
returns-then-not-oldest c = stops _ _ _ (search (rules, failed)) c.unchanged.ensures

pub release-requires : goal.release-requires
release-requires c = (search rules, (oldest-facts _ _ (passed c.is_oldest-oldest.ensures c.if-not-oldest.false-raw)).0)

pub returns : goal.returns
returns c = passes _ _ _ (search (rules, passed)) (rw c.release.ensures)
