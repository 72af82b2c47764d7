-- Each return is a case of rule 1. Assumes nothing.
use borrow.Author.Rules.{rules}
use Rattle.turns.specs.DecisionLaws.{waits-full, submits, finishes, waits}
use Rattle.trace.proofs.rules.choose.Goals as goal

pub returns-then-inflight-t : goal.returns-then-inflight-t
returns-then-inflight-t c = waits-full _ _ (search rules)

pub returns-then-t : goal.returns-then-t
returns-then-t c = submits _ _ (search rules) (search rules)

pub returns-then-inflight-eq0 : goal.returns-then-inflight-eq0
returns-then-inflight-eq0 c = finishes _ _ (search rules) (search rules) (search rules)

pub returns-else-inflight-eq0 : goal.returns-else-inflight-eq0
returns-else-inflight-eq0 c = waits _ _ (search rules) (search rules) (search rules)
