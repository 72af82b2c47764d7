-- A chain of refusals, then the drain turn. Assumes nothing.
use borrow.Author.Rules.{rules}
use Rattle.codes.specs.SaysLaws.{passes, stops}
use Rattle.turns.specs.ConsistentLaws.{consistent-facts}
use Rattle.turns.specs.Calls.{drain_call}
use Rattle.turns.specs.CallLaws.{passed, failed}
use Rattle.turns.proofs.calls.drain_track.Goals as goal

pub returns-then-not-is_consistent : goal.returns-then-not-is_consistent
unfolding drain_call
returns-then-not-is_consistent c = stops _ _ _ (search (rules, failed)) c.refused.ensures

pub returns-then-t : goal.returns-then-t
unfolding drain_call
returns-then-t c = passes _ _ _ (search (rules, passed)) (passes _ _ _ (search rules) c.refused-then-t.ensures)

pub drained-requires : goal.drained-requires
drained-requires c = (consistent-facts _ (passed c.is_consistent.ensures c.if-not-is_consistent.false-raw)).placed.tail-in

pub returns : goal.returns
unfolding drain_call
returns c = passes _ _ _ (search (rules, passed)) (stops _ _ _ (search rules) c.drained.ensures)
