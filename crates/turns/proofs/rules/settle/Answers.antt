-- A completion of which there is a verdict found a slot in flight. Assumes nothing.
use borrow.Author.Rules.{rules}
use Rattle.turns.specs.DecisionLaws.{some_good, some-bad}
use Rattle.turns.proofs.rules.settle.Goals as goal

pub accept-requires : goal.accept-requires
accept-requires c = (search rules, some_good _ _ _ _ c.judge-v.ensures c.in-Good.is, search rules)

pub release-requires : goal.release-requires
release-requires c = (search rules, some-bad _ _ _ _ _ c.judge-v.ensures c.in-Bad.is)

pub returns-in-WrongSlot : goal.returns-in-WrongSlot
returns-in-WrongSlot c = rw (← c.judge-v.ensures, c.in-WrongSlot.is)

pub returns-in-Good : goal.returns-in-Good
returns-in-Good c = rw (c.accept.ensures, ← c.judge-v.ensures, c.in-Good.is)

pub returns-in-Bad : goal.returns-in-Bad
returns-in-Bad c = rw (c.release.ensures, ← c.judge-v.ensures, c.in-Bad.is)
