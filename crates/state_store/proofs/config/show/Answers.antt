-- `state_store::config::show` meets its contract: the test, then the count. Assumes nothing.
use Rattle.std.proofs.Common.{sym, refl, ap, ◌∙◌}
use borrow.Author.Tests.{not-true, not-false}
use Rattle.codes.specs.SaysLaws.{passes, stops}
use Rattle.layout.specs.Lent.{shown}
use Rattle.state_store.proofs.config.show.Goals as goal

pub returns-then-not-consistent : goal.returns-then-not-consistent
returns-then-not-consistent c = stops _ _ _ (sym c.consistent.ensures ∙ not-true _ c.if-not-consistent.true-raw) refl

pub returns : goal.returns
returns c =
    passes _ _ _ (sym c.consistent.ensures ∙ not-false _ c.if-not-consistent.false-raw) (ap (shown 0) c.put_u64.ensures)
