-- `state_store::config::chmaps` meets its contract: the lengths, then the count. Assumes nothing.
use Rattle.std.proofs.Common.{sym, ap, ◌∙◌}
use borrow.Author.Tests.{not-true, not-false}
use Rattle.state_store.specs.Store.{core_of}
use Rattle.state_store.specs.Calls.{map_count}
use Rattle.state_store.specs.NewLaws.{count-unread, counted}
use Rattle.state_store.proofs.config.chmaps.Goals as goal

pub returns-then-not-both : goal.returns-then-not-both
returns-then-not-both c =
    let a = c.args in
    count-unread a.state.now a.res.now map_count (sym c.both.ensures ∙ not-true _ c.if-not-both.true-raw)

pub returns : goal.returns
returns c =
    let a = c.args in
    c.show.ensures
    ∙ counted a.state.now a.res.now map_count (sym c.both.ensures ∙ not-false _ c.if-not-both.false-raw) (c.core_of-c.ensures ∙ ap core_of c.get_head.ensures)
