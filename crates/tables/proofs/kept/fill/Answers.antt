-- `tables::kept::fill` meets its contract: the page holds the records and the store has room for them, then the copy. Assumes nothing.
use mathlib.Core.Path.{sym, ◌∙◌}
use native.Mathlib.Omega.{arith}
use borrow.Author.Tests.{not-true, not-false}
use Rattle.tables.specs.TablesLaws.{fits-facts}
use Rattle.tables.specs.FillLaws.{copied-unheld, copied-no-room, copied_all}
use Rattle.tables.proofs.kept.fill.Goals as goal

pub returns-then-not-holds : goal.returns-then-not-holds
returns-then-not-holds c =
    let a = c.args in
    copied-unheld a.at a.size a.count a.page.now a.tables.now (sym c.holds.ensures ∙ not-true _ c.if-not-holds.true-raw)

pub overflow_mul-n : goal.overflow_mul-n
overflow_mul-n c =
    let a = c.args in
    record { fits = omega (arith, fits-facts a.page.now a.count a.size (sym c.holds.ensures ∙ not-false _ c.if-not-holds.false-raw)) }

pub returns-then-not-has_room : goal.returns-then-not-has_room
returns-then-not-has_room c =
    let a = c.args in
    copied-no-room a.at a.size a.count a.page.now a.tables.now (sym c.holds.ensures ∙ not-false _ c.if-not-holds.false-raw) (sym c.has_room.ensures ∙ not-true _ c.if-not-has_room.true-raw)

pub copy-requires : goal.copy-requires
copy-requires c =
    let a = c.args in
    let f = fits-facts a.page.now a.count a.size (sym c.holds.ensures ∙ not-false _ c.if-not-holds.false-raw) in
    omega (arith, f)

pub returns : goal.returns
returns c =
    let a = c.args in
    copied_all a.at a.size a.count a.page.now a.tables.now
    (sym c.holds.ensures ∙ not-false _ c.if-not-holds.false-raw) (sym c.has_room.ensures ∙ not-false _ c.if-not-has_room.false-raw) c.copy.ensures
