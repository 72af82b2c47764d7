-- `listing::lines::line_at` meets its contract: there are no more than 127 streams. Assumes nothing.
use mathlib.Core.Path.{sym, ap, ◌∙◌}
use native.Mathlib.Omega.{arith}
use borrow.Author.Rules.{rules}
use Rattle.listing.specs.Listing.{judged}
use Rattle.listing.specs.ListingLaws.{few}
use Rattle.listing.proofs.lines.line_at.Goals as goal

pub record_line-requires : goal.record_line-requires
record_line-requires c =
    let a = c.args in
    (search rules, omega (arith, few a.n _ a.page.now (ap judged (sym c.in-Ok.is) ∙ c.judge.ensures)))
