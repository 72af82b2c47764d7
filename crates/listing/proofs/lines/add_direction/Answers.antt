-- `listing::lines::add_direction` meets its contract, word by word. Assumes nothing.
use borrow.Author.Tests.{ne_eqb}
use Rattle.listing.specs.Listing.{direction_word}
use Rattle.listing.proofs.lines.add_direction.Goals as goal

pub returns-in-0-clause-adds : goal.returns-in-0-clause-adds
unfolding direction_word
returns-in-0-clause-adds c = simp c.in-0.is c.add.ensures

pub returns-in-1-clause-adds : goal.returns-in-1-clause-adds
unfolding direction_word
returns-in-1-clause-adds c = simp c.in-1.is c.add-in-1.ensures

pub returns-in_default-clause-adds : goal.returns-in_default-clause-adds
unfolding direction_word
returns-in_default-clause-adds c =
    let h = c.in_default.in_default-own.rest in
    simp (ne_eqb _ _ h.0.1, ne_eqb _ _ h.1) c.add-in_default.ensures
