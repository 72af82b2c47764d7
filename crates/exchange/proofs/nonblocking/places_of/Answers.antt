-- `exchange::nonblocking::places_of` meets its contract. Assumes nothing.
use Rattle.std.proofs.Common.{sym, eq-eqb, ne_eqb}
use Rattle.codes.specs.SaysLaws.{picks, skips}
use Rattle.exchange.specs.Submit.{places_of}
use Rattle.exchange.proofs.nonblocking.places_of.Goals as goal

pub returns-then-descriptors-eq-INDIRECT : goal.returns-then-descriptors-eq-INDIRECT
unfolding places_of
returns-then-descriptors-eq-INDIRECT c = sym (picks _ 32 16 (eq-eqb _ _ c.if-descriptors-eq-INDIRECT.true))

pub returns-else-descriptors-eq-INDIRECT : goal.returns-else-descriptors-eq-INDIRECT
unfolding places_of
returns-else-descriptors-eq-INDIRECT c = sym (skips _ 32 16 (ne_eqb _ _ c.if-descriptors-eq-INDIRECT.false))
