-- The ring, and then the result. Assumes nothing.
use borrow.Author.Rules.{rules}
use mathlib.Core.Path.{refl}
use lib.ListN.{length}
use borrow.Author.Tests.{le-leb, lt-leb}
use Rattle.turns.specs.CallLaws.{both-fails, both_rest}
use Rattle.ring_store.specs.Store.{ring_size}
use Rattle.ring_store.proofs.reads.roomy.Goals as goal

pub returns-then-ring-lt-SIZE : goal.returns-then-ring-lt-SIZE
returns-then-ring-lt-SIZE c = both-fails _ _ (lt-leb ring_size (length c.args.ring.now) (search rules))

pub returns : goal.returns
returns c = both_rest _ _ (le-leb ring_size _ c.if-ring-lt-SIZE.false) refl
