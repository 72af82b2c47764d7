-- Its numbers, and the descriptors of a submission by the flags. Assumes nothing.
use mathlib.Core.Path.{ap}
use mathlib.Core.Bool.{not}
use Prim.Native.Nat.{ℕ}
use lib.Dec.{eqb}
use Rattle.ring_store.proofs.store.track_of.Goals as goal

pub returns : goal.returns
returns c =
    let a = c.args in
    ap (λ (n : ℕ). record { descriptors = n; head = a.head; tail = a.tail; inflight = a.inflight; stream = a.stream; total = a.total; period = a.period; next = a.next; budget = a.budget; turns = a.turns; running = not (eqb a.running 0); capture = not (eqb a.capture 0); lent = a.lent; kept = a.kept; room = a.room; written = a.written; good = a.good }) c.descriptors_of.ensures
