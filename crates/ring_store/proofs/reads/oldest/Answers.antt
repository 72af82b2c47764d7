-- Whether any is in flight. Assumes nothing.
use mathlib.Core.Path.{sym}
use mathlib.Core.List.{List, [], ◌∷◌}
use Prim.Native.Nat.{ℕ}
use lib.Dec.{eqb}
use borrow.Author.Tests.{eq-eqb, ne_eqb}
use Rattle.codes.specs.Says.{pick}
use Rattle.codes.specs.SaysLaws.{picks, skips}
use Rattle.ring_store.specs.Types.{Track}
use Rattle.ring_store.specs.ReadsLaws.{told, read_by}
use Rattle.ring_store.proofs.reads.oldest.Goals as goal

abbrev first : Track → List ℕ
first t = pick (eqb t.inflight 0) (0 ∷ 0 ∷ []) (1 ∷ t.tail ∷ [])

pub returns-then-t-eq0 : goal.returns-then-t-eq0
returns-then-t-eq0 c =
    let a = c.args in
    told a.ring.now a.res.now _ _ (read_by _ _ _ first _ c.track-t.ensures c.is_consistent-sound.ensures (sym (picks _ _ _ (eq-eqb _ 0 c.if-t-eq0.true)))) c.tell.ensures

pub returns : goal.returns
returns c =
    let a = c.args in
    told a.ring.now a.res.now _ _ (read_by _ _ _ first _ c.track-t.ensures c.is_consistent-sound.ensures (sym (skips _ _ _ (ne_eqb _ 0 c.if-t-eq0.false)))) c.tell-2.ensures
