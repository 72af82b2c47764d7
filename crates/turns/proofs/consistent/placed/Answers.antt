-- The last test decides once the others passed; each of them refutes the whole where it fails. Assumes nothing.
use native.Mathlib.Omega.{arith}
use borrow.Author.Tests.{ltb-true, leb-true, leb-false}
use Rattle.turns.specs.ConsistentLaws.{refuted, mode-facts, mode-true, placed-facts, few, placed-last}
use mathlib.Core.Logic.{inl, inr}
use mathlib.Core.Bool.{false≢true}
use mathlib.Core.Path.{sym, ◌∙◌, refl}
use Prim.Native.Nat.{◌<◌}
use Rattle.turns.proofs.consistent.placed.Goals as goal
use Rattle.turns.proofs.consistent.placed.Goals.{then-mode_ok, else-mode_ok, then-t-lt32, else-t-lt32}

pub returns-then-t : goal.returns-then-t
returns-then-t c =
    let t = c.args.t in
    elim c.if-t-lt32.branch [
      | then-t-lt32 w ↦ placed-last t _ (mode-facts _ (sym c.mode_ok.ensures ∙ w.if-t-lt32.true.0)) w.if-t-lt32.true.1 (leb-true _ _ (sym w.value-is ∙ c.if-t.true)) refl
      | else-t-lt32 w ↦ elim c.if-mode_ok.branch [
        | then-mode_ok v ↦ let l : t.tail < 32 = ltb-true t.tail 32 (sym v.t-4-is ∙ sym w.value-is ∙ c.if-t.true) in elim w.if-t-lt32.either [ inl p ↦ absurd (omega arith) | inr q ↦ absurd cc ]
        | else-mode_ok v ↦ absurd cc
      ]
    ]

pub returns-else-t : goal.returns-else-t
returns-else-t c =
    let t = c.args.t in
    c.if-t.false ∙ elim c.if-t-lt32.branch [
      | then-t-lt32 w ↦ refuted _ (λ e. let p = few _ (placed-facts t e) in let m = leb-false _ _ (sym w.value-is ∙ c.if-t.false) in omega (arith, p, m))
      | else-t-lt32 w ↦ elim w.if-t-lt32.either [
        | inl p ↦ refuted _ (λ e. let q = placed-facts t e in omega (arith, q))
        | inr q ↦ refuted _ (λ e. false≢true (sym q ∙ c.mode_ok.ensures ∙ mode-true _ (placed-facts t e).mode))
      ]
    ]
