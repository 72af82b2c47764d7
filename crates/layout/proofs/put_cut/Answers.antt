-- `layout::put_cut` meets its contract: past the end, within the slice, or across its end. Assumes nothing.
use Rattle.std.proofs.Common.{rules, ◌≡◌, ◌<◌, ◌+◌, ℕ, List, [], ◌∷◌, length, take, get_or, sym, ap, ◌∙◌, le_of_lt, add-one}
use Rattle.std.proofs.lemmas.List.Edits.{sets}
use lib.Seq.{take-suc, length-take-le}
use native.Mathlib.Nat.{mod-eq_of_lt}
use Rattle.layout.specs.Bytes.{le}
use Rattle.layout.specs.StoreLaws.{sets_then}
use Rattle.layout.proofs.put_cut.Goals as goal

-- one byte more
more : (l b out after : List ℕ) (at i : ℕ) → i < length b → get_or b i 0 < 256 → out ≡ sets l at (take i b) → after ≡ sets out (at + i) (le 1 (get_or b i 0)) → after ≡ sets l at (take (i + 1) b)
unfolding le
more l b out after at i h v e p =
    p
    ∙ (λ j. sets (e j) (at + i) (mod-eq_of_lt v j ∷ []))
    ∙ sets_then l at (at + i) (take i b) (get_or b i 0 ∷ []) (ap (λ (k : ℕ). at + k) (sym (length-take-le i b (le_of_lt h))))
    ∙ ap (sets l at) (sym (take-suc b i 0 h) ∙ ap (λ (k : ℕ). take k b) (sym (add-one i)))

pub loop-i-preserved : goal.loop-i-preserved
loop-i-preserved c =
    let a = c.args in
    let l = c.loop-i in
    let v : get_or a.bytes.now l.i 0 < 256 = (c.type_inv.bytes l.i).fits in
    (c.put_u8.auto.out ∙ l.invariant.0, more a.out.now a.bytes.now l.out _ a.at l.i (search rules) v l.invariant.1 c.put_u8.ensures)
