-- `layout::copy` meets its contract: a byte at a time. Assumes nothing.
use Rattle.std.proofs.Common.{◌≡◌, ◌<◌, ◌+◌, ℕ, List, [], ◌∷◌, length, take, get_or, set, length-set, sym, ap, ◌∙◌, le_of_lt, arith, add-one}
use Rattle.std.proofs.lemmas.List.Edits.{sets}
use lib.Seq.{take-suc, length-take-le}
use Rattle.layout.specs.StoreLaws.{sets_then}
use Rattle.layout.proofs.copy.Goals as goal

-- one byte more
more : (l b out : List ℕ) (at i : ℕ) → i < length b → out ≡ sets l at (take i b) → set out (at + i) (get_or b i 0) ≡ sets l at (take (i + 1) b)
more l b out at i h e =
    ap (λ (k : List ℕ). sets k (at + i) (get_or b i 0 ∷ [])) e
    ∙ sets_then l at (at + i) (take i b) (get_or b i 0 ∷ []) (ap (λ (k : ℕ). at + k) (sym (length-take-le i b (le_of_lt h))))
    ∙ ap (sets l at) (sym (take-suc b i 0 h) ∙ ap (λ (k : ℕ). take k b) (sym (add-one i)))

pub loop-i-preserved : goal.loop-i-preserved
loop-i-preserved c =
    let a = c.args in
    let l = c.loop-i in
    let k : l.i < length a.from.now = omega arith in
    (length-set l.out (a.at + l.i) (get_or a.from.now l.i 0) ∙ l.invariant.0, more a.out.now a.from.now l.out a.at l.i k l.invariant.1)
