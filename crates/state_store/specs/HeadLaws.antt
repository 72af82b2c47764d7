-- The head is written in two runs: the six counts, then the stage.
-- Assumes nothing.
use Rattle.std.specs.Prelude.{◌≡◌, ℕ, ◌+◌, List, [], ◌∷◌, ◌++◌, length, refl}
use Rattle.std.proofs.Common.{sym, ap, ◌∙◌, append_assoc, zero-add, arith}
use Rattle.std.proofs.lemmas.List.Edits.{sets}
use Rattle.state_store.specs.Places.{flat_place, guard_place}
use Rattle.layout.specs.Bytes.{le}
use Rattle.layout.specs.Layout.{write}
use Rattle.layout.specs.LayoutLaws.{length-write}
use Rattle.layout.specs.StoreLaws.{sets_then}
use Rattle.state_store.specs.Flat.{flat_row, flat_values, flat_of}
use Rattle.state_store.specs.Store.{guard_row, flag, head_row, head_values, head_of}
use Rattle.state_store.specs.Types.{Core, Flat}
use Rattle.state_store.specs.Steps.{counts_row, counts_values}

-- fields that follow fields
write-more : (ws vs us ts : List ℕ) → length vs ≡ length ws → write ws vs ++ write us ts ≡ write (ws ++ us) (vs ++ ts)
write-more [] [] us ts e = refl
write-more [] (v ∷ vs) us ts e = absurd (omega arith)
write-more (w ∷ ws) [] us ts e = absurd (omega arith)
write-more (w ∷ ws) (v ∷ vs) us ts e = append_assoc (le w v) (write ws vs) (write us ts) ∙ ap (λ (l : List ℕ). le w v ++ l) (write-more ws vs us ts (omega arith))

pub core-runs : (s : List ℕ) (c : Core) {f : Flat} {l m n : List ℕ} → f ≡ flat_of c.ready c.stage → l ≡ sets s 0 (write counts_row (counts_values c.counts c.read))
    → m ≡ sets l flat_place (write flat_row (flat_values f)) → n ≡ sets m guard_place (write guard_row (flag c.guard ∷ 0 ∷ [])) → n ≡ sets s 0 (write head_row (head_values (head_of c)))
core-runs s c {f} e p q r =
    let vs = counts_values c.counts c.read in
    let us = flat_values (flat_of c.ready c.stage) in
    let zs : List ℕ = flag c.guard ∷ 0 ∷ [] in
    r
    ∙ (λ i. sets ((q ∙ (λ j. sets (p j) flat_place (write flat_row (flat_values (e j))))) i) guard_place (write guard_row zs))
    ∙ sets_then (sets s 0 (write counts_row vs)) flat_place guard_place (write flat_row us) (write guard_row zs) (sym (ap (λ (k : ℕ). flat_place + k) (length-write flat_row us)))
    ∙ sets_then s 0 flat_place (write counts_row vs) (write flat_row us ++ write guard_row zs) (sym (zero-add (length (write counts_row vs)) ∙ length-write counts_row vs))
    ∙ ap (λ (l : List ℕ). sets s 0 (write counts_row vs ++ l)) (write-more flat_row us guard_row zs refl)
    ∙ ap (sets s 0) (write-more counts_row vs (flat_row ++ guard_row) (us ++ zs) refl)
