-- A record's code reads or stores its fields one after the other. Its proof is the list of what each call ensured, in the layout's order:
-- `get e₁ (get e₂ .. end)` or `put e₁ (put e₂ .. end)`.
-- Assumes nothing.
use Rattle.std.specs.Prelude.{◌≡◌, refl, List, [], ◌∷◌, ◌++◌, ℕ, ◌+◌, ◌≤◌, length, drop}
use Rattle.std.proofs.Common.{sym, ap, ap₂, ◌∙◌, zero-add}
use Rattle.std.proofs.lemmas.List.Edits.{sets, sets-eq}
use Rattle.layout.specs.Bytes.{le, num_at}
use Rattle.layout.specs.Layout.{size, write, read_at}
use Rattle.layout.specs.BytesLaws.{length-le}
use Rattle.layout.specs.LayoutLaws.{length-write}
use Rattle.layout.specs.StoreLaws.{sets_then}

-- the values were read in s at the layout's places, from o on
pub data Got (s : List ℕ) : ℕ → List ℕ → List ℕ → Type 0 where
  end : {o : ℕ} → Got s o [] []
  get : {o w v : ℕ} {ws vs : List ℕ} → v ≡ num_at o w s → Got s (o + w) ws vs → Got s o (w ∷ ws) (v ∷ vs)

pub got : (s : List ℕ) (o : ℕ) (ws vs : List ℕ) → Got s o ws vs → vs ≡ read_at o ws s
got s o [] [] Got.end = refl
got s o [] (v ∷ vs) e = elim e [ ]
got s o (w ∷ ws) [] e = elim e [ ]
got s o (w ∷ ws) (v ∷ vs) (Got.get e g) = ap₂ (λ (x : ℕ) (y : List ℕ). x ∷ y) e (got s (o + w) ws vs g)

-- n is l after the values were stored at the layout's places, from o on
pub data Stored (n : List ℕ) : List ℕ → ℕ → List ℕ → List ℕ → Type 0 where
  end : {o : ℕ} → Stored n n o [] []
  put : {l m : List ℕ} {o w v : ℕ} {ws vs : List ℕ} → m ≡ sets l o (le w v) → Stored n m (o + w) ws vs → Stored n l o (w ∷ ws) (v ∷ vs)

pub stored : (n l : List ℕ) (o : ℕ) (ws vs : List ℕ) → Stored n l o ws vs → n ≡ sets l o (write ws vs)
stored n l o [] [] Stored.end = refl
stored n l o [] (v ∷ vs) e = elim e [ ]
stored n l o (w ∷ ws) [] e = elim e [ ]
stored n l o (w ∷ ws) (v ∷ vs) (Stored.put {m = m} e s) =
    stored n m (o + w) ws vs s
    ∙ ap (λ (k : List ℕ). sets k (o + w) (write ws vs)) e
    ∙ sets_then l o (o + w) (le w v) (write ws vs) (ap (λ (k : ℕ). o + k) (sym (length-le w v)))

-- a record that is stored at the front changes only its own bytes
pub stored-front : (n l ws vs : List ℕ) → size ws ≤ length l → Stored n l 0 ws vs → n ≡ write ws vs ++ drop (size ws) l
stored-front n l ws vs h s =
    let e : 0 + length (write ws vs) ≡ size ws = zero-add (length (write ws vs)) ∙ length-write ws vs in
    stored n l 0 ws vs s
    ∙ sets-eq (write ws vs) l 0 (rw e h)
    ∙ ap (λ (k : ℕ). write ws vs ++ drop k l) e
