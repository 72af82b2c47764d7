-- The calls that look at a store, by what their code does.
-- Assumes nothing.
use Rattle.std.specs.Prelude.{◌≡◌, refl, Bool, true, false, ◌&&◌, List, [], ℕ, ◌+◌, ◌*◌, ◌<◌, length, get_or, take}
use Rattle.std.proofs.Common.{sym, ap, ◌∙◌, zero-add}
use Rattle.std.proofs.lemmas.List.Edits.{sets}
use Rattle.layout.specs.Bytes.{le}
use Rattle.layout.specs.Rows.{rows_bytes}
use Rattle.layout.specs.Lent.{Shown, shown}
use Rattle.layout.specs.BytesLaws.{length-le}
use Rattle.layout.specs.RowsLaws.{rows_bytes-more}
use Rattle.codes.specs.Says.{Says, says, guard}
use Rattle.codes.specs.SaysLaws.{passes, stops}
use Rattle.turns.specs.Consistent.{consistent_of}
use Rattle.turns.specs.Reads.{read_of}
use Rattle.ring_store.specs.Types.{Track}
use Rattle.ring_store.specs.Calls.{words, roomy_in, told_in}

pub unroomy : (s r : List ℕ) (x : Says) → roomy_in s r ≡ false → shown 10 r ≡ told_in s r x
unfolding told_in
unroomy s r x e = stops _ _ _ e refl

roomy : (s r : List ℕ) (x y : Says) → roomy_in s r ≡ true → x ≡ y → shown x.number (sets r 0 (words x.values)) ≡ told_in s r y
unfolding told_in
roomy s r x y e p = passes _ _ _ e (ap (λ (z : Says). shown z.number (sets r 0 (words z.values))) p)

-- an answer with no values stores nothing
pub bare : (s r : List ℕ) (n : ℕ) (x : Says) → roomy_in s r ≡ true → says n [] ≡ x → shown n r ≡ told_in s r x
unfolding rows_bytes
bare s r n x e p = roomy s r (says n []) x e p

-- values stored one after the other, 8 bytes each: none, one more, all
pub words-none : (r vs : List ℕ) → r ≡ sets r 0 (words (take 0 vs))
unfolding rows_bytes
words-none r vs = refl

pub words-more : (r vs r₁ r₂ : List ℕ) (n : ℕ) → n < length vs → r₁ ≡ sets r 0 (words (take n vs)) → r₂ ≡ sets r₁ (n * 8) (le 8 (get_or vs n 0)) → r₂ ≡ sets r 0 (words (take (n + 1) vs))
words-more r vs r₁ r₂ n h e p =
    rows_bytes-more (le 8) 8 (length-le 8) r 0 n vs 0 r₁ r₂ h e (p ∙ ap (λ (k : ℕ). sets r₁ k (le 8 (get_or vs n 0))) (sym (zero-add (n * 8))))

pub tells : (s r n vs : List ℕ) (x : Says) → roomy_in s r ≡ true → n ≡ sets r 0 (words vs) → says 0 vs ≡ x → shown 0 n ≡ told_in s r x
tells s r n vs x e p q = ap (shown 0) p ∙ roomy s r (says 0 vs) x e q

-- ---- from what was told to what is said of the ring

pub told : (s r : List ℕ) (x y : Says) {l : Shown} → x ≡ y → l ≡ told_in s r x → l ≡ told_in s r y
told s r x y e p = p ∙ ap (told_in s r) e

-- a value of a track that was read, where it was found sound
pub read_by : (t u : Track) (sound : Bool) (f : Track → List ℕ) (vs : List ℕ) → t ≡ u → sound ≡ consistent_of t → vs ≡ f t → guard sound (says 1 []) (says 0 vs) ≡ read_of u (f u)
read_by t u sound f vs e c p =
    (λ i. guard (c i) (says 1 []) (says 0 (p i))) ∙ ap (λ (x : Track). read_of x (f x)) e

pub read-barred : (t u : Track) (vs ws : List ℕ) → t ≡ u → consistent_of t ≡ false → guard false (says 1 []) (says 0 vs) ≡ read_of u ws
unfolding guard
read-barred t u vs ws e c = stops _ _ _ (ap consistent_of (sym e) ∙ c) refl

-- one guard for two tests
pub guards : {A : Type 0} (a b : Bool) (x y : A) → guard (a && b) x y ≡ guard a x (guard b x y)
unfolding guard
guards true b x y = refl
guards false b x y = refl
