-- "An empty list exactly when the bytes are equal, and applying the list to the first gives the second."
-- Assumes nothing.
use Rattle.std.specs.Prelude.{Bool, true, false, ◌&&◌, List, [], ◌∷◌, ◌++◌, ◌≡◌, refl, ℕ, zero, suc, ◌-◌, ◌≤◌, max, eqb, take, drop}
use Rattle.std.proofs.lemmas.Bool.{false≢true}
use Rattle.std.proofs.Common.{sym, ap, ap₂, ◌∙◌, arith, eqb-true, eq-eqb}
use Rattle.codes.specs.Says.{guard}
use Rattle.trace.specs.Field.{tag_of}
use Rattle.trace.specs.Compare.{numbers_of, alike_of, differences_from, applied_from}
use Rattle.trace.specs.declared.field.Field.TheVariants as field
use Rattle.trace.specs.Types.{Field, Difference, OnlyFirst, OnlySecond, Other}

both : (a b : Bool) → (a && b) ≡ true → (a ≡ true) × (b ≡ true)
both true b e = (refl, e)
both false b e = absurd (false≢true e)

alike_same : (xs ys : List ℕ) → alike_of xs ys ≡ true → xs ≡ ys
alike_same [] [] e = refl
alike_same [] (y ∷ ys) e = absurd (false≢true e)
alike_same (x ∷ xs) [] e = absurd (false≢true e)
alike_same (x ∷ xs) (y ∷ ys) e = let k = both (eqb x y) (alike_of xs ys) e in let p = eqb-true x y k.0 in let q = alike_same xs ys k.1 in λ i. p i ∷ q i

same_alike : (xs : List ℕ) → alike_of xs xs ≡ true
same_alike [] = refl
same_alike (x ∷ xs) = rw (eq-eqb x x refl, same_alike xs)

-- tag and values make a field
abbrev nth : ℕ → List ℕ → ℕ
nth i [] = 0
nth zero (x ∷ xs) = x
nth (suc i) (x ∷ xs) = nth i xs

field-same : (f g : Field) → tag_of f ≡ tag_of g → numbers_of f ≡ numbers_of g → f ≡ g
field-same (field.Start a b c) (field.Start x y z) e v = λ i. field.Start (nth 0 (v i)) (nth 1 (v i)) (nth 2 (v i))
field-same (field.Submitted a b c) (field.Submitted x y z) e v = λ i. field.Submitted (nth 0 (v i)) (nth 1 (v i)) (nth 2 (v i))
field-same (field.Completed a b) (field.Completed x y) e v = λ i. field.Completed (nth 0 (v i)) (nth 1 (v i))
field-same (field.End a) (field.End x) e v = λ i. field.End (nth 0 (v i))
field-same (field.Start a b c) (field.Submitted x y z) e v = absurd (omega arith)
field-same (field.Start a b c) (field.Completed x y) e v = absurd (omega arith)
field-same (field.Start a b c) (field.End x) e v = absurd (omega arith)
field-same (field.Submitted a b c) (field.Start x y z) e v = absurd (omega arith)
field-same (field.Submitted a b c) (field.Completed x y) e v = absurd (omega arith)
field-same (field.Submitted a b c) (field.End x) e v = absurd (omega arith)
field-same (field.Completed a b) (field.Start x y z) e v = absurd (omega arith)
field-same (field.Completed a b) (field.Submitted x y z) e v = absurd (omega arith)
field-same (field.Completed a b) (field.End x) e v = absurd (omega arith)
field-same (field.End a) (field.Start x y z) e v = absurd (omega arith)
field-same (field.End a) (field.Submitted x y z) e v = absurd (omega arith)
field-same (field.End a) (field.Completed x y) e v = absurd (omega arith)

-- ---- a list that begins at a position or later

abbrev Begins : ℕ → List Difference → Type 0
Begins i [] = Unit {0}
Begins i (OnlyFirst p f ∷ ds) = i ≤ p
Begins i (OnlySecond p f ∷ ds) = i ≤ p
Begins i (Other p f g ∷ ds) = i ≤ p

later : (i : ℕ) (ds : List Difference) → Begins (suc i) ds → Begins i ds
later i [] h = tt
later i (OnlyFirst p f ∷ ds) h = omega arith
later i (OnlySecond p f ∷ ds) h = omega arith
later i (Other p f g ∷ ds) h = omega arith

pair-begins : (i : ℕ) (f g : Field) (ds : List Difference) (a b : Bool) → Begins i ds → Begins i (guard a (OnlyFirst i f ∷ OnlySecond i g ∷ ds) (guard b (Other i f g ∷ ds) ds))
unfolding guard
pair-begins i f g ds true true h = h
pair-begins i f g ds true false h = omega arith
pair-begins i f g ds false b h = omega arith

begins : (i : ℕ) (fs gs : List Field) → Begins i (differences_from i fs gs)
unfolding differences_from
begins i [] [] = tt
begins i [] (g ∷ gs) = omega arith
begins i (f ∷ fs) [] = omega arith
begins i (f ∷ fs) (g ∷ gs) = pair-begins i f g (differences_from (suc i) fs gs) (eqb (tag_of f) (tag_of g)) (alike_of (numbers_of f) (numbers_of g)) (later i (differences_from (suc i) fs gs) (begins (suc i) fs gs))

-- a field that the list does not name stays
stays : (i : ℕ) (f : Field) (fs : List Field) (ds : List Difference) → Begins (suc i) ds → applied_from i ds (f ∷ fs) ≡ f ∷ applied_from (suc i) ds fs
unfolding applied_from
stays i f fs [] h = refl
stays i f fs (OnlyFirst p x ∷ ds) h =
    let e : p - i ≡ suc (p - suc i) = omega arith in
    ap (λ (n : ℕ). take n (f ∷ fs) ++ applied_from (suc p) ds (drop (suc n) (f ∷ fs))) e
stays i f fs (OnlySecond p x ∷ ds) h =
    let e : p - i ≡ suc (p - suc i) = omega arith in
    let m : max i p ≡ max (suc i) p = omega arith in
    ap (λ (n : ℕ). take n (f ∷ fs) ++ (x ∷ applied_from (max i p) ds (drop n (f ∷ fs)))) e
    ∙ ap (λ (n : ℕ). f ∷ (take (p - suc i) fs ++ (x ∷ applied_from n ds (drop (p - suc i) fs)))) m
stays i f fs (Other p x y ∷ ds) h =
    let e : p - i ≡ suc (p - suc i) = omega arith in
    ap (λ (n : ℕ). take n (f ∷ fs) ++ (y ∷ applied_from (suc p) ds (drop (suc n) (f ∷ fs)))) e

none-taken : (n : ℕ) → take {A = Field} n [] ≡ []
none-taken zero = refl
none-taken (suc n) = refl

none_left : (n : ℕ) → drop {A = Field} n [] ≡ []
none_left zero = refl
none_left (suc n) = refl

-- a first that has ended
grows : (i j : ℕ) (gs : List Field) → applied_from i (differences_from j [] gs) [] ≡ gs
unfolding applied_from differences_from
grows i j [] = refl
grows i j (g ∷ gs) =
    ap (λ (l : List Field). l ++ (g ∷ applied_from (max i j) (differences_from (suc j) [] gs) (drop (j - i) []))) (none-taken (j - i))
    ∙ ap (λ (l : List Field). g ∷ applied_from (max i j) (differences_from (suc j) [] gs) l) (none_left (j - i))
    ∙ ap (λ (l : List Field). g ∷ l) (grows (max i j) (suc j) gs)

pair-applied : (i : ℕ) (f g : Field) (fs gs : List Field) (ds : List Difference) (a b : Bool) → eqb (tag_of f) (tag_of g) ≡ a → alike_of (numbers_of f) (numbers_of g) ≡ b → Begins (suc i) ds
    → applied_from (suc i) ds fs ≡ gs → applied_from i (guard a (OnlyFirst i f ∷ OnlySecond i g ∷ ds) (guard b (Other i f g ∷ ds) ds)) (f ∷ fs) ≡ g ∷ gs
unfolding guard applied_from
pair-applied i f g fs gs ds true true a b h ih =
    let same = field-same f g (eqb-true _ _ a) (alike_same (numbers_of f) (numbers_of g) b) in
    stays i f fs ds h ∙ ap₂ (λ (x : Field) (l : List Field). x ∷ l) same ih
pair-applied i f g fs gs ds true false a b h ih =
    let e : i - i ≡ 0 = omega arith in
    ap (λ (n : ℕ). take n (f ∷ fs) ++ (g ∷ applied_from (suc i) ds (drop (suc n) (f ∷ fs)))) e ∙ ap (λ (l : List Field). g ∷ l) ih
pair-applied i f g fs gs ds false b a c h ih =
    let e : i - i ≡ 0 = omega arith in
    let d : i - suc i ≡ 0 = omega arith in
    let m : max (suc i) i ≡ suc i = omega arith in
    ap (λ (n : ℕ). take n (f ∷ fs) ++ applied_from (suc i) (OnlySecond i g ∷ ds) (drop (suc n) (f ∷ fs))) e
    ∙ ap (λ (n : ℕ). take n fs ++ (g ∷ applied_from (max (suc i) i) ds (drop n fs))) d
    ∙ ap (λ (n : ℕ). g ∷ applied_from n ds fs) m
    ∙ ap (λ (l : List Field). g ∷ l) ih

-- APPLYING THE LIST TO THE FIRST GIVES THE SECOND
pub applied : (i : ℕ) (fs gs : List Field) → applied_from i (differences_from i fs gs) fs ≡ gs
unfolding applied_from differences_from
applied i [] gs = grows i i gs
applied i (f ∷ fs) [] =
    let e : i - i ≡ 0 = omega arith in
    ap (λ (n : ℕ). take n (f ∷ fs) ++ applied_from (suc i) (differences_from (suc i) fs []) (drop (suc n) (f ∷ fs))) e ∙ applied (suc i) fs []
applied i (f ∷ fs) (g ∷ gs) =
    pair-applied i f g fs gs (differences_from (suc i) fs gs) (eqb (tag_of f) (tag_of g)) (alike_of (numbers_of f) (numbers_of g)) refl refl (begins (suc i) fs gs) (applied (suc i) fs gs)

-- AN EMPTY LIST EXACTLY WHEN THEY ARE THE SAME
pub empty-same : (i : ℕ) (fs gs : List Field) → differences_from i fs gs ≡ [] → fs ≡ gs
unfolding applied_from
empty-same i fs gs e = ap (λ (ds : List Difference). applied_from i ds fs) (sym e) ∙ applied i fs gs

pub same-empty : (i : ℕ) (fs : List Field) → differences_from i fs fs ≡ []
unfolding differences_from guard
same-empty i [] = refl
same-empty i (f ∷ fs) = rw (eq-eqb (tag_of f) (tag_of f) refl, same_alike (numbers_of f)) (same-empty (suc i) fs)
