-- Strict mode: written in full, or as far as it is read, a page is judged as before; and no byte that was not written is looked at.
-- Assumes nothing.
use Rattle.std.specs.Prelude.{◌≡◌, refl, Bool, true, false, ◌&&◌, List, ◌⊎◌, ℕ, ◌+◌, ◌*◌, ◌≤◌, ◌<◌, eqb, length, None, Some, Ok, Err}
use Rattle.std.proofs.Math.Path.{sym, ap}
use Rattle.std.proofs.Common.{◌∙◌, inl, inr, zero-add, arith}
use Rattle.std.proofs.lemmas.Bool.{false≢true}
use Rattle.std.proofs.Math.Dec.{leb}
use Rattle.std.proofs.lemmas.List.Edits.{sets}
use borrow.Author.Tests.{le-leb, lt-leb, leb-true, leb-false, eq-eqb, eqb-true}
use Rattle.layout.specs.Lent.{page_size}
use Rattle.layout.specs.Bytes.{bytes_at, num_at}
use Rattle.layout.specs.BytesLaws.{bytes_at-own, num_at-own}
use Rattle.codes.specs.Says.{pick, guard}
use Rattle.codes.specs.SaysLaws.{passes, stops}
use Rattle.codes.specs.Answers.{says_refusal}
use Rattle.codes.specs.declared.answers.Refusal.TheVariants.{TooMany, BadLength, Short}
use Rattle.tables.specs.Tables.{Verdict, page_ok, judged, copied_in}
use Rattle.tables.specs.declared.verdict.Fault.TheVariants.{Status, Refused}

-- THE OLD READING, word for word as it was, is the one in which a page counts as written in full
pub in-full : (page : List ℕ) (n bytes : ℕ) → judged None page n bytes
    ≡ guard (eqb (length page) page_size) (Err (Refused BadLength)) (guard (eqb (num_at 0 4 page) 0x8000) (Err (Status (num_at 0 4 page))) (guard (leb (4 + n * bytes) page_size) (Err (Refused TooMany)) (Ok tt)))
unfolding judged guard
in-full page n bytes = refl

-- WRITTEN AS FAR AS IT IS READ it is the old reading
enough-by : (l b p h f c : Bool) (x : ℕ) → b ≡ true → p ≡ true → (h ≡ true → f ≡ true → c ≡ true)
    → guard {A = Verdict} (l && b) (Err (Refused BadLength)) (guard p (Err (Refused Short)) (guard h (Err (Status x)) (guard f (Err (Refused TooMany)) (guard c (Err (Refused Short)) (Ok tt)))))
    ≡ guard {A = Verdict} l (Err (Refused BadLength)) (guard true (Err (Refused Short)) (guard h (Err (Status x)) (guard f (Err (Refused TooMany)) (guard true (Err (Refused Short)) (Ok tt)))))
unfolding guard
enough-by true true true true true true x k m e = refl
enough-by true true true true true false x k m e = absurd (false≢true (e refl refl))
enough-by true true true true false c x k m e = refl
enough-by true true true false f c x k m e = refl
enough-by true true false h f c x k m e = absurd (false≢true m)
enough-by true false p h f c x k m e = absurd (false≢true k)
enough-by false b p h f c x k m e = refl

pub enough : (w : ℕ) (page : List ℕ) (n bytes : ℕ) → 4 ≤ w → w ≤ page_size → (num_at 0 4 page ≡ 0x8000 → 4 + n * bytes ≤ page_size → 4 + n * bytes ≤ w)
    → judged (Some w) page n bytes ≡ judged None page n bytes
unfolding judged
enough w page n bytes a b e =
    enough-by (eqb (length page) page_size) (leb w page_size) (leb 4 w) (eqb (num_at 0 4 page) 0x8000) (leb (4 + n * bytes) page_size) (leb (4 + n * bytes) w) (num_at 0 4 page)
    (le-leb w page_size b) (le-leb 4 w a) (λ h f. le-leb _ _ (e (eqb-true _ _ h) (leb-true _ _ f)))

pub full : (page : List ℕ) (n bytes : ℕ) → judged (Some 4096) page n bytes ≡ judged None page n bytes
full page n bytes = enough 4096 page n bytes (omega arith) (omega arith) (λ _ f. f)

-- TRUST ONLY WHAT WAS WRITTEN: two pages that agree in the bytes written are judged alike, and fill a table alike
module _ (w : ℕ) (p q : List ℕ) (l : length p ≡ length q) (e : bytes_at 0 w p ≡ bytes_at 0 w q) where
  alike : (o n : ℕ) → o + n ≤ w → bytes_at o n p ≡ bytes_at o n q
  alike o n h =
      ap (λ (k : ℕ). bytes_at k n p) (sym (zero-add o)) ∙ sym (bytes_at-own o 0 n w p h) ∙ ap (bytes_at o n) e ∙ bytes_at-own o 0 n w q h ∙ ap (λ (k : ℕ). bytes_at k n q) (zero-add o)

  abbrev rest : ℕ → ℕ → ℕ → Verdict
  rest n bytes x = guard (eqb x 0x8000) (Err (Status x)) (guard (leb (4 + n * bytes) page_size) (Err (Refused TooMany)) (guard (leb (4 + n * bytes) w) (Err (Refused Short)) (Ok tt)))

  rest-alike : (a : Bool) (n bytes x y : ℕ) → (a ≡ true → x ≡ y) → guard a (Err (Refused Short)) (rest n bytes x) ≡ guard a (Err (Refused Short)) (rest n bytes y)
  rest-alike true n bytes x y f = ap (λ (z : ℕ). guard true (Err (Refused Short)) (rest n bytes z)) (f refl)
  rest-alike false n bytes x y f = stops false _ _ refl (sym (stops false _ _ refl refl))

  pub judged-alike : (n bytes : ℕ) → judged (Some w) p n bytes ≡ judged (Some w) q n bytes
  unfolding judged
  judged-alike n bytes =
      ap (λ (k : ℕ). guard (eqb k page_size && leb w page_size) (Err (Refused BadLength)) (guard (leb 4 w) (Err (Refused Short)) (rest n bytes (num_at 0 4 p)))) l
      ∙ ap (guard (eqb (length q) page_size && leb w page_size) (Err (Refused BadLength)))
      (rest-alike (leb 4 w) n bytes (num_at 0 4 p) (num_at 0 4 q) (λ a. let h : 4 ≤ w = leb-true 4 w a in sym (num_at-own 0 4 w p h) ∙ ap (num_at 0 4) e ∙ num_at-own 0 4 w q h))

  pub copied-alike : (o bytes n : ℕ) (t : List ℕ) → 4 + n * bytes ≤ w → copied_in o bytes n p t ≡ copied_in o bytes n q t
  unfolding copied_in
  copied-alike o bytes n t h =
      λ i. pick ((eqb (l i) page_size && leb (4 + n * bytes) page_size) && leb (o + n * bytes) (length t)) (sets t o (alike 4 (n * bytes) h i)) t

-- 11 EXACTLY WHEN: the header was not written, or it is ok, the records fit, and they were not all written
pub record Unwritten (w : ℕ) (page : List ℕ) (n bytes : ℕ) : Type 0 where
  pub long : page_ok (Some w) page ≡ true
  pub where-short : (w < 4) ⊎ ((num_at 0 4 page ≡ 0x8000) × (4 + n * bytes ≤ page_size) × (w < 4 + n * bytes))

-- the verdict by its five tests is 11
abbrev is_short : Verdict → Bool
is_short (Ok _) = false
is_short (Err (Status word)) = false
is_short (Err (Refused r)) = eqb (says_refusal r).number 11

short-by : (l p h f c : Bool) (x : ℕ)
    → is_short (guard l (Err (Refused BadLength)) (guard p (Err (Refused Short)) (guard h (Err (Status x)) (guard f (Err (Refused TooMany)) (guard c (Err (Refused Short)) (Ok tt)))))) ≡ true
    → (l ≡ true) × ((p ≡ false) ⊎ ((h ≡ true) × (f ≡ true) × (c ≡ false)))
unfolding guard
short-by true true true true true x e = absurd (false≢true e)
short-by true true true true false x e = (refl, inr (refl, refl, refl))
short-by true true true false c x e = absurd (false≢true e)
short-by true true false f c x e = absurd (false≢true e)
short-by true false h f c x e = (refl, inl refl)
short-by false p h f c x e = absurd (false≢true e)

pub short-only : (w : ℕ) (page : List ℕ) (n bytes : ℕ) → judged (Some w) page n bytes ≡ Err (Refused Short) → Unwritten w page n bytes
unfolding judged
short-only w page n bytes e =
    let b = short-by (page_ok (Some w) page) (leb 4 w) (eqb (num_at 0 4 page) 0x8000) (leb (4 + n * bytes) page_size) (leb (4 + n * bytes) w) (num_at 0 4 page) (ap is_short e) in
    record {
      long = b.0;
      where-short = elim b.1 [ inl p ↦ inl (leb-false 4 w p) | inr k ↦ inr (eqb-true _ _ k.0, leb-true _ _ k.1, leb-false _ _ k.2) ];
    }

pub short-when : (w : ℕ) (page : List ℕ) (n bytes : ℕ) → Unwritten w page n bytes → judged (Some w) page n bytes ≡ Err (Refused Short)
unfolding judged
short-when w page n bytes u = by (leb 4 w) refl
  where
    by : (b : Bool) → leb 4 w ≡ b → judged (Some w) page n bytes ≡ Err (Refused Short)
    by false p = sym (passes _ _ _ u.long (stops _ _ _ p refl))
    by true p =
        elim u.where-short [
          | inl h ↦ absurd (omega (arith, leb-true 4 w p))
          | inr k ↦ sym (passes _ _ _ u.long (passes _ _ _ p (passes _ _ _ (eq-eqb _ _ k.0) (passes _ _ _ (le-leb _ _ k.1) (stops _ _ _ (lt-leb _ _ k.2) refl)))))
        ]
