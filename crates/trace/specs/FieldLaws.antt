-- Both ways between fields and bytes.
-- Assumes nothing.
use Rattle.std.specs.Prelude.{Bool, true, false, List, [], ◌∷◌, ◌++◌, ◌≡◌, ℕ, zero, suc, ◌+◌, ◌≤◌, ◌<◌, ◌^◌, leb, eqb, get_or, Option, Some, None}
use Rattle.std.proofs.Math.Path.{refl}
use Rattle.std.proofs.Common.{sym, ap, subst, ◌∙◌, add-zero, arith, lit<, length-append, leb-true, le-leb, eqb-true, eq-eqb}
use Rattle.std.proofs.Math.ListN.{length}
use Rattle.layout.specs.Bytes.{num_at, un, bytes_at, Bytes}
use Rattle.layout.specs.BytesLaws.{num_at-below, bytes_at-append}
use Rattle.layout.specs.Layout.{size, write, read_at, read, Fit}
use Rattle.layout.specs.LayoutLaws.{write_read, read-write, length-write}
use Rattle.codes.specs.Says.{guard}
use Rattle.codes.specs.SaysLaws.{picks}
use Rattle.trace.specs.Field.{size_of, tag_of, widths_of, values_of, bytes_of, Fits}
use Rattle.trace.specs.Fields.{sized, tagged_at, field_at}
use Rattle.trace.specs.declared.field.Field.TheVariants as field
use Rattle.trace.specs.Types.{Field}

-- ---- what was found is what stands there

-- a field f at a place o of s
pub record Stands (o : ℕ) (s : List ℕ) (f : Field) : Type 0 where
  pub inside : o + size_of f ≤ length s
  pub bytes : bytes_at o (size_of f) s ≡ bytes_of f
  pub fits : Fits f

abbrev the_field : Option Field → Field
the_field (Some f) = f
the_field None = field.End 0

abbrev is_one : Option Field → ℕ
is_one (Some f) = 1
is_one None = 0

bad : (f : Field) → None ≡ Some f → ⊥
bad f e = let z : ◌≡◌ {A = ℕ} 0 1 = ap is_one e in omega arith

passed : (t : Bool) (x : Option Field) (f : Field) → guard t None x ≡ Some f → (t ≡ true) × (x ≡ Some f)
unfolding guard
passed true x f e = (refl, e)
passed false x f e = absurd (bad f e)

row : (o tag : ℕ) (ws vs s : List ℕ) → Bytes s → num_at o 1 s ≡ tag → num_at (o + 1) 2 s ≡ size ws → read_at (o + 1 + 2) ws s ≡ vs
    → bytes_at o (1 + (2 + size ws)) s ≡ write (1 ∷ 2 ∷ ws) (tag ∷ size ws ∷ vs)
row o tag ws vs s b p q r = sym (write_read o (1 ∷ 2 ∷ ws) s b) ∙ (λ i. write (1 ∷ 2 ∷ ws) (p i ∷ q i ∷ r i))

found : (n o : ℕ) (s : List ℕ) (g f : Field) → sized n o s g ≡ Some f → (num_at (o + 1) 2 s ≡ n) × (o + (3 + n) ≤ length s) × (g ≡ f)
found n o s g f e =
    let a = passed (eqb (num_at (o + 1) 2 s) n) (guard (leb (o + (3 + n)) (length s)) None (Some g)) f e in
    let c = passed (leb (o + (3 + n)) (length s)) (Some g) f a.1 in
    (eqb-true _ _ a.0, leb-true _ _ c.0, ap the_field c.1)

module _ (o : ℕ) (s : List ℕ) (b : Bytes s) where
  abbrev start_here : Field
  start_here = field.Start (num_at (o + 3) 4 s) (num_at (o + 7) 4 s) (num_at (o + 11) 4 s)

  abbrev sent_here : Field
  sent_here = field.Submitted (num_at (o + 3) 1 s) (num_at (o + 4) 4 s) (num_at (o + 8) 4 s)

  abbrev done_here : Field
  done_here = field.Completed (num_at (o + 3) 1 s) (num_at (o + 4) 4 s)

  abbrev end_here : Field
  end_here = field.End (num_at (o + 3) 1 s)

  start-stands : num_at o 1 s ≡ 0 → num_at (o + 1) 2 s ≡ 12 → o + 15 ≤ length s → Stands o s start_here
  start-stands p q h =
      let e0 : o + 1 + 2 ≡ o + 3 = omega arith in
      let e1 : o + 1 + 2 + 4 ≡ o + 7 = omega arith in
      let e2 : o + 1 + 2 + 4 + 4 ≡ o + 11 = omega arith in
      record { inside = h; bytes = row o 0 (4 ∷ 4 ∷ 4 ∷ []) (values_of start_here) s b p q (λ i. num_at (e0 i) 4 s ∷ num_at (e1 i) 4 s ∷ num_at (e2 i) 4 s ∷ []); fits = (num_at-below (o + 3) 4 s b, (num_at-below (o + 7) 4 s b, (num_at-below (o + 11) 4 s b, tt))) }

  sent-stands : num_at o 1 s ≡ 1 → num_at (o + 1) 2 s ≡ 9 → o + 12 ≤ length s → Stands o s sent_here
  sent-stands p q h =
      let e0 : o + 1 + 2 ≡ o + 3 = omega arith in
      let e1 : o + 1 + 2 + 1 ≡ o + 4 = omega arith in
      let e2 : o + 1 + 2 + 1 + 4 ≡ o + 8 = omega arith in
      record { inside = h; bytes = row o 1 (1 ∷ 4 ∷ 4 ∷ []) (values_of sent_here) s b p q (λ i. num_at (e0 i) 1 s ∷ num_at (e1 i) 4 s ∷ num_at (e2 i) 4 s ∷ []); fits = (num_at-below (o + 3) 1 s b, (num_at-below (o + 4) 4 s b, (num_at-below (o + 8) 4 s b, tt))) }

  done-stands : num_at o 1 s ≡ 2 → num_at (o + 1) 2 s ≡ 5 → o + 8 ≤ length s → Stands o s done_here
  done-stands p q h =
      let e0 : o + 1 + 2 ≡ o + 3 = omega arith in
      let e1 : o + 1 + 2 + 1 ≡ o + 4 = omega arith in
      record { inside = h; bytes = row o 2 (1 ∷ 4 ∷ []) (values_of done_here) s b p q (λ i. num_at (e0 i) 1 s ∷ num_at (e1 i) 4 s ∷ []); fits = (num_at-below (o + 3) 1 s b, (num_at-below (o + 4) 4 s b, tt)) }

  end-stands : num_at o 1 s ≡ 3 → num_at (o + 1) 2 s ≡ 1 → o + 4 ≤ length s → Stands o s end_here
  end-stands p q h =
      let e0 : o + 1 + 2 ≡ o + 3 = omega arith in
      record { inside = h; bytes = row o 3 (1 ∷ []) (values_of end_here) s b p q (λ i. num_at (e0 i) 1 s ∷ []); fits = (num_at-below (o + 3) 1 s b, tt) }

  here : (f g : Field) (n : ℕ) → (num_at (o + 1) 2 s ≡ n → o + (3 + n) ≤ length s → Stands o s g) → sized n o s g ≡ Some f → Stands o s f
  here f g n make e = let x = found n o s g f e in subst (λ (h : Field). Stands o s h) x.2 (make x.0 x.1)

  by-tag : (k : ℕ) (f : Field) → num_at o 1 s ≡ k → tagged_at k o s ≡ Some f → Stands o s f
  by-tag zero f t e = here f start_here 12 (start-stands t) e
  by-tag (suc zero) f t e = here f sent_here 9 (sent-stands t) e
  by-tag (suc (suc zero)) f t e = here f done_here 5 (done-stands t) e
  by-tag (suc (suc (suc zero))) f t e = here f end_here 1 (end-stands t) e
  by-tag (suc (suc (suc (suc n)))) f t e = absurd (bad f e)

  -- FOUND: the field's own bytes stand there, and its values fit
  pub field-stands : (f : Field) → field_at o s ≡ Some f → Stands o s f
  unfolding field_at
  field-stands f e = by-tag (num_at o 1 s) f refl (passed (leb (o + 3) (length s)) (tagged_at (num_at o 1 s) o s) f e).1

-- ---- what stands there is found

-- bytes behind others are read as at the front
num-shift : (p t : List ℕ) (k w : ℕ) → num_at (length p + k) w (p ++ t) ≡ num_at k w t
unfolding num_at
num-shift p t k w = ap un (bytes_at-append p t k w)

num-front : (p t : List ℕ) (w : ℕ) → num_at (length p) w (p ++ t) ≡ num_at 0 w t
num-front p t w = ap (λ (k : ℕ). num_at k w (p ++ t)) (sym (add-zero (length p))) ∙ num-shift p t 0 w

in-room : (t : Bool) (x : Option Field) (f : Field) → t ≡ true → x ≡ Some f → guard t None x ≡ Some f
unfolding guard
in-room t x f p e = picks t x None p ∙ e

small : (g : Field) → Fits g → (tag_of g < 256 ^ 1) × ((size (widths_of g) < 256 ^ 2) × Fit (widths_of g) (values_of g))
small (field.Start stream total period) h = (lit< tt, (lit< tt, h))
small (field.Submitted slot offset len) h = (lit< tt, (lit< tt, h))
small (field.Completed slot status) h = (lit< tt, (lit< tt, h))
small (field.End answer) h = (lit< tt, (lit< tt, h))

-- the numbers of a record at the front
module _ (p r : List ℕ) (f : Field) (fit : Fits f) where
  abbrev whole : List ℕ
  whole = p ++ (bytes_of f ++ r)

  numbers : read (1 ∷ 2 ∷ widths_of f) (bytes_of f ++ r) ≡ tag_of f ∷ size (widths_of f) ∷ values_of f
  numbers = read-write (1 ∷ 2 ∷ widths_of f) (tag_of f ∷ size (widths_of f) ∷ values_of f) r (small f fit)

  -- the k-th number, and where it stands
  kth : (k o w : ℕ) → get_or (read (1 ∷ 2 ∷ widths_of f) (bytes_of f ++ r)) k 0 ≡ num_at o w (bytes_of f ++ r) → num_at (length p + o) w whole ≡ get_or (tag_of f ∷ size (widths_of f) ∷ values_of f) k 0
  kth k o w e = num-shift p (bytes_of f ++ r) o w ∙ sym e ∙ ap (λ (l : List ℕ). get_or l k 0) numbers

  long : length whole ≡ length p + (1 + (2 + size (widths_of f))) + length r
  long = length-append p (bytes_of f ++ r) ∙ ap (λ (n : ℕ). length p + n) (length-append (bytes_of f) r ∙ ap (λ (n : ℕ). n + length r) (length-write (1 ∷ 2 ∷ widths_of f) (tag_of f ∷ size (widths_of f) ∷ values_of f))) ∙ omega arith

  -- tag and length, and room for the whole
  tag-there : num_at (length p) 1 whole ≡ tag_of f
  tag-there = num-front p (bytes_of f ++ r) 1 ∙ ap (λ (l : List ℕ). get_or l 0 0) numbers

  size-there : num_at (length p + 1) 2 whole ≡ size (widths_of f)
  size-there = kth 1 1 2 refl

  found-sized : (n : ℕ) (g : Field) → size (widths_of f) ≡ n → g ≡ f → sized n (length p) whole g ≡ Some f
  found-sized n g e same =
      let h : length p + (3 + n) ≤ length whole = omega (arith, long, e) in
      in-room (eqb (num_at (length p + 1) 2 whole) n) _ f (eq-eqb _ _ (size-there ∙ e))
      (in-room (leb (length p + (3 + n)) (length whole)) (Some g) f (le-leb _ _ h) (ap Some same))

  -- its tag leads to it
  found-tagged : tagged_at (tag_of f) (length p) whole ≡ Some f → field_at (length p) whole ≡ Some f
  unfolding field_at
  found-tagged e =
      let h : length p + 3 ≤ length whole = omega (arith, long) in
      in-room (leb (length p + 3) (length whole)) (tagged_at (num_at (length p) 1 whole) (length p) whole) f (le-leb _ _ h) (ap (λ (k : ℕ). tagged_at k (length p) whole) tag-there ∙ e)

module _ (p r : List ℕ) where
  -- FOUND where it stands, whatever follows
  pub field_found : (f : Field) → Fits f → field_at (length p) (p ++ (bytes_of f ++ r)) ≡ Some f
  field_found (field.Start stream total period) fit =
      let f = field.Start stream total period in
      let a : num_at (length p + 3) 4 (whole p r f fit) ≡ stream = kth p r f fit 2 3 4 refl in
      let b : num_at (length p + 7) 4 (whole p r f fit) ≡ total = kth p r f fit 3 7 4 refl in
      let c : num_at (length p + 11) 4 (whole p r f fit) ≡ period = kth p r f fit 4 11 4 refl in
      found-tagged p r f fit (found-sized p r f fit 12 (field.Start _ _ _) refl (λ i. field.Start (a i) (b i) (c i)))
  field_found (field.Submitted slot offset len) fit =
      let f = field.Submitted slot offset len in
      let a : num_at (length p + 3) 1 (whole p r f fit) ≡ slot = kth p r f fit 2 3 1 refl in
      let b : num_at (length p + 4) 4 (whole p r f fit) ≡ offset = kth p r f fit 3 4 4 refl in
      let c : num_at (length p + 8) 4 (whole p r f fit) ≡ len = kth p r f fit 4 8 4 refl in
      found-tagged p r f fit (found-sized p r f fit 9 (field.Submitted _ _ _) refl (λ i. field.Submitted (a i) (b i) (c i)))
  field_found (field.Completed slot status) fit =
      let f = field.Completed slot status in
      let a : num_at (length p + 3) 1 (whole p r f fit) ≡ slot = kth p r f fit 2 3 1 refl in
      let b : num_at (length p + 4) 4 (whole p r f fit) ≡ status = kth p r f fit 3 4 4 refl in
      found-tagged p r f fit (found-sized p r f fit 5 (field.Completed _ _) refl (λ i. field.Completed (a i) (b i)))
  field_found (field.End answer) fit =
      let f = field.End answer in
      let a : num_at (length p + 3) 1 (whole p r f fit) ≡ answer = kth p r f fit 2 3 1 refl in
      found-tagged p r f fit (found-sized p r f fit 1 (field.End _) refl (ap field.End a))

-- ---- what was found is inside, be it bytes or not

module _ (o : ℕ) (s : List ℕ) where
  sized-in : (n : ℕ) (g f : Field) → size_of g ≡ 3 + n → sized n o s g ≡ Some f → o + size_of f ≤ length s
  sized-in n g f e q = let x = found n o s g f q in subst (λ (h : Field). o + size_of h ≤ length s) x.2 (subst (λ (k : ℕ). o + k ≤ length s) (sym e) x.1)

  tagged_in : (k : ℕ) (f : Field) → tagged_at k o s ≡ Some f → o + size_of f ≤ length s
  tagged_in zero f e = sized-in 12 (field.Start (num_at (o + 3) 4 s) (num_at (o + 7) 4 s) (num_at (o + 11) 4 s)) f refl e
  tagged_in (suc zero) f e = sized-in 9 (field.Submitted (num_at (o + 3) 1 s) (num_at (o + 4) 4 s) (num_at (o + 8) 4 s)) f refl e
  tagged_in (suc (suc zero)) f e = sized-in 5 (field.Completed (num_at (o + 3) 1 s) (num_at (o + 4) 4 s)) f refl e
  tagged_in (suc (suc (suc zero))) f e = sized-in 1 (field.End (num_at (o + 3) 1 s)) f refl e
  tagged_in (suc (suc (suc (suc n)))) f e = absurd (bad f e)

  pub field-inside : (f : Field) → field_at o s ≡ Some f → o + size_of f ≤ length s
  unfolding field_at
  field-inside f e = tagged_in (num_at o 1 s) f (passed (leb (o + 3) (length s)) (tagged_at (num_at o 1 s) o s) f e).1
