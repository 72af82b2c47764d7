-- Two traces walked side by side: what differs at one position, the rows of it, and where the code's loops stand.
-- Assumes nothing.
use Rattle.std.specs.Prelude.{Bool, true, false, ◌&&◌, ◌≡◌, ℕ, zero, suc, ◌+◌, ◌-◌, ◌*◌, ◌/◌, ◌≤◌, ◌<◌, eqb, Option, Some, None, Result, Ok, Err}
use Rattle.std.proofs.lemmas.Bool.{false≢true, lt-leb}
use mathlib.Core.List.{List, [], ◌∷◌, ◌++◌, append_assoc, append-nil}
use Rattle.std.proofs.Math.Path.{refl, ap, ap₂}
use Rattle.std.proofs.Common.{sym, subst, ◌∙◌, add-zero, length-append, eqb-true, eq-eqb, ne_eqb, le-leb}
use native.Mathlib.Omega.{arith}
use Rattle.std.proofs.Math.ListN.{length}
use Rattle.std.proofs.Math.Seq.{sets}
use Rattle.layout.specs.Layout.{write}
use Rattle.layout.specs.LayoutLaws.{length-write}
use Rattle.layout.specs.StoreLaws.{sets_then}
use Rattle.layout.specs.Rows.{rows_bytes}
use Rattle.layout.specs.RowsLaws.{rows_bytes-append, rows_bytes-one, rows_bytes-cons}
use Rattle.codes.specs.Says.{pick, guard}
use Rattle.codes.specs.SaysLaws.{passes, stops, skips, guarded-by}
use Rattle.trace.specs.Field.{tag_of, size_of}
use Rattle.trace.specs.Fields.{field_at, more_fields, fields_from, scan_of}
use Rattle.trace.specs.FieldLaws.{field-inside}
use Rattle.trace.specs.ScanLaws.{size-some}
use Rattle.trace.specs.Compare.{contents_of, numbers_of, alike_of, pair_of, differences_from, diffs_of}
use Rattle.trace.specs.Listed.{row_by, row_widths, row_values, row_of, tallied_by, tallied_of, fitted_by, compared_of, listed_by}
use Rattle.trace.specs.Gaps.{gap_of, gap_list, found_size, over_of}
use Rattle.trace.specs.Types.{Field, Contents, Row, Gap, Same, One, Two, Judgement, BadTrace, NotARun, CompareError, BadFirst, BadSecond, ListFull, Difference, OnlyFirst, OnlySecond, Other}

-- ---- the rows of one position

pub row-length : (d : Difference) → length (row_of d) ≡ 34
row-length d = length-write row_widths (row_values (row_by d))

module _ (l : List ℕ) (at : ℕ) (g : Gap) where
  pub gap-none : g ≡ Same → l ≡ sets l at (rows_bytes row_of (gap_list g))
  unfolding rows_bytes
  gap-none e = ap (λ (x : Gap). sets l at (rows_bytes row_of (gap_list x))) (sym e)

  pub gap-one : (d : Difference) (r : Row) (n : List ℕ) → g ≡ One d → r ≡ row_by d → n ≡ sets l at (write row_widths (row_values r)) → n ≡ sets l at (rows_bytes row_of (gap_list g))
  gap-one d r n e q s =
      s ∙ ap (λ (x : Row). sets l at (write row_widths (row_values x))) q
      ∙ ap (sets l at) (sym (rows_bytes-one row_of d))
      ∙ ap (λ (x : Gap). sets l at (rows_bytes row_of (gap_list x))) (sym e)

  pub gap-two : (d e : Difference) (r q : Row) (m n : List ℕ) → g ≡ Two d e → r ≡ row_by d → q ≡ row_by e → m ≡ sets l at (write row_widths (row_values r))
      → n ≡ sets m (at + 34) (write row_widths (row_values q)) → n ≡ sets l at (rows_bytes row_of (gap_list g))
  gap-two d e r q m n is rd qe s t =
      t ∙ ap₂ (λ (x : List ℕ) (y : Row). sets x (at + 34) (write row_widths (row_values y))) (s ∙ ap (λ (x : Row). sets l at (write row_widths (row_values x))) rd) qe
      ∙ sets_then l at (at + 34) (row_of d) (row_of e) (ap (λ (k : ℕ). at + k) (sym (row-length d)))
      ∙ ap (λ (x : List ℕ). sets l at (row_of d ++ x)) (sym (rows_bytes-one row_of e))
      ∙ ap (sets l at) (sym (rows_bytes-cons row_of d (e ∷ [])))
      ∙ ap (λ (x : Gap). sets l at (rows_bytes row_of (gap_list x))) (sym is)

pub room-one : (at n : ℕ) (g : Gap) (d : Difference) → g ≡ One d → at + length (gap_list g) * 34 ≤ n → at + 34 ≤ n
room-one at n g d e h = subst (λ (x : Gap). at + length (gap_list x) * 34 ≤ n) e h

pub room-two : (at n : ℕ) (g : Gap) (d e : Difference) → g ≡ Two d e → at + length (gap_list g) * 34 ≤ n → at + 68 ≤ n
room-two at n g d e p h = subst (λ (x : Gap). at + length (gap_list x) * 34 ≤ n) p h

-- ---- two fields

abbrev pub alike_by : Contents → Contents → Bool
alike_by f g = eqb f.a g.a && (eqb f.b g.b && (eqb f.c g.c && true))

and-true : (b : Bool) → (b && true) ≡ b
and-true true = refl
and-true false = refl

-- what `==` of two contents computes
abbrev pub eq_by : Contents → Contents → Bool
eq_by f g = eqb f.tag g.tag && (eqb f.a g.a && (eqb f.b g.b && eqb f.c g.c))

pub alike-last : (f g : Contents) → f.a ≡ g.a → f.b ≡ g.b → eqb f.c g.c ≡ alike_by f g
alike-last f g p q = sym (ap₂ (λ (x y : Bool). x && (y && (eqb f.c g.c && true))) (eq-eqb _ _ p) (eq-eqb _ _ q) ∙ and-true (eqb f.c g.c))

module _ (i : ℕ) (f g : Field) (x y : Contents) (p : x ≡ contents_of f) (q : y ≡ contents_of g) where
  tag-of : x.tag ≡ tag_of f
  tag-of = ap (λ (k : Contents). k.tag) p

  tag-of-2 : y.tag ≡ tag_of g
  tag-of-2 = ap (λ (k : Contents). k.tag) q

  pub pair-two : (x.tag ≡ y.tag → ⊥) → Two (OnlyFirst i f) (OnlySecond i g) ≡ gap_of i (Some f) (Some g)
  pair-two ne = stops _ _ _ (ne_eqb _ _ (λ e. ne (tag-of ∙ e ∙ sym tag-of-2))) refl

  -- of equal tags, equal contents are equal numbers
  numbers : x.tag ≡ y.tag → eq_by x y ≡ alike_of (numbers_of f) (numbers_of g)
  numbers e =
      ap₂ (λ (t u : Bool). t && (eqb x.a y.a && (eqb x.b y.b && u))) (eq-eqb _ _ e) (sym (and-true (eqb x.c y.c)))
      ∙ ap₂ alike_by p q

  pub pair_same : (b : Bool) → x.tag ≡ y.tag → b ≡ eq_by x y → b ≡ true → Same ≡ gap_of i (Some f) (Some g)
  pair_same b e a t = passes _ _ _ (eq-eqb _ _ (sym tag-of ∙ e ∙ tag-of-2)) (passes _ _ _ (sym (numbers e) ∙ sym a ∙ t) refl)

  pub pair-other : (b : Bool) → x.tag ≡ y.tag → b ≡ eq_by x y → b ≡ false → One (Other i f g) ≡ gap_of i (Some f) (Some g)
  pair-other b e a t = passes _ _ _ (eq-eqb _ _ (sym tag-of ∙ e ∙ tag-of-2)) (stops _ _ _ (sym (numbers e) ∙ sym a ∙ t) refl)

-- ---- the fields of a trace, whether or not they end here

-- no field, no fields
none_here : (fuel o : ℕ) (s : List ℕ) → field_at o s ≡ None → fields_from fuel o s ≡ []
unfolding fields_from
none_here zero o s e = refl
none_here (suc k) o s e = by (eqb o (length s))
  where
    by : (t : Bool) → pick t [] (more_fields (field_at o s) o (λ p. fields_from k p s)) ≡ []
    by true = refl
    by false = ap (λ (x : Option Field). more_fields x o (λ p. fields_from k p s)) e

-- where a reader stands in a trace: so many fields may be left
pub record Stands (s : List ℕ) (at fuel : ℕ) : Type 0 where
  pub inside : at ≤ length s
  pub enough : length s ≤ at + fuel

-- one field is read, or none is left
pub record Reads (s : List ℕ) (at fuel : ℕ) (x : Option Field) : Type 0 where
  pub left : ℕ
  pub fields : fields_from fuel at s ≡ more_fields x at (λ p. fields_from left p s)
  pub next : Stands s (at + found_size x) left

refuted : (b : Bool) → (b ≡ true → ⊥) → false ≡ b
refuted true h = absurd (h refl)
refuted false h = refl

reads : (s : List ℕ) (at fuel : ℕ) (x : Option Field) → field_at at s ≡ x → Stands s at fuel → Reads s at fuel x
unfolding fields_from
reads s at fuel None e st =
    record { left = fuel; fields = none_here fuel at s e; next = subst (λ (k : ℕ). Stands s k fuel) (sym (add-zero at)) st }
reads s at zero (Some f) e st =
    let h = field-inside at s f e in
    let big = size-some f in
    let n = st.enough in
    absurd (omega (arith, h, big, n))
reads s at (suc k) (Some f) e st =
    let h = field-inside at s f e in
    let big = size-some f in
    let n = st.enough in
    let open' : eqb at (length s) ≡ false = sym (refuted (eqb at (length s)) (λ t. let z : at ≡ length s = eqb-true _ _ t in omega (arith, h, big, z))) in
    record {
      left = k;
      fields = skips (eqb at (length s)) [] (more_fields (field_at at s) at (λ p. fields_from k p s)) open' ∙ ap (λ (y : Option Field). more_fields y at (λ p. fields_from k p s)) e;
      next = record { inside = h; enough = omega (arith, big, n) };
    }

-- ---- one position of two traces

-- what a guard of gaps lists
pair-list : (i : ℕ) (f g : Field) (rest : List Difference) → pair_of i f g rest ≡ gap_list (gap_of i (Some f) (Some g)) ++ rest
unfolding guard
pair-list i f g rest = by (eqb (tag_of f) (tag_of g)) (alike_of (numbers_of f) (numbers_of g))
  where
    by : (t a : Bool) → guard t (OnlyFirst i f ∷ OnlySecond i g ∷ rest) (guard a (Other i f g ∷ rest) rest)
        ≡ gap_list (guard t (Two (OnlyFirst i f) (OnlySecond i g)) (guard a (One (Other i f g)) Same)) ++ rest
    by true true = refl
    by true false = refl
    by false a = refl

step : (i : ℕ) (x y : Option Field) (at bt : ℕ) (fs gs : ℕ → List Field) → (x ≡ None → fs at ≡ []) → (y ≡ None → gs bt ≡ []) → over_of x y ≡ false
    → differences_from i (more_fields x at fs) (more_fields y bt gs) ≡ gap_list (gap_of i x y) ++ differences_from (suc i) (fs (at + found_size x)) (gs (bt + found_size y))
unfolding differences_from
step i None None at bt fs gs p q o = absurd (false≢true (sym o))
step i None (Some g) at bt fs gs p q o =
    ap (λ (l : List Field). OnlySecond i g ∷ differences_from (suc i) l (gs (bt + size_of g))) (sym (p refl) ∙ ap fs (sym (add-zero at)))
step i (Some f) None at bt fs gs p q o =
    only (fs (at + size_of f)) ∙ ap (λ (l : List Field). OnlyFirst i f ∷ differences_from (suc i) (fs (at + size_of f)) l) (sym (q refl) ∙ ap gs (sym (add-zero bt)))
  where
    only : (l : List Field) → differences_from i (f ∷ l) [] ≡ OnlyFirst i f ∷ differences_from (suc i) l []
    only l = refl
step i (Some f) (Some g) at bt fs gs p q o = pair-list i f g (differences_from (suc i) (fs (at + size_of f)) (gs (bt + size_of g)))

-- as many differences as fields, at most
few : (i : ℕ) (x y : Option Field) → length (gap_list (gap_of i x y)) * 4 ≤ found_size x + found_size y
few i None None = omega arith
few i None (Some g) = let h = size-some g in omega (arith, h)
few i (Some f) None = let h = size-some f in omega (arith, h)
few i (Some f) (Some g) =
    let h = size-some f in
    let k = size-some g in
    guarded-by (λ (z : Gap). length (gap_list z) * 4 ≤ size_of f + size_of g) (eqb (tag_of f) (tag_of g)) (Two (OnlyFirst i f) (OnlySecond i g)) (guard (alike_of (numbers_of f) (numbers_of g)) (One (Other i f g)) Same)
    (λ _. guarded-by (λ (z : Gap). length (gap_list z) * 4 ≤ size_of f + size_of g) (alike_of (numbers_of f) (numbers_of g)) (One (Other i f g)) Same (λ _. omega arith) (λ _. omega (arith, h)))
    (λ _. omega (arith, h, k))

some : (x y : Option Field) → over_of x y ≡ false → 4 ≤ found_size x + found_size y
some None None o = absurd (false≢true (sym o))
some None (Some g) o = let h = size-some g in omega (arith, h)
some (Some f) None o = let h = size-some f in omega (arith, h)
some (Some f) (Some g) o = let h = size-some f in omega (arith, h)

over-both : (x y : Option Field) → over_of x y ≡ true → (x ≡ None) × (y ≡ None)
over-both None None o = (refl, refl)
over-both None (Some g) o = absurd (false≢true o)
over-both (Some f) y o = absurd (false≢true o)

-- ---- where the loops stand: position i, offsets at and bt, n differences before

pub record Meet (a b : List ℕ) (at bt i n : ℕ) : Type 0 where
  pub fa : ℕ
  pub fb : ℕ
  pub in-a : Stands a at fa
  pub in_b : Stands b bt fb
  pub before : List Difference
  pub same : diffs_of a b ≡ before ++ differences_from i (fields_from fa at a) (fields_from fb bt b)
  pub count : n ≡ length before
  pub fields : i * 4 ≤ at + bt
  pub rows : n * 4 ≤ at + bt

module _ (a b : List ℕ) where
  pub meet-first : Meet a b 0 0 0 0
  unfolding diffs_of
  meet-first =
      record {
        fa = length a;
        fb = length b;
        in-a = record { inside = omega arith; enough = omega arith };
        in_b = record { inside = omega arith; enough = omega arith };
        before = [];
        same = refl;
        count = refl;
        fields = omega arith;
        rows = omega arith;
      }

  module _ (at bt i n : ℕ) (m : Meet a b at bt i n) (x y : Option Field) (p : x ≡ field_at at a) (q : y ≡ field_at bt b) (o : Bool) (oe : o ≡ over_of x y) where
    -- neither goes on: all differences stand before
    pub meet_all : o ≡ true → diffs_of a b ≡ m.before
    unfolding differences_from
    meet_all t =
        let e = over-both x y (sym oe ∙ t) in
        m.same
        ∙ ap₂ (λ (fs gs : List Field). m.before ++ differences_from i fs gs) (none_here m.fa at a (sym p ∙ e.0)) (none_here m.fb bt b (sym q ∙ e.1))
        ∙ append-nil m.before

    pub meet-count : o ≡ true → n ≡ length (diffs_of a b)
    meet-count t = m.count ∙ sym (ap length (meet_all t))

    moved : (u v k j j' : ℕ) (w : Meet a b (at + found_size x) (bt + found_size y) j (n + k)) → u ≡ found_size x → v ≡ found_size y → j ≡ j'
        → (z : Meet a b (at + u) (bt + v) j' (n + k)) × (z.before ≡ w.before)
    moved u v k j j' w ue ve je = (
      record {
        fa = w.fa;
        fb = w.fb;
        in-a = subst (λ (h : ℕ). Stands a (at + h) w.fa) (sym ue) w.in-a;
        in_b = subst (λ (h : ℕ). Stands b (bt + h) w.fb) (sym ve) w.in_b;
        before = w.before;
        same = w.same ∙ (λ t. w.before ++ differences_from (je t) (fields_from w.fa (at + sym ue t) a) (fields_from w.fb (bt + sym ve t) b));
        count = w.count;
        fields = let h = w.fields in omega (arith, h, ue, ve, je);
        rows = let h = w.rows in omega (arith, h, ue, ve);
      },
      refl,
    )

    -- one position more
    pub meet-next : (g : Gap) (k u v : ℕ) → o ≡ false → g ≡ gap_of i x y → k ≡ length (gap_list g) → u ≡ found_size x → v ≡ found_size y
        → (z : Meet a b (at + u) (bt + v) (i + 1) (n + k)) × (z.before ≡ m.before ++ gap_list g)
    meet-next g k u v t e ke ue ve =
        let ra = reads a at m.fa x (sym p) m.in-a in
        let rb = reads b bt m.fb y (sym q) m.in_b in
        let off : over_of x y ≡ false = sym oe ∙ t in
        let na : x ≡ None → fields_from ra.left at a ≡ [] = λ z. none_here ra.left at a (sym p ∙ z) in
        let nb : y ≡ None → fields_from rb.left bt b ≡ [] = λ z. none_here rb.left bt b (sym q ∙ z) in
        let s = step i x y at bt (λ r. fields_from ra.left r a) (λ r. fields_from rb.left r b) na nb off in
        let w : Meet a b (at + found_size x) (bt + found_size y) (suc i) (n + k) =
        record {
          fa = ra.left;
          fb = rb.left;
          in-a = ra.next;
          in_b = rb.next;
          before = m.before ++ gap_list g;
          same =
              m.same
              ∙ ap₂ (λ (fs gs : List Field). m.before ++ differences_from i fs gs) ra.fields rb.fields
              ∙ ap (λ (l : List Difference). m.before ++ l) (s ∙ ap (λ (h : Gap). gap_list h ++ differences_from (suc i) (fields_from ra.left (at + found_size x) a) (fields_from rb.left (bt + found_size y) b)) (sym e))
              ∙ sym (append_assoc m.before (gap_list g) (differences_from (suc i) (fields_from ra.left (at + found_size x) a) (fields_from rb.left (bt + found_size y) b)));
          count = ap₂ (λ (c d : ℕ). c + d) m.count ke ∙ sym (length-append m.before (gap_list g));
          fields = let h = some x y off in let j = m.fields in omega (arith, h, j);
          rows = let h = few i x y in let j = m.rows in let l : k ≡ length (gap_list (gap_of i x y)) = ke ∙ ap (λ (h : Gap). length (gap_list h)) e in omega (arith, h, j, l);
        }
        in
        moved u v k (suc i) (i + 1) w ue ve (omega arith)

    -- what is left falls
    pub meet-less : (u v : ℕ) → o ≡ false → u ≡ found_size x → v ≡ found_size y → at + u ≤ length a → bt + v ≤ length b → (length a - (at + u)) + (length b - (bt + v)) < (length a - at) + (length b - bt)
    meet-less u v t ue ve h k = let s = some x y (sym oe ∙ t) in omega (arith, s, ue, ve, h, k)

pub record Bounds (a b : List ℕ) (at bt i n : ℕ) : Type 0 where
  pub in-a : at ≤ length a
  pub in_b : bt ≤ length b
  pub fields : i * 4 ≤ length a + length b
  pub rows : n * 4 ≤ length a + length b
  pub fits : n ≤ length (diffs_of a b)

pub bounds : (a b : List ℕ) (at bt i n : ℕ) → Meet a b at bt i n → Bounds a b at bt i n
bounds a b at bt i n m =
    let p = m.in-a.inside in
    let q = m.in_b.inside in
    let f = m.fields in
    let r = m.rows in
    let c = m.count in
    let l : length (diffs_of a b) ≡ length m.before + length (differences_from i (fields_from m.fa at a) (fields_from m.fb bt b))
    = ap length m.same ∙ length-append m.before (differences_from i (fields_from m.fa at a) (fields_from m.fb bt b)) in
    record { in-a = p; in_b = q; fields = omega (arith, p, q, f); rows = omega (arith, p, q, r); fits = omega (arith, c, l) }

-- ---- the rows written so far

pub rows-length : (ds : List Difference) → length (rows_bytes row_of ds) ≡ length ds * 34
unfolding rows_bytes
rows-length [] = refl
rows-length (d ∷ ds) =
    let e = length-append (row_of d) (rows_bytes row_of ds) in
    let h = row-length d in
    let r = rows-length ds in
    omega (arith, e, h, r)

pub record Filled (a b l : List ℕ) (at bt i n : ℕ) (now : List ℕ) : Type 0 where
  pub meet : Meet a b at bt i n
  pub long : length now ≡ length l
  pub rows : now ≡ sets l 0 (rows_bytes row_of meet.before)

module _ (a b l : List ℕ) where
  pub filled-first : Filled a b l 0 0 0 0 l
  unfolding rows_bytes meet-first
  filled-first = record { meet = meet-first a b; long = refl; rows = refl }

  module _ (at bt i n : ℕ) (s : List ℕ) (m : Filled a b l at bt i n s) (x y : Option Field) (p : x ≡ field_at at a) (q : y ≡ field_at bt b) (o : Bool) (oe : o ≡ over_of x y) where
    pub filled-all : o ≡ true → s ≡ sets l 0 (rows_bytes row_of (diffs_of a b))
    filled-all t = m.rows ∙ ap (λ (ds : List Difference). sets l 0 (rows_bytes row_of ds)) (sym (meet_all a b at bt i n m.meet x y p q o oe t))

    module _ (g : Gap) (k u v : ℕ) (t : o ≡ false) (e : g ≡ gap_of i x y) (ke : k ≡ length (gap_list g)) (ue : u ≡ found_size x) (ve : v ≡ found_size y) where
      pub filled-meet : Meet a b (at + u) (bt + v) (i + 1) (n + k)
      filled-meet = (meet-next a b at bt i n m.meet x y p q o oe g k u v t e ke ue ve).0

      pub filled-room : length (diffs_of a b) * 34 ≤ length l → n * 34 + length (gap_list g) * 34 ≤ length s
      filled-room h =
          let w = (bounds a b (at + u) (bt + v) (i + 1) (n + k) filled-meet).fits in
          let len = m.long in
          omega (arith, h, w, len, ke)

      pub filled_next : (s₁ : List ℕ) → length s₁ ≡ length s → s₁ ≡ sets s (n * 34) (rows_bytes row_of (gap_list g)) → Filled a b l (at + u) (bt + v) (i + 1) (n + k) s₁
      filled_next s₁ len put =
          let z = meet-next a b at bt i n m.meet x y p q o oe g k u v t e ke ue ve in
          let ds = m.meet.before in
          let c = m.meet.count in
          let r = rows-length ds in
          let place : n * 34 ≡ 0 + length (rows_bytes row_of ds) = omega (arith, c, r) in
          record {
            meet = z.0;
            long = len ∙ m.long;
            rows =
                put
                ∙ ap (λ (w : List ℕ). sets w (n * 34) (rows_bytes row_of (gap_list g))) m.rows
                ∙ sets_then l 0 (n * 34) (rows_bytes row_of ds) (rows_bytes row_of (gap_list g)) place
                ∙ ap (sets l 0) (sym (rows_bytes-append row_of ds (gap_list g)))
                ∙ ap (λ (w : List Difference). sets l 0 (rows_bytes row_of w)) (sym z.1);
          }

-- ---- what is said

pub tallied-second : (b : List ℕ) (n : ℕ) (j k : Judgement) → j ≡ scan_of b → j ≡ k → tallied_by (Ok tt) k n ≡ tallied_by (Ok tt) (scan_of b) n
tallied-second b n j k e is = ap (λ (z : Judgement). tallied_by (Ok tt) z n) (sym is ∙ e)

pub tallied-first : (a b : List ℕ) (j k : Judgement) → j ≡ scan_of a → j ≡ k → tallied_by k (scan_of b) (length (diffs_of a b)) ≡ tallied_of a b
tallied-first a b j k e is = ap (λ (z : Judgement). tallied_by z (scan_of b) (length (diffs_of a b))) (sym is ∙ e)

abbrev pub kind_of : Result ℕ CompareError → ℕ
kind_of (Ok n) = 0
kind_of (Err (BadFirst at)) = 1
kind_of (Err (BadSecond at)) = 2
kind_of (Err ListFull) = 3

abbrev pub count_in : Result ℕ CompareError → ℕ
count_in (Ok n) = n
count_in (Err (BadFirst at)) = 0
count_in (Err (BadSecond at)) = 0
count_in (Err ListFull) = 0

pub listed_by_lem : (n m : ℕ) (j k : Judgement) → Ok n ≡ tallied_by j k m → (n ≡ m) × (j ≡ Ok tt) × (k ≡ Ok tt)
listed_by_lem n m (Ok u) (Ok v) e = (ap count_in e, refl, refl)
listed_by_lem n m (Ok u) (Err (BadTrace at)) e = let z : ◌≡◌ {A = ℕ} 0 2 = ap kind_of e in absurd (omega arith)
listed_by_lem n m (Ok u) (Err (NotARun at)) e = let z : ◌≡◌ {A = ℕ} 0 2 = ap kind_of e in absurd (omega arith)
listed_by_lem n m (Err (BadTrace at)) k e = let z : ◌≡◌ {A = ℕ} 0 1 = ap kind_of e in absurd (omega arith)
listed_by_lem n m (Err (NotARun at)) k e = let z : ◌≡◌ {A = ℕ} 0 1 = ap kind_of e in absurd (omega arith)

module _ (a b l : List ℕ) (r : Result ℕ CompareError) (e : r ≡ tallied_of a b) where
  -- the answer and the room
  abbrev pub Said : Result ℕ CompareError → List ℕ → Type 0
  Said x n = (x ≡ compared_of a b (length l)) × (n ≡ listed_by (compared_of a b (length l)) (diffs_of a b) l)

  said : (x : Result ℕ CompareError) (n : List ℕ) → x ≡ compared_of a b (length l) → n ≡ listed_by x (diffs_of a b) l → Said x n
  said x n p q = (p, q ∙ ap (λ (z : Result ℕ CompareError). listed_by z (diffs_of a b) l) p)

  fitted : (k : Result ℕ CompareError) → r ≡ k → fitted_by k (length l) ≡ compared_of a b (length l)
  fitted k is = ap (λ (z : Result ℕ CompareError). fitted_by z (length l)) (sym is ∙ e)

  module _ (n : ℕ) (is : r ≡ Ok n) (len : ℕ) (long : len ≡ length l) where
    pub listed-room : n ≤ len / 34 → length (diffs_of a b) * 34 ≤ length l
    listed-room h =
        let c = (listed_by_lem n (length (diffs_of a b)) (scan_of a) (scan_of b) (sym is ∙ e)).0 in
        omega (arith, h, c, long)

    pub said-full : len / 34 < n → Said (Err ListFull) l
    said-full h = let p : length l < n * 34 = omega (arith, h, long) in said (Err ListFull) l (stops _ _ _ (lt-leb _ _ p) refl ∙ fitted (Ok n) is) refl

    pub said-listed : (n' : List ℕ) → n ≤ len / 34 → n' ≡ sets l 0 (rows_bytes row_of (diffs_of a b)) → Said (Ok n) n'
    said-listed n' h q = let p : n * 34 ≤ length l = omega (arith, h, long) in said (Ok n) n' (passes _ _ _ (le-leb _ _ p) refl ∙ fitted (Ok n) is) q

  pub said-first : (at : ℕ) → r ≡ Err (BadFirst at) → Said (Err (BadFirst at)) l
  said-first at is = said (Err (BadFirst at)) l (fitted (Err (BadFirst at)) is) refl

  pub said-second : (at : ℕ) → r ≡ Err (BadSecond at) → Said (Err (BadSecond at)) l
  said-second at is = said (Err (BadSecond at)) l (fitted (Err (BadSecond at)) is) refl

  pub said-none : r ≡ Err ListFull → Said (Err ListFull) l
  said-none is = said (Err ListFull) l (fitted (Err ListFull) is) refl
