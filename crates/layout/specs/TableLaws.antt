-- THE LAW of tables kept as bytes, once over record size and offset: a field read by place is the field of the decoded table, for every table and id;
-- and the decoded form of a store into which a page's records were copied is the table filled from the page.
-- Assumes nothing.
use Rattle.std.specs.Prelude.{◌≡◌, Bool, true, false, List, [], ◌∷◌, ◌++◌, ℕ, zero, suc, ◌+◌, ◌-◌, ◌*◌, ◌<◌, ◌≤◌, ltb, length, get_or, set, drop}
use Rattle.std.proofs.Math.Path.{refl, ap}
use Rattle.std.proofs.Common.{sym, ap₂, ◌∙◌, add-zero, add_assoc, mul-le-mul_right, arith, ltb-true, ltb-false, lt-ltb, le-ltb, length-set, take-append-drop, get_or-set_other, get_or-set_same}
use Rattle.std.proofs.Math.ListN.{get_or-eq_default}
use Rattle.std.proofs.lemmas.List.Edits.{sets}
use Rattle.layout.specs.Bytes.{un, bytes_at, num_at}
use Rattle.layout.specs.Layout.{size, read_at}
use Rattle.layout.specs.Rows.{rows_at}
use Rattle.layout.specs.BytesLaws.{length-bytes_at, bytes_at-all}
use Rattle.layout.specs.RowsLaws.{length-rows, rows-at, rows_take, rows_drop, rows_alike}
use Rattle.layout.specs.StoreLaws.{bytes_at-after}
use Rattle.layout.specs.Table.{offset, decoded, within, field_at}

-- field k of a record
field_of : (ws : List ℕ) (k o : ℕ) (s : List ℕ) → num_at (o + offset ws k) (get_or ws k 0) s ≡ get_or (read_at o ws s) k 0
unfolding num_at bytes_at un
field_of [] k o s = refl
field_of (w ∷ ws) zero o s = ap (λ (z : ℕ). num_at z w s) (add-zero o)
field_of (w ∷ ws) (suc k) o s = ap (λ (z : ℕ). num_at z (get_or ws k 0) s) (sym (add_assoc o w (offset ws k))) ∙ field_of ws k (o + w) s

module _ (ws : List ℕ) (o n i k : ℕ) (s : List ℕ) where
  by : (t : Bool) → ltb i n ≡ t → within t (num_at (o + i * size ws + offset ws k) (get_or ws k 0) s) ≡ get_or (get_or (decoded ws o n s) i []) k 0
  by true e =
      field_of ws k (o + i * size ws) s
      ∙ ap (λ (r : List ℕ). get_or r k 0) (sym (rows-at (λ (p : ℕ) (t : List ℕ). read_at p ws t) (size ws) o n i s [] (ltb-true i n e)))
  by false e =
      ap (λ (r : List ℕ). get_or r k 0) (sym (get_or-eq_default (decoded ws o n s) [] (omega (arith, ltb-false i n e, length-rows (λ (p : ℕ) (t : List ℕ). read_at p ws t) (size ws) o n s))))

  -- EVERY QUERY EQUALS THE DECODED FORM, for every table and id: no premise
  pub query : field_at ws o n i k s ≡ get_or (get_or (decoded ws o n s) i []) k 0
  unfolding field_at
  query = by (ltb i n) refl

  -- the two ways that code has: within the table, and past its end; `at` is the place as the code writes it
  pub query-in : (at : ℕ) → i < n → at ≡ o + i * size ws + offset ws k → num_at at (get_or ws k 0) s ≡ get_or (get_or (decoded ws o n s) i []) k 0
  unfolding field_at
  query-in at h e =
      ap (λ (z : ℕ). num_at z (get_or ws k 0) s) e
      ∙ ap (λ (t : Bool). within t (num_at (o + i * size ws + offset ws k) (get_or ws k 0) s)) (sym (lt-ltb i n h))
      ∙ query

  pub query-out : n ≤ i → 0 ≡ get_or (get_or (decoded ws o n s) i []) k 0
  unfolding field_at
  query-out h = ap (λ (t : Bool). within t (num_at (o + i * size ws + offset ws k) (get_or ws k 0) s)) (sym (le-ltb i n h)) ∙ query

-- a table of records made of their values: record i is made of the values of record i, past the end of none
pub decoded-of : {A : Type 0} (of : List ℕ → A) (ws : List ℕ) (o n i : ℕ) (s : List ℕ)
    → get_or (rows_at (λ (p : ℕ) (t : List ℕ). of (read_at p ws t)) (size ws) o n s) i (of []) ≡ of (get_or (decoded ws o n s) i [])
unfolding rows_at
decoded-of of ws o zero i s = refl
decoded-of of ws o (suc n) zero s = refl
decoded-of of ws o (suc n) (suc i) s = decoded-of of ws (o + size ws) n i s

-- the same two ways for a field of such a record, which is made of value k
module _ {A : Type 0} (of : List ℕ → A) (ws : List ℕ) (o n i : ℕ) (s : List ℕ) (field : A → ℕ) (k : ℕ) (is : (vs : List ℕ) → field (of vs) ≡ get_or vs k 0) where
  abbrev found : ℕ
  found = field (get_or (rows_at (λ (p : ℕ) (t : List ℕ). of (read_at p ws t)) (size ws) o n s) i (of []))

  found-is : found ≡ get_or (get_or (decoded ws o n s) i []) k 0
  found-is = ap field (decoded-of of ws o n i s) ∙ is (get_or (decoded ws o n s) i [])

  pub field_in : (at : ℕ) → i < n → at ≡ o + i * size ws + offset ws k → num_at at (get_or ws k 0) s ≡ found
  field_in at h e = query-in ws o n i k s at h e ∙ sym found-is

  pub field_out : n ≤ i → 0 ≡ found
  field_out h = query-out ws o n i k s h ∙ sym found-is

-- ---- what was copied in is read there

get_d-before : (vs l : List ℕ) (i k : ℕ) → k < i → get_or (sets l i vs) k 0 ≡ get_or l k 0
get_d-before [] l i k h = refl
get_d-before (v ∷ vs) l i k h = get_d-before vs (set l i v) (suc i) k (omega arith) ∙ get_or-set_other l i k v 0 (λ e. omega arith)

get_d-inside : (vs l : List ℕ) (i k : ℕ) → k < length vs → i + length vs ≤ length l → get_or (sets l i vs) (i + k) 0 ≡ get_or vs k 0
get_d-inside [] l i k h b = absurd (omega arith)
get_d-inside (v ∷ vs) l i zero h b =
    ap (λ (z : ℕ). get_or (sets (set l i v) (suc i) vs) z 0) (add-zero i)
    ∙ get_d-before vs (set l i v) (suc i) i (omega arith)
    ∙ get_or-set_same l i v 0 (omega arith)
get_d-inside (v ∷ vs) l i (suc k) h b =
    let e : i + suc k ≡ suc i + k = omega arith in
    ap (λ (z : ℕ). get_or (sets (set l i v) (suc i) vs) z 0) e
    ∙ get_d-inside vs (set l i v) (suc i) k (omega arith) (omega (arith, length-set l i v))

bytes_at-inside : (vs l : List ℕ) (i k n : ℕ) → k + n ≤ length vs → i + length vs ≤ length l → bytes_at (i + k) n (sets l i vs) ≡ bytes_at k n vs
unfolding bytes_at
bytes_at-inside vs l i k zero h b = refl
bytes_at-inside vs l i k (suc n) h b =
    let e : suc (i + k) ≡ i + suc k = omega arith in
    ap₂ (λ (x : ℕ) (y : List ℕ). x ∷ y) (get_d-inside vs l i k (omega arith) b)
    (ap (λ (z : ℕ). bytes_at z n (sets l i vs)) e ∙ bytes_at-inside vs l i (suc k) n (omega arith) b)

-- A FILLED TABLE: the records of a page, copied in at the table's place, over what it held; over a reader that looks at its own bytes alone
pub rows-copied : {A : Type 0} (f : ℕ → List ℕ → A) (size : ℕ) (own : (o : ℕ) (s : List ℕ) → f o s ≡ f 0 (bytes_at o size s))
    → (o m n k : ℕ) (s page : List ℕ) → n ≤ m → o + m * size ≤ length s
    → rows_at f size o m (sets s o (bytes_at k (n * size) page)) ≡ rows_at f size k n page ++ drop n (rows_at f size o m s)
rows-copied f size own o m n k s page h b =
    let v = bytes_at k (n * size) page in
    let u = sets s o v in
    let j = o + n * size in
    let l : length v ≡ n * size = length-bytes_at k (n * size) page in
    let q : n * size ≤ m * size = mul-le-mul_right size h in
    let front : bytes_at o (n * size) u ≡ v =
    (λ i. bytes_at (sym (add-zero o) i) (n * size) u) ∙ bytes_at-inside v s o 0 (n * size) (omega arith) (omega arith) ∙ bytes_at-all v (n * size) l in
    sym (take-append-drop n (rows_at f size o m u))
    ∙ (λ i. (rows_take f size o m n u h ∙ rows_alike f size own o k n u page front) i
    ++ (rows_drop f size o m n u h ∙ rows_alike f size own j j (m - n) u s (bytes_at-after v s o j ((m - n) * size) (omega arith)) ∙ sym (rows_drop f size o m n s h)) i)
