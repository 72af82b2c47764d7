-- A page that an answer is written in: a record in a part of it, rows of records behind a header, and the answer at its front.
-- Assumes nothing.
use Rattle.std.specs.Prelude.{◌≡◌, ℕ, suc, ◌+◌, ◌-◌, ◌*◌, ◌<◌, ◌≤◌, List, ◌++◌, length, get_or, take, drop, slice_index_or}
use Rattle.std.proofs.Common.{sym, ap, ◌∙◌, append_assoc, append-nil, le_refl, zero-add, add-zero, arith, length-append, length-drop, take_all, drop-drop, get_or-drop, get_or-take, length-take-le}
use Rattle.std.proofs.lemmas.List.Edits.{sets, sets-eq}
use Rattle.std.proofs.Math.Seq.{length-sets, drop-length}
use borrow.Rule.Slice.PartMut.{mid_of, put_mid}
use Rattle.layout.specs.Bytes.{le}
use Rattle.layout.specs.Layout.{size, write, read_at, read, Fit}
use Rattle.layout.specs.Rows.{rows_bytes}
use Rattle.layout.specs.BytesLaws.{length-le, bytes_at-append}
use Rattle.layout.specs.LayoutLaws.{length-write, read-own, read-write}
use Rattle.layout.specs.RowsLaws.{rows_bytes-more, length-rows_bytes, rows_split}
use Rattle.layout.specs.StoreLaws.{sets_then}
use Rattle.records.specs.Slice.{written}
use Rattle.records.specs.SliceLaws.{written-long}
use Rattle.model.specs.Control.{laid, Laid, rows_in}

-- bytes at the front of a page; nothing else changes
pub front : (page b : List ℕ) → length b ≤ length page → sets page 0 b ≡ laid b page
front page b h = sets-eq b page 0 (omega arith) ∙ ap (λ (n : ℕ). b ++ drop n page) (zero-add (length b))

-- a status alone
pub status-laid : (status : ℕ) (page after : List ℕ) → 4 ≤ length page → after ≡ sets page 0 (le 4 status) → Laid (le 4 status) page 4 after
status-laid status page after h e = let n = length-le 4 status in (sym n, e ∙ front page (le 4 status) (rw n h))

-- bytes that are stored in the part `&mut page[a..a + n]`, which they fill
pub stored_in : (page part : List ℕ) (a n : ℕ) → a + n ≤ length page → length part ≡ n → put_mid a n page part ≡ sets page a part
stored_in page part a n h e =
    ap (λ (l : List ℕ). take a page ++ (part ++ l)) (drop-drop n a page)
    ∙ sym
    (sets-eq part page a (rw e h)
    ∙ ap (λ (m : ℕ). take a page ++ part ++ drop (a + m) page) e
    ∙ append_assoc (take a page) part (drop (a + n) page))

-- a record that is written in the part `&mut page[a..]`
pub written_in : (ws vs page part : List ℕ) (a : ℕ) → a + size ws ≤ length page → part ≡ written ws vs (mid_of a (length page - a) page) → put_mid a (length page - a) page part ≡ sets page a (write ws vs)
written_in ws vs page part a h e =
    let p = drop a page in
    let b = write ws vs in
    let n : length p ≤ length page - a = simp length-drop (le_refl (length page - a)) in
    let k : size ws ≤ length p = simp length-drop (omega arith) in
    ap (λ (l : List ℕ). take a page ++ (l ++ drop (length page - a) p)) (e ∙ ap (written ws vs) (take_all (length page - a) p n) ∙ written-long ws vs p k)
    ∙ ap (λ (l : List ℕ). take a page ++ ((b ++ drop (size ws) p) ++ l)) (ap (λ (m : ℕ). drop m p) (sym (length-drop a page)) ∙ drop-length p)
    ∙ ap (λ (l : List ℕ). take a page ++ l) (append-nil (b ++ drop (size ws) p) ∙ ap (λ (l : List ℕ). b ++ l) (drop-drop (size ws) a page))
    ∙ sym
    (sets-eq b page a (rw length-write h)
    ∙ ap (λ (m : ℕ). take a page ++ b ++ drop (a + m) page) (length-write ws vs)
    ∙ append_assoc (take a page) b (drop (a + size ws) page))

-- THE LAW OF THE LOOP: a turn writes one record more, at its place `at`
pub row_more : {A : Type 0} (ws : List ℕ) (values : A → List ℕ) (rows : List A) (d : A) (i at : ℕ) (page₀ page part : List ℕ) → i < length rows → at ≡ 4 + i * size ws → at + size ws ≤ length page
    → page ≡ sets page₀ 4 (rows_bytes (λ (x : A). write ws (values x)) (take i rows))
    → part ≡ written ws (values (slice_index_or rows i d)) (mid_of at (length page - at) page)
    → (length (put_mid at (length page - at) page part) ≡ length page₀)
    × (put_mid at (length page - at) page part ≡ sets page₀ 4 (rows_bytes (λ (x : A). write ws (values x)) (take (i + 1) rows)))
row_more {A} ws values rows d i at page₀ page part h place k e p =
    let g : A → List ℕ = λ x. write ws (values x) in
    let q = put_mid at (length page - at) page part in
    let all : q ≡ sets page₀ 4 (rows_bytes g (take (i + 1) rows)) =
    rows_bytes-more g (size ws) (λ x. length-write ws (values x)) page₀ 4 i rows d page q h e
    (written_in ws (values (slice_index_or rows i d)) page part at k p ∙ ap (λ (o : ℕ). sets page o (g (slice_index_or rows i d))) place) in
    (ap length all ∙ length-sets page₀ 4 (rows_bytes g (take (i + 1) rows)), all)

module _ {A : Type 0} (ws : List ℕ) (values : A → List ℕ) (rows : List A) where
  length-headed : length (le 4 0x8000 ++ rows_bytes (λ (x : A). write ws (values x)) rows) ≡ 4 + length rows * size ws
  length-headed =
      let g : A → List ℕ = λ x. write ws (values x) in
      length-append (le 4 0x8000) (rows_bytes g rows) ∙ (λ i. length-le 4 0x8000 i + length-rows_bytes g (size ws) (λ x. length-write ws (values x)) rows i)

  -- the header and all records were stored
  pub rows-laid : (page₀ page after : List ℕ) (at : ℕ) → at ≡ 4 + length rows * size ws → at ≤ length page₀
      → page ≡ sets page₀ 0 (le 4 0x8000) → after ≡ sets page 4 (rows_bytes (λ (x : A). write ws (values x)) rows)
      → Laid (le 4 0x8000 ++ rows_bytes (λ (x : A). write ws (values x)) rows) page₀ at after
  rows-laid page₀ page after at e k p q =
      let b = rows_bytes (λ (x : A). write ws (values x)) rows in (
        e ∙ sym length-headed,
        q
            ∙ ap (λ (z : List ℕ). sets z 4 b) p
            ∙ sets_then page₀ 0 4 (le 4 0x8000) b (sym (zero-add (length (le 4 0x8000)) ∙ length-le 4 0x8000))
            ∙ front page₀ (le 4 0x8000 ++ b) (rw (length-headed, ← e) k),
      )

module _ {A : Type 0} (ws : List ℕ) (values : A → List ℕ) (rows : List A) (start count : ℕ) (h : start + count ≤ length rows) where
  pub length-rows_in : length (rows_in (λ (x : A). write ws (values x)) start count rows) ≡ 4 + count * size ws
  length-rows_in =
      length-headed ws values (take count (drop start rows)) ∙ ap (λ (n : ℕ). 4 + n * size ws) (length-take-le count (drop start rows) (simp length-drop (omega arith)))

  -- record i of the range stands at 4 + i × size, whatever follows
  pub row_back : (i : ℕ) (d : A) (rest : List ℕ) → i < count → Fit ws (values (slice_index_or rows (start + i) d))
      → read_at (4 + i * size ws) ws (rows_in (λ (x : A). write ws (values x)) start count rows ++ rest) ≡ values (slice_index_or rows (start + i) d)
  row_back i d rest k f =
      let g : A → List ℕ = λ x. write ws (values x) in
      let rs = take count (drop start rows) in
      let vs = values (slice_index_or rows (start + i) d) in
      let head = le 4 0x8000 ++ rows_bytes g (take i rs) in
      let more = rows_bytes g (drop (suc i) rs) ++ rest in
      let m : length rs ≡ count = length-take-le count (drop start rows) (simp length-drop (omega arith)) in
      let x : get_or rs i d ≡ get_or rows (start + i) d = get_or-take count (drop start rows) i d k ∙ get_or-drop start rows i d in
      let l : length head ≡ 4 + i * size ws =
      length-append (le 4 0x8000) (rows_bytes g (take i rs))
      ∙ (λ j. length-le 4 0x8000 j + (length-rows_bytes g (size ws) (λ y. length-write ws (values y)) (take i rs) ∙ ap (λ (z : ℕ). z * size ws) (length-take-le i rs (omega arith))) j) in
      let e : rows_in g start count rows ++ rest ≡ head ++ (write ws vs ++ more) =
      ap (λ (b : List ℕ). (le 4 0x8000 ++ b) ++ rest) (rows_split g rs i d (omega arith) ∙ ap (λ (y : A). rows_bytes g (take i rs) ++ (g y ++ rows_bytes g (drop (suc i) rs))) x)
      ∙ simp append_assoc in
      ap (read_at (4 + i * size ws) ws) e
      ∙ ap (λ (o : ℕ). read_at o ws (head ++ (write ws vs ++ more))) (sym (add-zero (length head) ∙ l))
      ∙ read-own (length head + 0) ws (head ++ (write ws vs ++ more))
      ∙ ap (read ws) (bytes_at-append head (write ws vs ++ more) 0 (size ws))
      ∙ sym (read-own 0 ws (write ws vs ++ more))
      ∙ read-write ws vs more f
