-- A part of a table in a store: its records are its bytes; one record written over; a table that was written is read.
-- Over what reads a record, what writes one, and the size.
-- Assumes nothing.
use Rattle.std.specs.Prelude.{◌≡◌, ℕ, suc, ◌+◌, ◌*◌, ◌<◌, ◌≤◌, List, ◌++◌, length, take, drop, slice_index_or, slice_set}
use Rattle.std.proofs.Common.{sym, ap, ◌∙◌, append_assoc, add-mul, le_of_lt, mul-le-mul_right, length-append, length-take-le}
use Rattle.std.proofs.lemmas.List.Edits.{sets}
use Rattle.layout.specs.Bytes.{bytes_at, Bytes}
use Rattle.layout.specs.Rows.{rows_at, rows_bytes}
use Rattle.layout.specs.StoreLaws.{over}
use Rattle.layout.specs.RowsLaws.{rows-part, rows_same, rows_split, rows-with, length-rows_bytes}

-- a range within n records takes no more bytes than they do
pub range-below : (a c n size : ℕ) → a + c ≤ n → a * size + c * size ≤ n * size
range-below a c n size h = rw (← add-mul) (mul-le-mul_right size h)

-- THE ANSWER TO A QUERY IS A COPY: the bytes of a table's records a, a + 1, .. are those that stand there
pub part_same : {A : Type 0} (f : ℕ → List ℕ → A) (g : A → List ℕ) (size : ℕ) → ((o : ℕ) (s : List ℕ) → Bytes s → g (f o s) ≡ bytes_at o size s)
    → (o n a c : ℕ) (s : List ℕ) → Bytes s → a + c ≤ n → rows_bytes g (take c (drop a (rows_at f size o n s))) ≡ bytes_at (o + a * size) (c * size) s
part_same f g size same o n a c s b h = ap (rows_bytes g) (rows-part f size o n a c s h) ∙ rows_same f g size same (o + a * size) c s b

-- where a table ends
pub table-after : {A : Type 0} (g : A → List ℕ) (size : ℕ) → ((x : A) → length (g x) ≡ size)
    → (a : List ℕ) (o n : ℕ) (xs : List A) → length a ≡ o → length xs ≡ n → length (a ++ rows_bytes g xs) ≡ o + n * size
table-after g size sized a o n xs e l = length-append a (rows_bytes g xs) ∙ (λ i. e i + (length-rows_bytes g size sized xs ∙ ap (λ (k : ℕ). k * size) l) i)

-- ---- one record written over its place in an encoded whole is the whole encoded with that record new

pub row-over : {A : Type 0} (g : A → List ℕ) (size : ℕ) → ((x : A) → length (g x) ≡ size)
    → (s a b : List ℕ) (xs : List A) (i : ℕ) (d y : A) (o : ℕ) → length a ≡ o → i < length xs
    → sets (sets s 0 (a ++ (rows_bytes g xs ++ b))) (o + i * size) (g y) ≡ sets s 0 (a ++ (rows_bytes g (slice_set xs i y) ++ b))
row-over g size sized s a b xs i d y o e h =
    let p = rows_bytes g (take i xs) in
    let q = rows_bytes g (drop (suc i) xs) in
    let at : length (a ++ p) ≡ o + i * size = table-after g size sized a o i (take i xs) e (length-take-le i xs (le_of_lt h)) in
    let group : (v : List ℕ) → a ++ ((p ++ (v ++ q)) ++ b) ≡ (a ++ p) ++ (v ++ (q ++ b)) = λ v. simp append_assoc in
    ap (λ (r : List ℕ). sets (sets s 0 r) (o + i * size) (g y)) (ap (λ (r : List ℕ). a ++ (r ++ b)) (rows_split g xs i d h) ∙ group (g (slice_index_or xs i d)))
    ∙ over s (a ++ p) (g (slice_index_or xs i d)) (g y) (q ++ b) (o + i * size) at (sized (slice_index_or xs i d) ∙ sym (sized y))
    ∙ ap (sets s 0) (sym (ap (λ (r : List ℕ). a ++ (r ++ b)) (rows-with g xs i y h) ∙ group (g y)))
