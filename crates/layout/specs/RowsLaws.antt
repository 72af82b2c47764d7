-- The laws of rows of records, over what reads one, what writes one, and the size.
-- Assumes nothing.
use Rattle.std.specs.Prelude.{◌≡◌, length, get_or, set, take, drop}
use Rattle.std.proofs.Math.Path.{refl, sym, ap, ap₂}
use Rattle.std.proofs.Common.{◌∙◌, add-zero, add_assoc, zero-mul, zero-add, suc-add, le_of_lt, add-one, arith, take_at, drop_at, take-suc, length-take-le}
use mathlib.Core.List.{List, [], ◌∷◌, ◌++◌, append_assoc, append-nil}
use Prim.Native.Nat.{ℕ, zero, suc, ◌+◌, ◌-◌, ◌*◌, ◌<◌, ◌≤◌}
use Rattle.std.proofs.Math.Nat.{add_comm, suc-mul}
use Rattle.std.proofs.Math.ListN.{length-append}
use Rattle.std.proofs.lemmas.List.Edits.{sets}
use Rattle.std.proofs.lemmas.List.{set_split}
use Rattle.std.proofs.Math.Seq.{split_at}
use Rattle.layout.specs.Bytes.{bytes_at, Bytes}
use Rattle.layout.specs.Rows.{rows_at, rows_bytes}
use Rattle.layout.specs.BytesLaws.{bytes_at-append, bytes_at-front, bytes_at-add, bytes_at-own}
use Rattle.layout.specs.StoreLaws.{sets_then}
use Rattle.layout.specs.All.{All}

further : (o n size : ℕ) → o + size + n * size ≡ o + suc n * size
further o n size = add_assoc o size (n * size) ∙ ap (λ (k : ℕ). o + k) (add_comm size (n * size) ∙ sym (suc-mul n size))

here : (o size : ℕ) → o ≡ o + 0 * size
here o size = sym (ap (λ (k : ℕ). o + k) (zero-mul size) ∙ add-zero o)

-- ---- reading

module _ {A : Type 0} (f : ℕ → List ℕ → A) (size : ℕ) where
  pub length-rows : (o n : ℕ) (s : List ℕ) → length (rows_at f size o n s) ≡ n
  unfolding rows_at
  length-rows o zero s = refl
  length-rows o (suc n) s = ap suc (length-rows (o + size) n s)

  -- record i stands at o + i × size
  pub rows-at : (o n i : ℕ) (s : List ℕ) (d : A) → i < n → get_or (rows_at f size o n s) i d ≡ f (o + i * size) s
  unfolding rows_at
  rows-at o zero i s d h = absurd (omega arith)
  rows-at o (suc n) zero s d h = ap (λ (k : ℕ). f k s) (here o size)
  rows-at o (suc n) (suc i) s d h = rows-at (o + size) n i s d (omega arith) ∙ ap (λ (k : ℕ). f k s) (further o i size)

  -- cut in two
  rows-add : (o n m : ℕ) (s : List ℕ) → rows_at f size o (n + m) s ≡ rows_at f size o n s ++ rows_at f size (o + n * size) m s
  unfolding rows_at
  rows-add o zero m s = λ i. rows_at f size (here o size i) (zero-add m i) s
  rows-add o (suc n) m s =
      ap (λ (k : ℕ). rows_at f size o k s) (suc-add n m)
      ∙ ap (λ (l : List A). f o s ∷ l)
      (rows-add (o + size) n m s ∙ ap (λ (k : ℕ). rows_at f size (o + size) n s ++ rows_at f size k m s) (further o n size))

  rows_cut : (o n k : ℕ) (s : List ℕ) → k ≤ n → rows_at f size o n s ≡ rows_at f size o k s ++ rows_at f size (o + k * size) (n - k) s
  rows_cut o n k s h = let e : n ≡ k + (n - k) = omega arith in ap (λ (z : ℕ). rows_at f size o z s) e ∙ rows-add o k (n - k) s

  pub rows_take : (o n k : ℕ) (s : List ℕ) → k ≤ n → take k (rows_at f size o n s) ≡ rows_at f size o k s
  rows_take o n k s h = ap (take k) (rows_cut o n k s h) ∙ take_at (rows_at f size o k s) _ k (length-rows o k s)

  pub rows_drop : (o n k : ℕ) (s : List ℕ) → k ≤ n → drop k (rows_at f size o n s) ≡ rows_at f size (o + k * size) (n - k) s
  rows_drop o n k s h = ap (drop k) (rows_cut o n k s h) ∙ drop_at (rows_at f size o k s) _ k (length-rows o k s)

  -- the c records from record a on
  pub rows-part : (o n a c : ℕ) (s : List ℕ) → a + c ≤ n → take c (drop a (rows_at f size o n s)) ≡ rows_at f size (o + a * size) c s
  rows-part o n a c s h = ap (take c) (rows_drop o n a s (omega arith)) ∙ rows_take (o + a * size) (n - a) c s (omega arith)

-- ---- writing

module _ {A : Type 0} (g : A → List ℕ) where
  pub rows_bytes-append : (xs ys : List A) → rows_bytes g (xs ++ ys) ≡ rows_bytes g xs ++ rows_bytes g ys
  unfolding rows_bytes
  rows_bytes-append [] ys = refl
  rows_bytes-append (x ∷ xs) ys = ap (λ (l : List ℕ). g x ++ l) (rows_bytes-append xs ys) ∙ sym (append_assoc (g x) (rows_bytes g xs) (rows_bytes g ys))

  pub rows_bytes-cons : (x : A) (xs : List A) → rows_bytes g (x ∷ xs) ≡ g x ++ rows_bytes g xs
  unfolding rows_bytes
  rows_bytes-cons x xs = refl

  pub rows_bytes-one : (x : A) → rows_bytes g (x ∷ []) ≡ g x
  unfolding rows_bytes
  rows_bytes-one x = append-nil (g x)

  -- one record apart from the others, and another in its place
  pub rows_split : (xs : List A) (i : ℕ) (d : A) → i < length xs → rows_bytes g xs ≡ rows_bytes g (take i xs) ++ (g (get_or xs i d) ++ rows_bytes g (drop (suc i) xs))
  rows_split xs i d h =
      ap (rows_bytes g) (split_at xs i d h)
      ∙ rows_bytes-append (take i xs) (get_or xs i d ∷ drop (suc i) xs)
      ∙ ap (λ (l : List ℕ). rows_bytes g (take i xs) ++ l) (rows_bytes-cons (get_or xs i d) (drop (suc i) xs))

  pub rows-with : (xs : List A) (i : ℕ) (y : A) → i < length xs → rows_bytes g (set xs i y) ≡ rows_bytes g (take i xs) ++ (g y ++ rows_bytes g (drop (suc i) xs))
  rows-with xs i y h =
      ap (rows_bytes g) (set_split xs i y h)
      ∙ rows_bytes-append (take i xs) (y ∷ drop (suc i) xs)
      ∙ ap (λ (l : List ℕ). rows_bytes g (take i xs) ++ l) (rows_bytes-cons y (drop (suc i) xs))

module _ {A : Type 0} (g : A → List ℕ) (size : ℕ) (sized : (x : A) → length (g x) ≡ size) where
  pub length-rows_bytes : (xs : List A) → length (rows_bytes g xs) ≡ length xs * size
  unfolding rows_bytes
  length-rows_bytes [] = sym (zero-mul size)
  length-rows_bytes (x ∷ xs) =
      length-append (g x) (rows_bytes g xs)
      ∙ (λ i. sized x i + length-rows_bytes xs i)
      ∙ add_comm size (length xs * size)
      ∙ sym (suc-mul (length xs) size)

  -- a turn of the loop that writes a table
  pub rows_bytes-more : (s : List ℕ) (o n : ℕ) (a : List A) (d : A) (s₁ s₂ : List ℕ) → n < length a → s₁ ≡ sets s o (rows_bytes g (take n a)) → s₂ ≡ sets s₁ (o + n * size) (g (get_or a n d)) → s₂ ≡ sets s o (rows_bytes g (take (n + 1) a))
  rows_bytes-more s o n a d s₁ s₂ h e p =
      let x = get_or a n d in
      p
      ∙ ap (λ (l : List ℕ). sets l (o + n * size) (g x)) e
      ∙ sets_then s o (o + n * size) (rows_bytes g (take n a)) (g x) (ap (λ (k : ℕ). o + k) (sym (length-rows_bytes (take n a) ∙ ap (λ (k : ℕ). k * size) (length-take-le n a (le_of_lt h)))))
      ∙ ap (sets s o)
      (sym (rows_bytes-append g (take n a) (x ∷ []) ∙ ap (λ (l : List ℕ). rows_bytes g (take n a) ++ l) (rows_bytes-one g x))
      ∙ ap (rows_bytes g) (sym (take-suc a n d h) ∙ ap (λ (k : ℕ). take k a) (sym (add-one n))))

-- rows of stores that hold the same bytes are the same, over a reader that looks at its own bytes alone
module _ {A : Type 0} (f : ℕ → List ℕ → A) (size : ℕ) (own : (o : ℕ) (s : List ℕ) → f o s ≡ f 0 (bytes_at o size s)) where
  pub rows_alike : (o p n : ℕ) (s t : List ℕ) → bytes_at o (n * size) s ≡ bytes_at p (n * size) t → rows_at f size o n s ≡ rows_at f size p n t
  unfolding rows_at
  rows_alike o p zero s t e = refl
  rows_alike o p (suc n) s t e =
      let m : suc n * size ≡ size + n * size = omega (arith, suc-mul n size) in
      let part : (k c : ℕ) → k + c ≤ suc n * size → bytes_at (o + k) c s ≡ bytes_at (p + k) c t =
      λ k c h. sym (bytes_at-own k o c (suc n * size) s h) ∙ ap (bytes_at k c) e ∙ bytes_at-own k p c (suc n * size) t h in
      let head : bytes_at o size s ≡ bytes_at p size t = (λ i. bytes_at (sym (add-zero o) i) size s) ∙ part 0 size (omega arith) ∙ (λ i. bytes_at (add-zero p i) size t) in
      ap₂ (λ (x : A) (y : List A). x ∷ y) (own o s ∙ ap (f 0) head ∙ sym (own p t)) (rows_alike (o + size) (p + size) n s t (part size (n * size) (omega arith)))

-- ---- the round trips

-- what was written is read back, over a reader that looks at its own bytes alone
module _ {A : Type 0} (f : ℕ → List ℕ → A) (g : A → List ℕ) (size : ℕ) (own : (o : ℕ) (s : List ℕ) → f o s ≡ f 0 (bytes_at o size s))
    (sized : (x : A) → length (g x) ≡ size) (Ok : A → Type 0) (back : (x : A) → Ok x → f 0 (g x) ≡ x) where
  rows-skip : (a t : List ℕ) (k n : ℕ) → rows_at f size (length a + k) n (a ++ t) ≡ rows_at f size k n t
  unfolding rows_at
  rows-skip a t k zero = refl
  rows-skip a t k (suc n) =
      λ i. (own (length a + k) (a ++ t) ∙ ap (f 0) (bytes_at-append a t k size) ∙ sym (own k t)) i
      ∷ (ap (λ (z : ℕ). rows_at f size z n (a ++ t)) (add_assoc (length a) k size) ∙ rows-skip a t (k + size) n) i

  pub rows_back : (xs : List A) (c : List ℕ) → All Ok xs → rows_at f size 0 (length xs) (rows_bytes g xs ++ c) ≡ xs
  unfolding rows_at rows_bytes
  rows_back [] c h = refl
  rows_back (x ∷ xs) c h =
      let r = rows_bytes g xs ++ c in
      let p : f 0 (g x ++ r) ≡ x = own 0 (g x ++ r) ∙ ap (λ (k : ℕ). f 0 (bytes_at 0 k (g x ++ r))) (sym (sized x)) ∙ ap (f 0) (bytes_at-front (g x) r) ∙ back x h.0 in
      let q : rows_at f size (0 + size) (length xs) (g x ++ r) ≡ xs =
      ap (λ (k : ℕ). rows_at f size k (length xs) (g x ++ r)) (add_comm 0 size ∙ ap (λ (k : ℕ). k + 0) (sym (sized x))) ∙ rows-skip (g x) r 0 (length xs) ∙ rows_back xs c h.1 in
      ap (λ (l : List ℕ). f 0 l ∷ rows_at f size (0 + size) (length xs) l) (append_assoc (g x) (rows_bytes g xs) c) ∙ (λ i. p i ∷ q i)

  -- a table that was written, whatever stands before and after it
  pub table-back : (a c : List ℕ) (xs : List A) (o n : ℕ) → length a ≡ o → length xs ≡ n → All Ok xs → rows_at f size o n (a ++ (rows_bytes g xs ++ c)) ≡ xs
  table-back a c xs o n p q h =
      let t = rows_bytes g xs ++ c in
      (λ i. rows_at f size (sym (add-zero (length a) ∙ p) i) (sym q i) (a ++ t))
      ∙ rows-skip a t 0 (length xs)
      ∙ rows_back xs c h

-- what was read, written again, is the bytes that stand there
module _ {A : Type 0} (f : ℕ → List ℕ → A) (g : A → List ℕ) (size : ℕ) (same : (o : ℕ) (s : List ℕ) → Bytes s → g (f o s) ≡ bytes_at o size s) where
  pub rows_same : (o n : ℕ) (s : List ℕ) → Bytes s → rows_bytes g (rows_at f size o n s) ≡ bytes_at o (n * size) s
  unfolding rows_at rows_bytes bytes_at
  rows_same o zero s b = sym (ap (λ (k : ℕ). bytes_at o k s) (zero-mul size))
  rows_same o (suc n) s b =
      (λ i. same o s b i ++ rows_same (o + size) n s b i)
      ∙ sym (bytes_at-add o size (n * size) s)
      ∙ ap (λ (k : ℕ). bytes_at o k s) (add_comm size (n * size) ∙ sym (suc-mul n size))
