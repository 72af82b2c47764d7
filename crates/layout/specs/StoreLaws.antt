-- The laws of runs of stores, `lib.Seq.sets`: what a lent slice holds after bytes were stored in it.
-- Assumes nothing.
use Rattle.std.specs.Prelude.{◌≡◌, refl, List, [], ◌∷◌, ◌++◌, ℕ, zero, suc, ◌+◌, ◌/◌, ◌%◌, ◌<◌, ◌≤◌, ◌^◌, length, get_or, set, take, drop}
use Rattle.std.proofs.Common.{sym, ap, ◌∙◌, add-zero, zero-add, add-suc, suc-add, mod-eq_of_lt, append_assoc, arith, take-append-drop}
use Rattle.std.proofs.lemmas.List.{drop-drop}
use Rattle.std.proofs.lemmas.List.Edits.{sets-eq}
use lib.Seq.{sets, set_out, set-set, set_comm, set-get_or, get_or-set_other, length-take-le, length-sets}
use Rattle.layout.specs.Bytes.{le, bytes_at}
use Rattle.layout.specs.BytesLaws.{length-le, le-mod, le_split, length-bytes_at, bytes_at-add}

-- two runs, the second where the first ends, are one
pub sets-append : (l : List ℕ) (i : ℕ) (a b : List ℕ) → sets (sets l i a) (i + length a) b ≡ sets l i (a ++ b)
sets-append l i [] b = ap (λ (n : ℕ). sets l n b) (add-zero i)
sets-append l i (x ∷ a) b =
    ap (λ (n : ℕ). sets (sets (set l i x) (suc i) a) n b) (add-suc i (length a) ∙ sym (suc-add i (length a)))
    ∙ sets-append (set l i x) (suc i) a b

pub sets_then : (l : List ℕ) (i j : ℕ) (a b : List ℕ) → j ≡ i + length a → sets (sets l i a) j b ≡ sets l i (a ++ b)
sets_then l i j a b e = ap (λ (n : ℕ). sets (sets l i a) n b) e ∙ sets-append l i a b

-- past the end nothing is stored
pub sets-out : (vs l : List ℕ) (i : ℕ) → length l ≤ i → sets l i vs ≡ l
sets-out [] l i h = refl
sets-out (v ∷ vs) l i h = ap (λ (k : List ℕ). sets k (suc i) vs) (set_out l i v h) ∙ sets-out vs l (suc i) (omega arith)

-- what reaches past the end is not stored
pub sets-cut : (l vs : List ℕ) (i n : ℕ) → length l ≤ i + n → n ≤ length vs → sets l i (take n vs) ≡ sets l i vs
sets-cut l vs i n h k =
    let j : i + length (take n vs) ≡ i + n = ap (λ (m : ℕ). i + m) (length-take-le n vs k) in
    let e : length (sets l i (take n vs)) ≡ length l = length-sets l i (take n vs) in
    let past : length (sets l i (take n vs)) ≤ i + n = omega arith in
    sym (sets-out (drop n vs) (sets l i (take n vs)) (i + n) past)
    ∙ sets_then l i (i + n) (take n vs) (drop n vs) (sym j)
    ∙ ap (sets l i) (take-append-drop n vs)

-- within the slice, what is copied over a part of it
pub sets-part : (l vs : List ℕ) (i k : ℕ) → i + k ≤ length l → length vs ≡ k → take i l ++ (vs ++ drop k (drop i l)) ≡ sets l i vs
sets-part l vs i k h e =
    ap (λ (x : List ℕ). take i l ++ (vs ++ x)) (drop-drop k i l ∙ ap (λ (n : ℕ). drop (i + n) l) (sym e))
    ∙ sym (append_assoc (take i l) vs (drop (i + length vs) l))
    ∙ sym (sets-eq vs l i (omega arith))

-- ---- numbers

pub sets-one : (i v : ℕ) (l : List ℕ) → v < 256 → sets l i (le 1 v) ≡ set l i v
unfolding le
sets-one i v l h = ap (set l i) (mod-eq_of_lt h)

-- THE LAW OF WIDTHS for stores: the low a bytes, then the b bytes above them
pub sets-split : (a b i v : ℕ) (l : List ℕ) → sets (sets l i (le a (v % 256 ^ a))) (i + a) (le b (v / 256 ^ a)) ≡ sets l i (le (a + b) v)
sets-split a b i v l =
    ap (λ (x : List ℕ). sets (sets l i x) (i + a) (le b (v / 256 ^ a))) (le-mod a v)
    ∙ sets_then l i (i + a) (le a v) (le b (v / 256 ^ a)) (ap (λ (n : ℕ). i + n) (sym (length-le a v)))
    ∙ ap (sets l i) (sym (le_split a b v))

-- ---- a part of a whole

-- what stands there already, stored again
pub sets_same : (l : List ℕ) (o n : ℕ) → sets l o (bytes_at o n l) ≡ l
unfolding bytes_at
sets_same l o zero = refl
sets_same l o (suc n) = ap (λ (k : List ℕ). sets k (suc o) (bytes_at (suc o) n l)) (set-get_or l o 0) ∙ sets_same l (suc o) n

set_before : (l : List ℕ) (i j : ℕ) (vs : List ℕ) (x : ℕ) → j < i → set (sets l i vs) j x ≡ sets (set l j x) i vs
set_before l i j [] x h = refl
set_before l i j (v ∷ vs) x h = set_before (set l i v) (suc i) j vs x (omega arith) ∙ ap (λ (k : List ℕ). sets k (suc i) vs) (set_comm l i j v x (λ e. omega arith))

-- stores that do not meet may change places
pub sets-swap : (l : List ℕ) (i j : ℕ) (vs ws : List ℕ) → j + length ws ≤ i → sets (sets l i vs) j ws ≡ sets (sets l j ws) i vs
sets-swap l i j vs [] h = refl
sets-swap l i j vs (w ∷ ws) h = ap (λ (k : List ℕ). sets k (suc j) ws) (set_before l i j vs w (omega arith)) ∙ sets-swap (set l j w) i (suc j) vs ws (omega arith)

-- the later store of the same length wins
pub sets-again : (l : List ℕ) (i : ℕ) (vs ws : List ℕ) → length vs ≡ length ws → sets (sets l i vs) i ws ≡ sets l i ws
sets-again l i [] [] e = refl
sets-again l i [] (w ∷ ws) e = absurd (omega arith)
sets-again l i (v ∷ vs) [] e = absurd (omega arith)
sets-again l i (v ∷ vs) (w ∷ ws) e =
    ap (λ (k : List ℕ). sets k (suc i) ws) (set_before (set l i v) (suc i) i vs w (omega arith) ∙ ap (λ (k : List ℕ). sets k (suc i) vs) (set-set l i v w))
    ∙ sets-again (set l i w) (suc i) vs ws (omega arith)

-- a write over one part of an encoded whole is the whole encoded with that part new
pub over : (s a v w b : List ℕ) (j : ℕ) → length a ≡ j → length v ≡ length w → sets (sets s 0 (a ++ (v ++ b))) j w ≡ sets s 0 (a ++ (w ++ b))
over s a v w b j e l =
    let t = sets s 0 a in
    let k = j + length v in
    let z : j ≡ 0 + length a = sym (zero-add (length a) ∙ e) in
    ap (λ (r : List ℕ). sets r j w) (sym (sets_then s 0 j a (v ++ b) z) ∙ sym (sets-append t j v b))
    ∙ sets-swap (sets t j v) k j b w (omega arith)
    ∙ ap (λ (r : List ℕ). sets r k b) (sets-again t j v w l)
    ∙ sets_then t j k w b (ap (λ (n : ℕ). j + n) l)
    ∙ sets_then s 0 j a (w ++ b) z

bytes_at-set : (l : List ℕ) (i v o n : ℕ) → i < o → bytes_at o n (set l i v) ≡ bytes_at o n l
unfolding bytes_at
bytes_at-set l i v o zero h = refl
bytes_at-set l i v o (suc n) h = λ k. get_or-set_other l i o v 0 (λ e. omega arith) k ∷ bytes_at-set l i v (suc o) n (omega arith) k

-- a store before a place leaves what is read there
pub bytes_at-after : (vs l : List ℕ) (i o n : ℕ) → i + length vs ≤ o → bytes_at o n (sets l i vs) ≡ bytes_at o n l
bytes_at-after [] l i o n h = refl
bytes_at-after (v ∷ vs) l i o n h = bytes_at-after vs (set l i v) (suc i) o n (omega arith) ∙ bytes_at-set l i v o n (omega arith)

before-set : (l : List ℕ) (i v o n : ℕ) → o + n ≤ i → bytes_at o n (set l i v) ≡ bytes_at o n l
unfolding bytes_at
before-set l i v o zero h = refl
before-set l i v o (suc n) h = λ k. get_or-set_other l i o v 0 (λ e. omega arith) k ∷ before-set l i v (suc o) n (omega arith) k

-- a store past a place leaves what is read there
pub bytes_at-before : (vs l : List ℕ) (i o n : ℕ) → o + n ≤ i → bytes_at o n (sets l i vs) ≡ bytes_at o n l
bytes_at-before [] l i o n h = refl
bytes_at-before (v ∷ vs) l i o n h = bytes_at-before vs (set l i v) (suc i) o n (omega arith) ∙ before-set l i v o n h

-- a turn of the loop that copies bytes
pub copy_more : (s t : List ℕ) (o k n : ℕ) (s₁ : List ℕ) → s₁ ≡ sets s o (bytes_at k n t) → set s₁ (o + n) (get_or t (k + n) 0) ≡ sets s o (bytes_at k (n + 1) t)
unfolding bytes_at
copy_more s t o k n s₁ e =
    let v = get_or t (k + n) 0 ∷ [] in
    ap (λ (l : List ℕ). sets l (o + n) v) e
    ∙ sets_then s o (o + n) (bytes_at k n t) v (ap (λ (m : ℕ). o + m) (sym (length-bytes_at k n t)))
    ∙ ap (sets s o) (sym (bytes_at-add k n 1 t))

-- all stored again but for one part in the middle: only that part is stored
pub sets-but : (l : List ℕ) (a b : ℕ) (v : List ℕ) → sets l 0 (bytes_at 0 a l ++ (v ++ bytes_at (a + length v) b l)) ≡ sets l a v
sets-but l a b v =
    let t = sets l a v in
    let j = a + length v in
    let rest = v ++ bytes_at j b l in
    sym (sets_then l 0 a (bytes_at 0 a l) rest (sym (zero-add (length (bytes_at 0 a l)) ∙ length-bytes_at 0 a l)))
    ∙ ap (λ (k : List ℕ). sets k a rest) (sets_same l 0 a)
    ∙ sym (sets-append l a v (bytes_at j b l))
    ∙ ap (λ (k : List ℕ). sets t j k) (sym (bytes_at-after v l a j b (omega arith)))
    ∙ sets_same t j b
