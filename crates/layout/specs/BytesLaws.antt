-- The laws of numbers in bytes, over every width and place.
-- Assumes nothing.
use Rattle.std.specs.Prelude.{◌≡◌, refl, List, [], ◌∷◌, ◌++◌, ℕ, zero, suc, ◌+◌, ◌-◌, ◌*◌, ◌/◌, ◌%◌, ◌<◌, ◌≤◌, ◌^◌, length, get_or, take, drop, replicate}
use Rattle.std.specs.Int.{w16, w32, w64, byte_at, byte_worth, bytes_low_first, sum_through, from_le_bytes, to_le_bytes}
use Rattle.std.proofs.Common.{sym, ap, ap₂, ◌∙◌, append-nil, length-drop, add_comm, add-one, mod-lt, div-add-mod', div-lt_iff_lt-mul, pow-suc, add-zero, zero-add, add-suc, suc-add, mul-one, add-mul, mul_assoc, mul_comm, add_assoc, div-one, arith, lit<, get_or-append-add, get_or-take, get_or-drop}
use Rattle.std.proofs.Math.Nat.{pow-zero, one-le-pow, div-div-eq-div-mul}
use Rattle.std.proofs.Math.Arith.{digits_div, digits_mod, mod-mul, lt-one}
use Rattle.std.proofs.Math.ListN.{get_or-eq_default}
use Rattle.std.proofs.lemmas.List.{drop-replicate}
use Rattle.std.proofs.Math.Seq.{take-length}
use Rattle.layout.specs.Bytes.{le, un, bytes_at, num_at, Bytes}

-- ---- bytes at a place

pub length-bytes_at : (o n : ℕ) (s : List ℕ) → length (bytes_at o n s) ≡ n
unfolding bytes_at
length-bytes_at o zero s = refl
length-bytes_at o (suc n) s = ap suc (length-bytes_at (suc o) n s)

pub bytes_at-add : (o a b : ℕ) (s : List ℕ) → bytes_at o (a + b) s ≡ bytes_at o a s ++ bytes_at (o + a) b s
unfolding bytes_at
bytes_at-add o zero b s = λ i. bytes_at (sym (add-zero o) i) (zero-add b i) s
bytes_at-add o (suc a) b s =
    ap (λ (n : ℕ). bytes_at o n s) (suc-add a b)
    ∙ ap (λ (l : List ℕ). get_or s o 0 ∷ l)
    (bytes_at-add (suc o) a b s ∙ ap (λ (k : ℕ). bytes_at (suc o) a s ++ bytes_at k b s) (suc-add o a ∙ sym (add-suc o a)))

-- past the end there is 0
pub bytes_at-zero : (o n : ℕ) (s : List ℕ) → length s ≤ o → un (bytes_at o n s) ≡ 0
unfolding bytes_at un
bytes_at-zero o zero s h = refl
bytes_at-zero o (suc n) s h =
    ap₂ (λ (x y : ℕ). x * 256 + y) (bytes_at-zero (suc o) n s (omega arith)) (get_or-eq_default s 0 h)

-- what stands before is passed over
pub bytes_at-append : (a t : List ℕ) (k n : ℕ) → bytes_at (length a + k) n (a ++ t) ≡ bytes_at k n t
unfolding bytes_at
bytes_at-append a t k zero = refl
bytes_at-append a t k (suc n) = λ i. get_or-append-add a t k 0 i ∷ (ap (λ (z : ℕ). bytes_at z n (a ++ t)) (sym (add-suc (length a) k)) ∙ bytes_at-append a t (suc k) n) i

bytes_at-tail : (b : ℕ) (t : List ℕ) (o n : ℕ) → bytes_at (suc o) n (b ∷ t) ≡ bytes_at o n t
unfolding bytes_at
bytes_at-tail b t o zero = refl
bytes_at-tail b t o (suc n) = ap (λ (l : List ℕ). get_or t o 0 ∷ l) (bytes_at-tail b t (suc o) n)

-- the front of a list
pub bytes_at-front : (a t : List ℕ) → bytes_at 0 (length a) (a ++ t) ≡ a
unfolding bytes_at
bytes_at-front [] t = refl
bytes_at-front (x ∷ a) t = ap (λ (l : List ℕ). x ∷ l) (bytes_at-tail x (a ++ t) 0 (length a) ∙ bytes_at-front a t)

pub bytes_at-all : (a : List ℕ) (n : ℕ) → length a ≡ n → bytes_at 0 n a ≡ a
bytes_at-all a n e = (λ i. bytes_at 0 (sym e i) (sym (append-nil a) i)) ∙ bytes_at-front a []

-- inside the list, it is the library's part of a list
pub bytes_at-part : (o n : ℕ) (s : List ℕ) → o + n ≤ length s → bytes_at o n s ≡ take n (drop o s)
unfolding bytes_at
bytes_at-part o zero s h = refl
bytes_at-part zero (suc n) [] h = absurd (omega arith)
bytes_at-part zero (suc n) (x ∷ s) h = ap (λ (l : List ℕ). x ∷ l) (bytes_at-tail x s 0 n ∙ bytes_at-part zero n s (omega arith))
bytes_at-part (suc o) (suc n) [] h = absurd (omega arith)
bytes_at-part (suc o) (suc n) (x ∷ s) h = bytes_at-tail x s o (suc n) ∙ bytes_at-part o (suc n) s (omega arith)

-- bytes in the part `&s[a..e]` of a slice are the slice's own
pub bytes_at-in : (o n m a : ℕ) (s : List ℕ) → o + n ≤ m → bytes_at o n (take m (drop a s)) ≡ bytes_at (a + o) n s
unfolding bytes_at
bytes_at-in o zero m a s h = refl
bytes_at-in o (suc n) m a s h =
    λ i. (get_or-take m (drop a s) o 0 (omega arith) ∙ get_or-drop a s o 0) i
    ∷ (bytes_at-in (suc o) n m a s (omega arith) ∙ ap (λ (k : ℕ). bytes_at k n s) (add-suc a o)) i

-- bytes in what is left from a place on are the slice's own
pub bytes_at-drop : (k n a : ℕ) (s : List ℕ) → bytes_at k n (drop a s) ≡ bytes_at (a + k) n s
unfolding bytes_at
bytes_at-drop k zero a s = refl
bytes_at-drop k (suc n) a s =
    λ i. get_or-drop a s k 0 i
    ∷ (bytes_at-drop (suc k) n a s ∙ ap (λ (z : ℕ). bytes_at z n s) (add-suc a k)) i

pub bytes_at-zeros : (o n : ℕ) (s : List ℕ) → length s ≤ o → bytes_at o n s ≡ replicate n 0
unfolding bytes_at
bytes_at-zeros o zero s h = refl
bytes_at-zeros o (suc n) s h = λ i. get_or-eq_default s 0 h i ∷ bytes_at-zeros (suc o) n s (omega arith) i

pub bytes_at-first : (o n : ℕ) (s : List ℕ) → n ≤ length (drop o s) → bytes_at o n s ≡ take n (drop o s)
unfolding bytes_at
bytes_at-first o zero s h = refl
bytes_at-first o (suc n) s h =
    let e : length (drop o s) ≡ length s - o = length-drop o s in
    bytes_at-part o (suc n) s (omega arith)

-- across the end of the list, 0 stands behind what is left of it
pub bytes_at-rest : (o n : ℕ) (s : List ℕ) → length s ≤ o + n → bytes_at o n s ≡ drop o s ++ drop (length (drop o s)) (replicate n 0)
bytes_at-rest o n s h =
    let m = length (drop o s) in
    let e : m ≡ length s - o = length-drop o s in
    let k : n ≡ m + (n - m) = omega arith in
    ap (λ (k : ℕ). bytes_at o k s) k
    ∙ bytes_at-add o m (n - m) s
    ∙ ap₂ (λ (x y : List ℕ). x ++ y) (bytes_at-first o m s (omega arith) ∙ take-length (drop o s)) (bytes_at-zeros (o + m) (n - m) s (omega arith) ∙ sym (drop-replicate m n 0))

-- reading looks at its own bytes alone
pub get_d-bytes_at : (o n k : ℕ) (s : List ℕ) → k < n → get_or (bytes_at o n s) k 0 ≡ get_or s (o + k) 0
unfolding bytes_at
get_d-bytes_at o zero k s h = absurd (omega arith)
get_d-bytes_at o (suc n) zero s h = ap (λ (z : ℕ). get_or s z 0) (sym (add-zero o))
get_d-bytes_at o (suc n) (suc k) s h = get_d-bytes_at (suc o) n k s (omega arith) ∙ ap (λ (z : ℕ). get_or s z 0) (suc-add o k ∙ sym (add-suc o k))

pub bytes_at-own : (k o n m : ℕ) (s : List ℕ) → k + n ≤ m → bytes_at k n (bytes_at o m s) ≡ bytes_at (o + k) n s
unfolding bytes_at
bytes_at-own k o zero m s h = refl
bytes_at-own k o (suc n) m s h =
    λ i. get_d-bytes_at o m k s (omega arith) i
    ∷ (bytes_at-own (suc k) o n m s (omega arith) ∙ ap (λ (z : ℕ). bytes_at z n s) (add-suc o k)) i

pub bytes-bytes_at : (o n : ℕ) (s : List ℕ) → Bytes s → Bytes (bytes_at o n s)
unfolding bytes_at
bytes-bytes_at o zero s b k = lit< tt
bytes-bytes_at o (suc n) s b zero = b o
bytes-bytes_at o (suc n) s b (suc k) = bytes-bytes_at (suc o) n s b k

-- ---- a number and its bytes

pub length-le : (w v : ℕ) → length (le w v) ≡ w
unfolding le
length-le zero v = refl
length-le (suc w) v = ap suc (length-le w (v / 256))

pub bytes_le : (w v : ℕ) → Bytes (le w v)
unfolding le
bytes_le zero v k = lit< tt
bytes_le (suc w) v zero = mod-lt v (lit< tt)
bytes_le (suc w) v (suc k) = bytes_le w (v / 256) k

-- a number that fits is what its bytes stand for
pub un-le : (w v : ℕ) → v < 256 ^ w → un (le w v) ≡ v
unfolding un le
un-le zero v h = sym (lt-one (rw pow-zero at h))
un-le (suc w) v h =
    ap (λ (x : ℕ). x * 256 + v % 256) (un-le w (v / 256) ((div-lt_iff_lt-mul (lit< tt)).1 (rw pow-suc at h)))
    ∙ div-add-mod' v 256

-- bytes are those of the number that they stand for
pub le-un : (bs : List ℕ) → Bytes bs → le (length bs) (un bs) ≡ bs
unfolding un le
le-un [] b = refl
le-un (x ∷ bs) b =
    ap₂ (λ (y : ℕ) (l : List ℕ). y ∷ l) (digits_mod (un bs) (b 0))
    (ap (λ (n : ℕ). le (length bs) n) (digits_div (un bs) (b 0)) ∙ le-un bs (λ k. b (suc k)))

-- what bytes stand for fits in as many bytes
pub un-below : (bs : List ℕ) → Bytes bs → un bs < 256 ^ length bs
unfolding un
un-below [] b = lit< tt
un-below (x ∷ bs) b =
    let h : x < 256 = b 0 in
    let q : un bs < 256 ^ length bs = un-below bs (λ k. b (suc k)) in
    rw pow-suc (omega arith)

pub num_at-below : (o w : ℕ) (s : List ℕ) → Bytes s → num_at o w s < 256 ^ w
unfolding num_at
num_at-below o w s b = rw length-bytes_at at (un-below (bytes_at o w s) (bytes-bytes_at o w s b))

-- what was read at a place, written again, is the bytes that stand there
pub le-num_at : (o w : ℕ) (s : List ℕ) → Bytes s → le w (num_at o w s) ≡ bytes_at o w s
unfolding num_at
le-num_at o w s b = rw length-bytes_at at (le-un (bytes_at o w s) (bytes-bytes_at o w s b))

pub num_at-out : (o w : ℕ) (s : List ℕ) → length s ≤ o → num_at o w s ≡ 0
unfolding num_at
num_at-out o w s h = bytes_at-zero o w s h

-- a number among bytes that were taken apart
pub num_at-own : (o n m : ℕ) (s : List ℕ) → n ≤ m → num_at 0 n (bytes_at o m s) ≡ num_at o n s
unfolding num_at
num_at-own o n m s h = ap un (bytes_at-own 0 o n m s (omega arith) ∙ ap (λ (k : ℕ). bytes_at k n s) (add-zero o))

pub num_at-one : (o : ℕ) (s : List ℕ) → num_at o 1 s ≡ get_or s o 0
unfolding num_at un bytes_at
num_at-one o s = zero-add (get_or s o 0)

-- ---- THE LAW OF WIDTHS: a number of a + b bytes is two, of a and of b

pub un-append : (a b : List ℕ) → un (a ++ b) ≡ un b * 256 ^ length a + un a
unfolding un
un-append [] b = sym (add-zero (un b * 1) ∙ mul-one (un b))
un-append (x ∷ a) b =
    ap (λ (n : ℕ). n * 256 + x) (un-append a b)
    ∙ simp (add-mul, mul_assoc, pow-suc, add_assoc)

pub num_at-split : (a b o : ℕ) (s : List ℕ) → num_at o (a + b) s ≡ num_at (o + a) b s * 256 ^ a + num_at o a s
unfolding num_at
num_at-split a b o s =
    ap un (bytes_at-add o a b s)
    ∙ un-append (bytes_at o a s) (bytes_at (o + a) b s)
    ∙ ap (λ (n : ℕ). un (bytes_at (o + a) b s) * 256 ^ n + un (bytes_at o a s)) (length-bytes_at o a s)

pub le-mod : (a v : ℕ) → le a (v % 256 ^ a) ≡ le a v
unfolding le
le-mod zero v = refl
le-mod (suc a) v =
    let p : 0 < 256 ^ a = one-le-pow a 256 (lit< tt) in
    let e : v % 256 ^ suc a ≡ (v / 256 % 256 ^ a) * 256 + v % 256 = ap (λ (n : ℕ). v % n) (pow-suc 256 a) ∙ mod-mul v p (lit< tt) in
    ap₂ (λ (x : ℕ) (y : List ℕ). x ∷ y)
    (ap (λ (n : ℕ). n % 256) e ∙ digits_mod (v / 256 % 256 ^ a) (mod-lt v (lit< tt)))
    (ap (λ (n : ℕ). le a (n / 256)) e ∙ ap (le a) (digits_div (v / 256 % 256 ^ a) (mod-lt v (lit< tt))) ∙ le-mod a (v / 256))

pub le_split : (a b v : ℕ) → le (a + b) v ≡ le a v ++ le b (v / 256 ^ a)
unfolding le
le_split zero b v = ap₂ le (zero-add b) (sym (div-one v))
le_split (suc a) b v =
    ap (λ (n : ℕ). le n v) (suc-add a b)
    ∙ ap (λ (l : List ℕ). v % 256 ∷ l)
    (le_split a b (v / 256)
    ∙ ap (λ (n : ℕ). le a (v / 256) ++ le b n) (div-div-eq-div-mul v 256 (256 ^ a) ∙ ap (λ (n : ℕ). v / n) (mul_comm 256 (256 ^ a) ∙ sym (pow-suc 256 a))))

-- two numbers side by side are one
pub le_join : (a b x y : ℕ) → x < 256 ^ a → le a x ++ le b y ≡ le (a + b) (y * 256 ^ a + x)
le_join a b x y h =
    sym
    (le_split a b (y * 256 ^ a + x)
    ∙ ap₂ (λ (k l : List ℕ). k ++ l)
    (sym (le-mod a (y * 256 ^ a + x)) ∙ ap (le a) (digits_mod y h))
    (ap (le b) (digits_div y h)))

-- byte i of a number
pub get_d_le : (w v i : ℕ) → i < w → get_or (le w v) i 0 ≡ v / 256 ^ i % 256
unfolding le
get_d_le zero v i h = absurd (omega arith)
get_d_le (suc w) v zero h = sym (ap (λ (n : ℕ). v / n % 256) (pow-zero 256) ∙ ap (λ (n : ℕ). n % 256) (div-one v))
get_d_le (suc w) v (suc i) h =
    get_d_le w (v / 256) i (omega arith)
    ∙ ap (λ (n : ℕ). n % 256) (div-div-eq-div-mul v 256 (256 ^ i) ∙ ap (λ (n : ℕ). v / n) (mul_comm 256 (256 ^ i) ∙ sym (pow-suc 256 i)))

-- ---- the library's bytes of a number are these

byte_at-div : (i v : ℕ) → byte_at i v ≡ v / 256 ^ i % 256
byte_at-div zero v = sym (ap (λ (n : ℕ). v / n % 256) (pow-zero 256) ∙ ap (λ (n : ℕ). n % 256) (div-one v))
byte_at-div (suc i) v = refl

low_first-le : (i n v : ℕ) → bytes_low_first i n v ≡ le n (v / 256 ^ i)
unfolding le
low_first-le i zero v = refl
low_first-le i (suc n) v =
    ap₂ (λ (x : ℕ) (l : List ℕ). x ∷ l) (byte_at-div i v)
    (low_first-le (suc i) n v ∙ ap (le n) (ap (λ (k : ℕ). v / k) (pow-suc 256 i) ∙ sym (div-div-eq-div-mul v (256 ^ i) 256)))

low-le : (n v : ℕ) → bytes_low_first 0 n v ≡ le n v
low-le n v = low_first-le 0 n v ∙ ap (le n) (ap (λ (k : ℕ). v / k) (pow-zero 256) ∙ div-one v)

pub to_le_bytes-le_2 : (v : ℕ) → to_le_bytes w16 v ≡ le 2 v
to_le_bytes-le_2 v = low-le 2 v

pub to_le_bytes-le_4 : (v : ℕ) → to_le_bytes w32 v ≡ le 4 v
to_le_bytes-le_4 v = low-le 4 v

pub to_le_bytes-le_8 : (v : ℕ) → to_le_bytes w64 v ≡ le 8 v
to_le_bytes-le_8 v = low-le 8 v

sum-num_at : (n : ℕ) (s : List ℕ) → sum_through (λ i. byte_worth i (get_or s i 0)) n ≡ num_at 0 (suc n) s
sum-num_at zero s = sym (num_at-one 0 s)
sum-num_at (suc n) s =
    add_comm _ _
    ∙ ap₂ (λ (x y : ℕ). x * 256 ^ suc n + y) (sym (num_at-one (suc n) s)) (sum-num_at n s)
    ∙ ap (λ (k : ℕ). num_at k 1 s * 256 ^ suc n + num_at 0 (suc n) s) (sym (zero-add (suc n)))
    ∙ sym (num_at-split (suc n) 1 0 s)
    ∙ ap (λ (k : ℕ). num_at 0 k s) (add-one (suc n))

sum-un : (n : ℕ) (s : List ℕ) → length s ≡ suc n → sum_through (λ i. byte_worth i (get_or s i 0)) n ≡ un s
unfolding num_at
sum-un n s e = sum-num_at n s ∙ ap un (bytes_at-all s (suc n) e)

pub from_le_bytes-un_2 : (s : List ℕ) → length s ≡ 2 → from_le_bytes w16 s ≡ un s
from_le_bytes-un_2 s e = sum-un 1 s e

pub from_le_bytes-un_4 : (s : List ℕ) → length s ≡ 4 → from_le_bytes w32 s ≡ un s
from_le_bytes-un_4 s e = sum-un 3 s e

pub from_le_bytes-un_8 : (s : List ℕ) → length s ≡ 8 → from_le_bytes w64 s ≡ un s
from_le_bytes-un_8 s e = sum-un 7 s e
