-- The laws of layouts: both round trips, over any list of widths.
-- Assumes nothing.
use Rattle.std.specs.Prelude.{◌≡◌, refl, List, [], ◌∷◌, ◌++◌, ℕ, ◌+◌, ◌*◌, ◌<◌, ◌≤◌, ◌^◌, length, take, drop}
use Rattle.std.proofs.Common.{sym, ap, ap₂, ◌∙◌, append_assoc, add-zero, add_assoc, arith, length-append}
use Rattle.layout.specs.Bytes.{le, un, bytes_at, num_at, Bytes}
use Rattle.layout.specs.Layout.{size, write, read_at, read, Fit}
use Rattle.layout.specs.BytesLaws.{length-le, un-le, le-num_at, le_join, num_at-below, bytes_at-add, bytes_at-append, bytes_at-front, bytes_at-own, bytes_at-in}

pub length-write : (ws vs : List ℕ) → length (write ws vs) ≡ size ws
length-write [] vs = refl
length-write (w ∷ ws) [] = length-append (le w 0) (write ws []) ∙ ap₂ (λ (m n : ℕ). m + n) (length-le w 0) (length-write ws [])
length-write (w ∷ ws) (v ∷ vs) = length-append (le w v) (write ws vs) ∙ ap₂ (λ (m n : ℕ). m + n) (length-le w v) (length-write ws vs)

num_at-le : (p r : List ℕ) (o w v : ℕ) → length p ≡ o → v < 256 ^ w → num_at o w (p ++ (le w v ++ r)) ≡ v
unfolding num_at
num_at-le p r o w v e h =
    let t = le w v ++ r in
    ap (λ (k : ℕ). un (bytes_at k w (p ++ t))) (sym (add-zero (length p) ∙ e))
    ∙ ap un (bytes_at-append p t 0 w)
    ∙ ap (λ (n : ℕ). un (bytes_at 0 n t)) (sym (length-le w v))
    ∙ ap un (bytes_at-front (le w v) r)
    ∙ un-le w v h

read-write-at : (ws vs p r : List ℕ) (o : ℕ) → length p ≡ o → Fit ws vs → read_at o ws (p ++ (write ws vs ++ r)) ≡ vs
read-write-at [] [] p r o e f = refl
read-write-at [] (v ∷ vs) p r o e f = absurd f
read-write-at (w ∷ ws) [] p r o e f = absurd f
read-write-at (w ∷ ws) (v ∷ vs) p r o e f =
    let t = write ws vs ++ r in
    let n : length (p ++ le w v) ≡ o + w = length-append p (le w v) ∙ ap₂ (λ (m n : ℕ). m + n) e (length-le w v) in
    ap (λ (l : List ℕ). read_at o (w ∷ ws) (p ++ l)) (append_assoc (le w v) (write ws vs) r)
    ∙ ap₂ (λ (x : ℕ) (y : List ℕ). x ∷ y) (num_at-le p t o w v e f.0)
    (ap (read_at (o + w) ws) (sym (append_assoc p (le w v) t)) ∙ read-write-at ws vs (p ++ le w v) r (o + w) n f.1)

-- ROUND TRIP: what was written is read back, if each value fits, whatever follows
pub read-write : (ws vs r : List ℕ) → Fit ws vs → read ws (write ws vs ++ r) ≡ vs
read-write ws vs r f = read-write-at ws vs [] r 0 refl f

-- ROUND TRIP: what was read is written back to the same bytes
pub write_read : (o : ℕ) (ws s : List ℕ) → Bytes s → write ws (read_at o ws s) ≡ bytes_at o (size ws) s
unfolding bytes_at
write_read o [] s b = refl
write_read o (w ∷ ws) s b =
    ap₂ (λ (x y : List ℕ). x ++ y) (le-num_at o w s b) (write_read (o + w) ws s b)
    ∙ sym (bytes_at-add o w (size ws) s)

-- what is read fits
pub read_fits : (o : ℕ) (ws s : List ℕ) → Bytes s → Fit ws (read_at o ws s)
read_fits o [] s b = tt
read_fits o (w ∷ ws) s b = (num_at-below o w s b, read_fits (o + w) ws s b)

-- reading looks at the record's own bytes alone
own : (k o m : ℕ) (ws s : List ℕ) → k + size ws ≤ m → read_at k ws (bytes_at o m s) ≡ read_at (o + k) ws s
unfolding num_at
own k o m [] s h = refl
own k o m (w ∷ ws) s h =
    ap₂ (λ (x : ℕ) (y : List ℕ). x ∷ y) (ap un (bytes_at-own k o w m s (omega arith)))
    (own (k + w) o m ws s (omega arith) ∙ ap (λ (n : ℕ). read_at n ws s) (sym (add_assoc o k w)))

pub read-own : (o : ℕ) (ws s : List ℕ) → read_at o ws s ≡ read ws (bytes_at o (size ws) s)
read-own o ws s = sym (own 0 o (size ws) ws s (omega arith) ∙ ap (λ (n : ℕ). read_at n ws s) (add-zero o))

-- a record in the part `&s[a..e]` of a slice, of m bytes, is read as in the slice from byte a on
pub inside : (k m a : ℕ) (ws s : List ℕ) → k + size ws ≤ m → read_at k ws (take m (drop a s)) ≡ read_at (a + k) ws s
unfolding num_at
inside k m a [] s h = refl
inside k m a (w ∷ ws) s h =
    ap₂ (λ (x : ℕ) (y : List ℕ). x ∷ y) (ap un (bytes_at-in k w m a s (omega arith)))
    (inside (k + w) m a ws s (omega arith) ∙ ap (λ (n : ℕ). read_at n ws s) (sym (add_assoc a k w)))

pub read-part : (m a : ℕ) (ws s : List ℕ) → size ws ≤ m → read ws (take m (drop a s)) ≡ read_at a ws s
read-part m a ws s h = inside 0 m a ws s (omega arith) ∙ ap (λ (n : ℕ). read_at n ws s) (add-zero a)

-- ---- a field of a + b bytes is two fields: a padding, or a list of bytes, as numbers that the code can hold

pub write-join : (a b x y : ℕ) (ws vs : List ℕ) → x < 256 ^ a → write (a ∷ b ∷ ws) (x ∷ y ∷ vs) ≡ write ((a + b) ∷ ws) ((y * 256 ^ a + x) ∷ vs)
write-join a b x y ws vs h =
    sym (append_assoc (le a x) (le b y) (write ws vs))
    ∙ ap (λ (l : List ℕ). l ++ write ws vs) (le_join a b x y h)
