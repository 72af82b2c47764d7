-- A part of a store, written again with something in it new: only that is stored. Over the part's place; of rows, over their size, what reads one and what
-- writes one.
-- Assumes nothing.
use Rattle.std.specs.Prelude.{◌≡◌, ℕ, suc, ◌+◌, ◌-◌, ◌*◌, ◌<◌, ◌≤◌, List, ◌++◌, length, take, drop, slice_set, refl}
use Rattle.std.proofs.Common.{sym, ap, ◌∙◌, append_assoc, suc-mul, le_refl, arith, take_at, drop_at}
use Rattle.std.proofs.lemmas.List.Edits.{sets, sets-eq}
use Rattle.layout.specs.Bytes.{bytes_at, Bytes}
use Rattle.layout.specs.Rows.{rows_at, rows_bytes}
use Rattle.layout.specs.BytesLaws.{length-bytes_at, bytes_at-add}
use Rattle.layout.specs.StoreLaws.{sets_then, sets_same, bytes_at-after}
use Rattle.layout.specs.RowsLaws.{length-rows, rows_take, rows_drop, rows_same, rows-with}

-- from place o on, u holds what s held
abbrev pub Alike : ℕ → List ℕ → List ℕ → Type 0
Alike o u s = (p m : ℕ) → o ≤ p → bytes_at p m u ≡ bytes_at p m s

pub alike_self : (o : ℕ) (s : List ℕ) → Alike o s s
alike_self o s p m h = refl

pub alike-on : (o j : ℕ) (u s : List ℕ) → Alike o u s → o ≤ j → Alike j u s
alike-on o j u s a h p m k = a p m (omega arith)

-- a store before a place changes nothing from there on
pub alike-after : (o i j : ℕ) (u s v : List ℕ) → Alike o u s → o ≤ j → i + length v ≤ j → Alike j (sets u i v) s
alike-after o i j u s v a h k p m q = bytes_at-after v u i p m (omega arith) ∙ a p m (omega arith)

-- what stands there already, stored again
pub kept : (o m : ℕ) (u s : List ℕ) → Alike o u s → sets u o (bytes_at o m s) ≡ u
kept o m u s a = ap (sets u o) (sym (a o m (le_refl o))) ∙ sets_same u o m

-- ---- bytes as they are, some of them new

take-bytes : (h m k : ℕ) (s : List ℕ) → k ≤ m → take k (bytes_at h m s) ≡ bytes_at h k s
take-bytes h m k s q =
    let e : m ≡ k + (m - k) = omega arith in
    ap (λ (z : ℕ). take k (bytes_at h z s)) e ∙ ap (take k) (bytes_at-add h k (m - k) s) ∙ take_at (bytes_at h k s) _ k (length-bytes_at h k s)

drop-bytes : (h m k : ℕ) (s : List ℕ) → k ≤ m → drop k (bytes_at h m s) ≡ bytes_at (h + k) (m - k) s
drop-bytes h m k s q =
    let e : m ≡ k + (m - k) = omega arith in
    ap (λ (z : ℕ). drop k (bytes_at h z s)) e ∙ ap (drop k) (bytes_at-add h k (m - k) s) ∙ drop_at (bytes_at h k s) _ k (length-bytes_at h k s)

pub part-stored : (h m o : ℕ) (u s v : List ℕ) → Alike h u s → o + length v ≤ m → sets u h (sets (bytes_at h m s) o v) ≡ sets u (h + o) v
part-stored h m o u s v a q =
    let k = o + length v in
    let j = h + k in
    let c = bytes_at j (m - k) s in
    let l : length (bytes_at h m s) ≡ m = length-bytes_at h m s in
    let e : j ≡ h + o + length v = omega arith in
    ap (sets u h) (sets-eq v (bytes_at h m s) o (omega arith) ∙ (λ i. (take-bytes h m o s (omega arith) i ++ v) ++ drop-bytes h m k s q i) ∙ append_assoc (bytes_at h o s) v c)
    ∙ sym (sets_then u h (h + o) (bytes_at h o s) (v ++ c) (ap (λ (z : ℕ). h + z) (sym (length-bytes_at h o s))))
    ∙ ap (λ (x : List ℕ). sets x (h + o) (v ++ c)) (kept h o u s a)
    ∙ sym (sets_then u (h + o) j v c e)
    ∙ kept j (m - k) (sets u (h + o) v) s (alike-after h (h + o) j u s v a (omega arith) (omega arith))

-- ---- rows

module _ {A : Type 0} (f : ℕ → List ℕ → A) (g : A → List ℕ) (size : ℕ) (same : (o : ℕ) (s : List ℕ) → Bytes s → g (f o s) ≡ bytes_at o size s)
    (o n : ℕ) (u s : List ℕ) (b : Bytes s) (a : Alike o u s) where
  -- as it was
  pub table_kept : sets u o (rows_bytes g (rows_at f size o n s)) ≡ u
  table_kept = ap (sets u o) (rows_same f g size same o n s b) ∙ kept o (n * size) u s a

  -- its record k new: that record's bytes
  pub table-set : (k : ℕ) (y : A) → length (g y) ≡ size → k < n → sets u o (rows_bytes g (slice_set (rows_at f size o n s) k y)) ≡ sets u (o + k * size) (g y)
  table-set k y l h =
      let j = o + k * size in
      let z = o + suc k * size in
      let w = bytes_at z ((n - suc k) * size) s in
      let r : length (rows_at f size o n s) ≡ n = length-rows f size o n s in
      let e : z ≡ j + length (g y) = omega (arith, suc-mul k size) in
      ap (sets u o)
      (rows-with g (rows_at f size o n s) k y (omega arith)
      ∙ (λ i. (ap (rows_bytes g) (rows_take f size o n k s (omega arith)) ∙ rows_same f g size same o k s b) i
      ++ (g y ++ (ap (rows_bytes g) (rows_drop f size o n (suc k) s (omega arith)) ∙ rows_same f g size same z (n - suc k) s b) i)))
      ∙ sym (sets_then u o j (bytes_at o (k * size) s) (g y ++ w) (ap (λ (x : ℕ). o + x) (sym (length-bytes_at o (k * size) s))))
      ∙ ap (λ (x : List ℕ). sets x j (g y ++ w)) (kept o (k * size) u s a)
      ∙ sym (sets_then u j z (g y) w e)
      ∙ kept z ((n - suc k) * size) (sets u j (g y)) s (alike-after o j z u s (g y) a (omega arith) (omega arith))
