-- JOINING SENTENCES (2026-10): frames that are put together of parts are cut part by part, and what the device gets, and the budget, are the sums.
-- Assumes nothing.
use Prim.Native.Nat.{ℕ, zero, suc, ◌+◌, ◌*◌, ◌≤◌, ◌<◌}
use native.Mathlib.Omega.{arith}
use Rattle.std.specs.Prelude.{◌≡◌, drop, replicate}
use Rattle.std.proofs.Math.Path.{refl, ap}
use Rattle.std.proofs.Common.{◌∙◌}
use mathlib.Core.List.{List, [], ◌∷◌, ◌++◌, append_assoc, map}
use Rattle.std.proofs.Math.ListN.{length, take, length-drop, length-append}
use Rattle.std.proofs.lemmas.List.{take-append-le, drop-append-le}
use Rattle.layout.specs.Bytes.{le}
use Rattle.turns.specs.Cut.{cut_by, cut, message}
use Rattle.turns.specs.CutLaws.{cut-same}
use Rattle.turns.specs.Log.{Line, sends}
use Rattle.turns.specs.Asked.{Whole}

positive : (p k n : ℕ) → suc n ≡ k * p → 0 < p
positive zero k n e = absurd (omega arith)
positive (suc p) k n e = omega arith

module _ {A : Type 0} (period : ℕ) where
  -- "a whole number of periods (none counts)"
  abbrev pub Periods : List A → Type 0
  Periods a = (k : ℕ) × (length a ≡ k * period)

  parts-by : (k : ℕ) (a b : List A) → length a ≡ k * period → cut period (a ++ b) ≡ cut period a ++ cut period b
  unfolding cut_by
  parts-by zero [] b e = refl
  parts-by zero (x ∷ a) b e = absurd (omega arith)
  parts-by (suc k) [] b e = refl
  parts-by (suc k) (x ∷ a) b e =
      let some : 0 < period = positive period (suc k) (length a) e in
      let enough : period ≤ length (x ∷ a) = omega arith in
      let rest = length-drop period (x ∷ a) in
      let left : length (drop period (x ∷ a)) ≡ k * period = omega arith in
      let joined = length-append a b in
      let short = length-append (drop period (x ∷ a)) b in
      ap (λ (l : List A). l ∷ cut_by (length (a ++ b)) period (drop period ((x ∷ a) ++ b))) (take-append-le period (x ∷ a) b enough)
      ∙ ap (λ (l : List A). take period (x ∷ a) ∷ cut_by (length (a ++ b)) period l) (drop-append-le period (x ∷ a) b enough)
      ∙ ap (λ (l : List (List A)). take period (x ∷ a) ∷ l)
      (cut-same (length (a ++ b)) (length (drop period (x ∷ a) ++ b)) period (drop period (x ∷ a) ++ b) some (omega arith) (omega arith)
      ∙ parts-by k (drop period (x ∷ a)) b left
      ∙ ap (λ (l : List (List A)). l ++ cut period b) (cut-same (length (drop period (x ∷ a))) (length a) period (drop period (x ∷ a)) some (omega arith) (omega arith)))

  -- "cutting two frame buffers joined gives the periods of the first followed by those of the second, if the first is a whole number of periods"
  pub cut-of-parts : (a b : List A) → Periods a → cut period (a ++ b) ≡ cut period a ++ cut period b
  cut-of-parts a b w = parts-by w.0 a b w.1

  -- a whole number of periods joined to another is one
  pub periods-joined : (a b : List A) → Periods a → Periods b → Periods (a ++ b)
  periods-joined a b v w = (v.0 + w.0, omega (arith, length-append a b, v.1, w.1))

  -- "joining three such parts does not depend on grouping": the frames are the same, and so are the periods, however they are cut and put together
  pub joining-groups : (a b c : List A) → Periods a → Periods b
      → (cut period ((a ++ b) ++ c) ≡ cut period (a ++ (b ++ c)))
      × (cut period ((a ++ b) ++ c) ≡ (cut period a ++ cut period b) ++ cut period c)
      × (cut period (a ++ (b ++ c)) ≡ cut period a ++ (cut period b ++ cut period c))
  joining-groups a b c v w = (
    ap (λ (l : List A). cut period l) (append_assoc a b c),
    cut-of-parts (a ++ b) c (periods-joined a b v w) ∙ ap (λ (l : List (List A)). l ++ cut period c) (cut-of-parts a b v),
    cut-of-parts a (b ++ c) v ∙ ap (λ (l : List (List A)). cut period a ++ l) (cut-of-parts b c w),
  )

  -- so the number of periods is the sum, and (n of the first + n of the second) * g + 1 turns are enough for the whole (`ok-in-time`)
  pub parts-count : (a b : List A) → Periods a → length (cut period (a ++ b)) ≡ length (cut period a) + length (cut period b)
  parts-count a b w = ap length (cut-of-parts a b w) ∙ length-append (cut period a) (cut period b)

-- ---- an announcement of two parts that was played whole: the device got the messages of the first, then those of the second

map-joined : {A B : Type 0} (f : A → B) (xs ys : List A) → map f (xs ++ ys) ≡ map f xs ++ map f ys
map-joined f [] ys = refl
map-joined f (x ∷ xs) ys = ap (λ l. f x ∷ l) (map-joined f xs ys)

pub joined-announcement : (stream period : ℕ) (a b : List ℕ) (log : List Line) → Periods period a → Whole stream period (a ++ b) log → let behind : List ℕ → List ℕ = λ p. le 4 stream ++ p in
    map (message stream (a ++ b)) (sends log) ≡ map behind (cut period a) ++ map behind (cut period b)
joined-announcement stream period a b log w h =
    let behind : List ℕ → List ℕ = λ p. le 4 stream ++ p in
    h.bytes ∙ ap (map behind) (cut-of-parts period a b w) ∙ map-joined behind (cut period a) (cut period b)

-- an instance: two words of 8 and 4 bytes and one of 5, in periods of 4
pub three-words : (Periods 4 (replicate {A = ℕ} 8 1)) × (Periods 4 (replicate {A = ℕ} 4 2))
    × (map (length {A = ℕ}) (cut 4 ((replicate 8 1 ++ replicate 4 2) ++ replicate 5 3)) ≡ 4 ∷ 4 ∷ 4 ∷ 4 ∷ 1 ∷ [])
unfolding cut_by
three-words = ((2, refl), (1, refl), refl)
