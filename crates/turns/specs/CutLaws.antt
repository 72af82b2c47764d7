-- Cutting: what goes out as slots, offsets and lengths shows the periods of the frames; the periods joined are the frames, each but the last is whole.
-- Assumes nothing.
use Prim.Native.Nat.{ℕ, zero, suc, ◌+◌, ◌-◌, ◌*◌, ◌%◌, ◌≤◌, ◌<◌, min}
use native.Mathlib.Omega.{arith}
use Rattle.std.proofs.Common.{zero-add, ◌∙◌, length-take, take-append-drop, drop-drop, take-add, lt-ltb, le-ltb}
use Rattle.std.proofs.Math.Nat.{zero-min, min-zero, suc-min-suc}
use Rattle.std.proofs.Math.Decide.{dec_lt}
use Rattle.std.specs.Prelude.{◌≡◌, ltb, length, get_or, drop, None}
use Rattle.std.proofs.Math.Path.{refl, ap, sym}
use mathlib.Core.List.{List, [], ◌∷◌, ◌++◌, map}
use Rattle.std.proofs.Math.ListN.{take, length-drop}
use Rattle.std.proofs.lemmas.List.{length-map}
use Rattle.std.proofs.Math.Seq.{take-nil}
use Rattle.codes.specs.Says.{pick}
use Rattle.turns.specs.Cut.{cut_by, cut, join, span_of, payload}
use Rattle.turns.specs.Ring.{after}
use Rattle.turns.specs.Types.{Sent, sent_period}

-- at most fuel periods of total bytes, from an offset and a slot on, in the order in which they go out
unfoldable pub spans : ℕ → ℕ → ℕ → ℕ → ℕ → List Sent
spans zero period total offset slot = []
spans (suc fuel) period total offset slot =
    pick (ltb offset total) (sent_period slot offset (span_of period total offset) ∷ spans fuel period total (offset + span_of period total offset) (after slot)) []

-- all of them: slots from 0, offsets from 0
abbrev pub plan : ℕ → ℕ → List Sent
plan period total = spans total period total 0 0

-- with a period left, and with none
pub spans-more : (f p t o s : ℕ) → o < t → spans (suc f) p t o s ≡ sent_period s o (span_of p t o) ∷ spans f p t (o + span_of p t o) (after s)
unfolding spans
spans-more f p t o s h = simp (lt-ltb o t h)

pub spans-done : (f p t o s : ℕ) → t ≤ o → spans f p t o s ≡ []
unfolding spans
spans-done zero p t o s h = refl
spans-done (suc f) p t o s h = simp (le-ltb o t h)

module _ {A : Type 0} where
  take_min : (p : ℕ) (l : List A) → take (min p (length l)) l ≡ take p l
  take_min zero l = ap (λ (k : ℕ). take k l) (zero-min (length l))
  take_min (suc p) [] = ap (λ (k : ℕ). take {A = A} k []) (min-zero (suc p))
  take_min (suc p) (x ∷ xs) = ap (λ (k : ℕ). take k (x ∷ xs)) (suc-min-suc p (length xs)) ∙ ap (λ (l : List A). x ∷ l) (take_min p xs)

  drop_min : (p : ℕ) (l : List A) → drop (min p (length l)) l ≡ drop p l
  drop_min zero l = ap (λ (k : ℕ). drop k l) (zero-min (length l))
  drop_min (suc p) [] = ap (λ (k : ℕ). drop {A = A} k []) (min-zero (suc p))
  drop_min (suc p) (x ∷ xs) = ap (λ (k : ℕ). drop k (x ∷ xs)) (suc-min-suc p (length xs)) ∙ drop_min p xs

  cut-more : (f p : ℕ) (xs : List A) → 0 < length xs → cut_by (suc f) p xs ≡ take p xs ∷ cut_by f p (drop p xs)
  unfolding cut_by
  cut-more f p [] h = absurd (omega arith)
  cut-more f p (x ∷ xs) h = refl

  cut-none : (f p : ℕ) (xs : List A) → length xs ≡ 0 → cut_by f p xs ≡ []
  unfolding cut_by
  cut-none zero p xs h = refl
  cut-none (suc f) p [] h = refl
  cut-none (suc f) p (x ∷ xs) h = absurd (omega arith)

  -- cutting does not depend on spare fuel
  pub cut-same : (f g p : ℕ) (xs : List A) → 0 < p → length xs ≤ f → length xs ≤ g → cut_by f p xs ≡ cut_by g p xs
  unfolding cut_by
  cut-same zero zero p xs h a b = refl
  cut-same zero (suc g) p [] h a b = refl
  cut-same zero (suc g) p (x ∷ xs) h a b = absurd (omega arith)
  cut-same (suc f) zero p [] h a b = refl
  cut-same (suc f) zero p (x ∷ xs) h a b = absurd (omega arith)
  cut-same (suc f) (suc g) p [] h a b = refl
  cut-same (suc f) (suc g) p (x ∷ xs) h a b =
      let less = length-drop p (x ∷ xs) in
      ap (λ (l : List (List A)). take p (x ∷ xs) ∷ l) (cut-same f g p (drop p (x ∷ xs)) h (omega arith) (omega arith))

  shown_by : (frames : List A) (f p o s : ℕ) → ((o s : ℕ) → map (payload frames) (spans f p (length frames) o s) ≡ cut_by f p (drop o frames))
      → Dec (o < length frames) → map (payload frames) (spans (suc f) p (length frames) o s) ≡ cut_by (suc f) p (drop o frames)
  shown_by frames f p o s k (yes h) =
      let l : length (drop o frames) ≡ length frames - o = length-drop o frames in
      rw (spans-more f p (length frames) o s h, cut-more f p (drop o frames) (omega arith), k, ← drop-drop (span_of p (length frames) o) o frames, ← l, take_min, drop_min)
  shown_by frames f p o s k (no h) =
      rw (spans-done (suc f) p (length frames) o s (omega arith), cut-none (suc f) p (drop o frames) (omega (arith, length-drop o frames)))

  -- the spans show the periods
  pub shown : (frames : List A) (f p o s : ℕ) → map (payload frames) (spans f p (length frames) o s) ≡ cut_by f p (drop o frames)
  unfolding spans cut_by
  shown frames zero p o s = refl
  shown frames (suc f) p o s = shown_by frames f p o s (λ o s. shown frames f p o s) (dec_lt o (length frames))

  joined_by : (f p : ℕ) (xs : List A) → 0 < p → length xs ≤ suc f → (length (drop p xs) ≤ f → join (cut_by f p (drop p xs)) ≡ drop p xs) → Dec (0 < length xs) → join (cut_by (suc f) p xs) ≡ xs
  joined_by f p xs h b k (yes s) = rw (cut-more f p xs s, k (omega (arith, length-drop p xs))) (take-append-drop p xs)
  joined_by f p [] h b k (no s) = rw (cut-none (suc f) p [] refl)
  joined_by f p (x ∷ xs) h b k (no s) = absurd (omega arith)

  -- the periods joined are the frames
  pub joined : (f p : ℕ) (xs : List A) → 0 < p → length xs ≤ f → join (cut_by f p xs) ≡ xs
  unfolding cut_by
  joined zero p [] h b = refl
  joined zero p (x ∷ xs) h b = absurd (omega arith)
  joined (suc f) p xs h b = joined_by f p xs h b (joined f p (drop p xs) h) (dec_lt 0 (length xs))

  -- the first periods joined are the first bytes
  pub first-joined : (f p k : ℕ) (xs : List A) → 0 < p → length xs ≤ f → join (take k (cut_by f p xs)) ≡ take (k * p) xs
  unfolding cut_by
  first-joined f p zero xs h b = let z : 0 ≡ 0 * p = omega arith in ap (λ (n : ℕ). take n xs) z
  first-joined zero p (suc k) [] h b = sym (take-nil (suc k * p))
  first-joined zero p (suc k) (x ∷ xs) h b = absurd (omega arith)
  first-joined (suc f) p (suc k) [] h b = sym (take-nil (suc k * p))
  first-joined (suc f) p (suc k) (x ∷ xs) h b =
      let more : p + k * p ≡ suc k * p = omega arith in
      ap (λ (l : List A). take p (x ∷ xs) ++ l) (first-joined f p k (drop p (x ∷ xs)) h (omega (arith, length-drop p (x ∷ xs))))
      ∙ sym (take-add p (k * p) (x ∷ xs))
      ∙ ap (λ (n : ℕ). take n (x ∷ xs)) more

  cut-some : (f p : ℕ) (xs : List A) → 0 < length (cut_by f p xs) → Dec (0 < length xs) → 0 < length xs
  cut-some f p xs h (yes y) = y
  cut-some f p xs h (no n) = absurd (omega (arith, ap length (cut-none f p xs (omega arith))))

  whole_by : (f p : ℕ) (xs : List A) (i : ℕ) → ((i : ℕ) → suc i < length (cut_by f p (drop p xs)) → length (get_or (cut_by f p (drop p xs)) i []) ≡ p)
      → Dec (0 < length xs) → suc i < length (cut_by (suc f) p xs) → length (get_or (cut_by (suc f) p xs) i []) ≡ p
  whole_by f p xs i k (no s) b = absurd (omega (arith, ap length (cut-none (suc f) p xs (omega arith))))
  whole_by f p xs zero k (yes s) b =
      let more = cut-some f p (drop p xs) (omega (arith, ap length (cut-more f p xs s))) (dec_lt 0 (length (drop p xs))) in
      rw (cut-more f p xs s) (omega (arith, length-take p xs, length-drop p xs))
  whole_by f p xs (suc i) k (yes s) b = rw (cut-more f p xs s) (k i (omega (arith, ap length (cut-more f p xs s))))

  -- each period but the last is whole
  pub whole : (f p : ℕ) (xs : List A) (i : ℕ) → suc i < length (cut_by f p xs) → length (get_or (cut_by f p xs) i []) ≡ p
  unfolding cut_by
  whole zero p xs i b = absurd (omega arith)
  whole (suc f) p xs i b = whole_by f p xs i (whole f p (drop p xs)) (dec_lt 0 (length xs)) b

spans-some : (f p t o s : ℕ) → 0 < length (spans f p t o s) → Dec (o < t) → o < t
spans-some f p t o s h (yes y) = y
spans-some f p t o s h (no n) = absurd (omega (arith, ap length (spans-done f p t o s (omega arith))))

spans-at-by : (f p t o s i : ℕ) → 0 < p → ((o s i : ℕ) → s < 32 → i < length (spans f p t o s) → get_or (spans f p t o s) i None ≡ sent_period ((s + i) % 32) (o + i * p) (span_of p t (o + i * p)))
    → Dec (o < t) → s < 32 → i < length (spans (suc f) p t o s) → get_or (spans (suc f) p t o s) i None ≡ sent_period ((s + i) % 32) (o + i * p) (span_of p t (o + i * p))
spans-at-by f p t o s i h k (no n) sm b = absurd (omega (arith, ap length (spans-done (suc f) p t o s (omega arith))))
spans-at-by f p t o s zero h k (yes y) sm b =
    let e₁ : (s + 0) % 32 ≡ s = omega arith in
    let e₂ : o + 0 * p ≡ o = omega arith in
    rw (spans-more f p t o s y, e₁, e₂)
spans-at-by f p t o s (suc i) h k (yes y) sm b =
    let b' : i < length (spans f p t (o + span_of p t o) (after s)) = omega (arith, ap length (spans-more f p t o s y)) in
    let more = spans-some f p t (o + span_of p t o) (after s) (omega arith) (dec_lt _ t) in
    let e₁ : (after s + i) % 32 ≡ (s + suc i) % 32 = omega arith in
    let e₂ : o + span_of p t o + i * p ≡ o + suc i * p = omega arith in
    rw (spans-more f p t o s y) (k (o + span_of p t o) (after s) i (omega arith) b' ∙ rw (e₁, e₂))

-- where each span stands: at the next slot, one period further
pub spans-at : (f p t o s i : ℕ) → 0 < p → s < 32 → i < length (spans f p t o s) → get_or (spans f p t o s) i None ≡ sent_period ((s + i) % 32) (o + i * p) (span_of p t (o + i * p))
unfolding spans
spans-at zero p t o s i h sm b = absurd (omega arith)
spans-at (suc f) p t o s i h sm b = spans-at-by f p t o s i h (λ o s i. spans-at f p t o s i h) (dec_lt o t) sm b

-- ---- of whole frames: n periods, their payloads, the i-th at slot i % 32 and offset i * period

module _ (period : ℕ) (frames : List ℕ) where
  pub plan-shows : map (payload frames) (plan period (length frames)) ≡ cut period frames
  plan-shows = shown frames (length frames) period 0 0

  pub plan-count : length (plan period (length frames)) ≡ length (cut period frames)
  plan-count = sym (length-map (plan period (length frames)) (payload frames)) ∙ ap length plan-shows

  pub cut-joined : 0 < period → join (cut period frames) ≡ frames
  cut-joined some = joined (length frames) period frames some (omega arith)

  pub cut-first : 0 < period → (k : ℕ) → join (take k (cut period frames)) ≡ take (k * period) frames
  cut-first some k = first-joined (length frames) period k frames some (omega arith)

  pub cut-whole : (i : ℕ) → suc i < length (cut period frames) → length (get_or (cut period frames) i []) ≡ period
  cut-whole = whole (length frames) period frames

pub plan-at : (period total i : ℕ) → 0 < period → i < length (plan period total) → get_or (plan period total) i None ≡ sent_period (i % 32) (i * period) (span_of period total (i * period))
plan-at period total i some h = simp zero-add at (spans-at total period total 0 0 i some (omega arith) h)
