-- Theorems: a submission writes its own message, no other byte of the store changes, and places do not meet.
-- Assumes nothing.
use Rattle.std.specs.Prelude.{◌≡◌, refl, Bool, true, false, ℕ, suc, ◌+◌, ◌*◌, ◌≤◌, ◌<◌, ltb, replicate}
use Rattle.std.proofs.Math.Path.{sym, ap}
use Rattle.std.proofs.Common.{◌∙◌, suc-mul, mul-le-mul_right, add-zero, length-append, lt-ltb, ltb-true, ltb-false}
use mathlib.Core.List.{List, [], ◌∷◌, ◌++◌, append_assoc}
use Rattle.std.proofs.Math.Nat.{mul-div-le}
use native.Mathlib.Omega.{arith}
use Rattle.std.proofs.Math.ListN.{length, take, drop}
use Rattle.std.proofs.lemmas.List.Edits.{sets}
use Rattle.std.proofs.Math.Seq.{sets-eq, length-sets, length-take-le}
use Rattle.codes.specs.Says.{guard}
use Rattle.codes.specs.SaysLaws.{passes, guarded-by}
use Rattle.layout.specs.Bytes.{le, bytes_at}
use Rattle.layout.specs.BytesLaws.{length-le, bytes_at-append, bytes_at-front}
use Rattle.layout.specs.StoreLaws.{bytes_at-before, bytes_at-after}
use Rattle.pending.specs.Places.{size_of, start_of, message_of, placed_in}

-- ---- a place lies within the store, and before the next

pub place-next : (len places j k : ℕ) → j < k → start_of len places j + size_of len places ≤ start_of len places k
place-next len places j k h =
    let n = suc-mul j (size_of len places) in
    let m : suc j * size_of len places ≤ k * size_of len places = mul-le-mul_right (size_of len places) h in
    omega arith

pub place_in : (len places k : ℕ) → k < places → start_of len places k + size_of len places ≤ len
place_in len places k h =
    let n = place-next len places k places h in
    let m : places * size_of len places ≤ len = mul-div-le len places in
    omega arith

-- ---- the message

pub length-message : (stream : ℕ) (payload : List ℕ) → length (message_of stream payload) ≡ 4 + length payload
length-message stream payload = length-append (le 4 stream) payload ∙ ap (λ (n : ℕ). n + length payload) (length-le 4 stream)

module _ (store : List ℕ) (places k stream : ℕ) (payload : List ℕ) where
  abbrev at : ℕ
  at = start_of (length store) places k

  abbrev after : List ℕ
  after = placed_in store places k stream payload

  -- no byte before it, and none past it, changes
  pub placed-before : (o n : ℕ) → o + n ≤ at → bytes_at o n after ≡ bytes_at o n store
  unfolding placed_in
  placed-before o n h = guarded-by (λ (l : List ℕ). bytes_at o n l ≡ bytes_at o n store) _ _ _ (λ _. bytes_at-before (message_of stream payload) store at o n h) (λ _. refl)

  pub placed_past : (o n : ℕ) → at + (4 + length payload) ≤ o → bytes_at o n after ≡ bytes_at o n store
  unfolding placed_in
  placed_past o n h =
      let l = length-message stream payload in
      guarded-by (λ (l : List ℕ). bytes_at o n l ≡ bytes_at o n store) _ _ _ (λ _. bytes_at-after (message_of stream payload) store at o n (omega arith)) (λ _. refl)

  -- the store keeps its length
  pub placed-length : length after ≡ length store
  unfolding placed_in
  placed-length = guarded-by (λ (l : List ℕ). length l ≡ length store) _ _ _ (λ _. length-sets store at (message_of stream payload)) (λ _. refl)

  -- "whose number is its token": what another token's place begins with stays, however much of it
  apart_by : (j n : ℕ) (b : Bool) → ltb j k ≡ b → (j ≡ k → ⊥) → n ≤ size_of (length store) places → 4 + length payload ≤ size_of (length store) places
      → bytes_at (start_of (length store) places j) n after ≡ bytes_at (start_of (length store) places j) n store
  apart_by j n true e d l h =
      let s = place-next (length store) places j k (ltb-true _ _ e) in
      placed-before _ _ (omega arith)
  apart_by j n false e d l h =
      let g : k ≤ j = ltb-false _ _ e in
      let i : k < j = omega arith in
      let s = place-next (length store) places k j i in
      placed_past _ _ (omega arith)

  pub places-apart : (j n : ℕ) → (j ≡ k → ⊥) → n ≤ size_of (length store) places → 4 + length payload ≤ size_of (length store) places
      → bytes_at (start_of (length store) places j) n after ≡ bytes_at (start_of (length store) places j) n store
  places-apart j n = apart_by j n (ltb j k) refl

  -- and its own place begins with the message
  pub placed-there : k < places → 4 + length payload ≤ size_of (length store) places → bytes_at at (4 + length payload) after ≡ message_of stream payload
  unfolding placed_in
  placed-there h l =
      let m = message_of stream payload in
      let n = length-message stream payload in
      let i = place_in (length store) places k h in
      let fit : at + length m ≤ length store = omega arith in
      let front : length (take at store) ≡ at = length-take-le at store (omega arith) in
      let rest = drop (at + length m) store in
      let whole : after ≡ take at store ++ (m ++ rest) = sym (passes _ store (sets store at m) (lt-ltb _ _ h) refl) ∙ sets-eq m store at fit ∙ append_assoc (take at store) m rest in
      (λ i. bytes_at (sym (add-zero at) i) (sym n i) (whole i))
      ∙ ap (λ (x : ℕ). bytes_at (x + 0) (length m) (take at store ++ (m ++ rest))) (sym front)
      ∙ bytes_at-append (take at store) (m ++ rest) 0 (length m)
      ∙ bytes_at-front m rest

-- ---- an instance: a store of 112 bytes has 16 places of 7; three bytes of stream 1 go into place 2, and into no other
pub instance-of-it : placed_in (replicate 112 0) 16 2 1 (7 ∷ 8 ∷ 9 ∷ []) ≡ replicate 14 0 ++ (1 ∷ 0 ∷ 0 ∷ 0 ∷ 7 ∷ 8 ∷ 9 ∷ replicate 91 0)
unfolding placed_in guard le
instance-of-it = refl
