-- The laws for the code that writes in a place.
-- Assumes nothing.
use Rattle.std.specs.Prelude.{◌≡◌, ℕ, ◌+◌, ◌*◌, ◌≤◌, ◌<◌, length}
use Rattle.std.proofs.Math.Path.{refl, ap}
use Rattle.std.proofs.Common.{sym, ◌∙◌, arith, lt-ltb, le-ltb}
use mathlib.Core.List.{List}
use Rattle.std.proofs.Math.Seq.{sets}
use Rattle.codes.specs.SaysLaws.{passes, stops}
use Rattle.layout.specs.Bytes.{le}
use Rattle.layout.specs.BytesLaws.{length-le}
use Rattle.layout.specs.StoreLaws.{sets_then}
use Rattle.pending.specs.Places.{size_of, start_of, message_of, placed_in}
use Rattle.pending.specs.Apart.{place_in}

-- a place begins within the store
pub begins-within : (len places k size : ℕ) → size ≡ size_of len places → k < places → k * size ≤ len
begins-within len places k size e h =
    let i = place_in len places k h in
    let z : k * size ≡ start_of len places k = ap (λ (n : ℕ). k * n) e in
    omega arith

module _ (store : List ℕ) (places k stream : ℕ) (payload : List ℕ) where
  pub no_place : places ≤ k → store ≡ placed_in store places k stream payload
  unfolding placed_in
  no_place h = stops _ store (sets store (start_of (length store) places k) (message_of stream payload)) (le-ltb _ _ h) refl

  pub in_place : (size : ℕ) (s₁ s₂ : List ℕ) → size ≡ size_of (length store) places → k < places → s₁ ≡ sets store (k * size) (le 4 stream) → s₂ ≡ sets s₁ (k * size + 4) payload
      → s₂ ≡ placed_in store places k stream payload
  unfolding placed_in
  in_place size s₁ s₂ e h p q =
      passes _ store _ (lt-ltb _ _ h)
      (q
      ∙ ap (λ (l : List ℕ). sets l (k * size + 4) payload) p
      ∙ sets_then store (k * size) (k * size + 4) (le 4 stream) payload (ap (λ (n : ℕ). k * size + n) (sym (length-le 4 stream)))
      ∙ ap (λ (n : ℕ). sets store (k * n) (message_of stream payload)) e)
