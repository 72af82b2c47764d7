-- A transfer on a store, by place: one count of bytes changes, and one status is written.
-- Assumes nothing.
use Rattle.std.specs.Prelude.{◌≡◌, ℕ, ◌+◌, ◌-◌, ◌*◌, ◌%◌, ◌^◌, ◌<◌, ◌≤◌, Bool, true, false, List, [], ◌∷◌, length, slice_index}
use Rattle.std.proofs.Math.Path.{refl, ap}
use Rattle.std.proofs.Common.{sym, ◌∙◌, arith, le-leb}
use Rattle.std.proofs.lemmas.List.Edits.{sets}
use Rattle.std.proofs.lemmas.Bool.{lt-leb}
use Rattle.layout.specs.Bytes.{le, num_at, Bytes}
use Rattle.layout.specs.Layout.{size}
use Rattle.layout.specs.RowsLaws.{rows-at}
use Rattle.codes.specs.SaysLaws.{picks, skips, passes, stops}
use Rattle.codes.specs.declared.answers.Refusal.TheVariants.{InvalidParam, BadLength}
use Rattle.records.specs.Records.{transfer, transfer_status}
use Rattle.records.specs.Slice.{written}
use Rattle.records.specs.SliceLaws.{written-long}
use Rattle.model.specs.Device.{most_streams, within_of}
use Rattle.model.specs.DeviceLaws.{few-streams}
use Rattle.model.specs.Transfer.{plays, played_by, status_by, status_in, device_after, status_given, transfer_call}
use Rattle.model.specs.TransferLaws.{plays-stream}
use Rattle.model_store.specs.Store.{played_place, device_size, counts_at, word_size, word_at, device_of, device_bytes}
use Rattle.model.specs.Control.{Given, refusing}
use Rattle.model_store.specs.Calls.{transferred, transfer_in}
use Rattle.model_store.specs.StoreLaws.{store_same, counted_by, played-alone}
use Rattle.model_store.specs.ControlLaws.{counts_of}

-- a stream's count stands in its row
pub word-at : (s : List ℕ) (i : ℕ) → i < most_streams → slice_index (device_of s).played i ≡ num_at (played_place + i * word_size) 8 s
unfolding device_of word_at
word-at s i h = rows-at word_at word_size played_place most_streams i s 0 h

-- ---- the count and the status

-- the device of the store plays what its counts say
plays-of : (s request : List ℕ) (t : Bool) → plays (counts_at s) request ≡ t → plays (device_of s).counts request ≡ t
unfolding device_of
plays-of s request t p = p

module _ (s request : List ℕ) (b : Bytes s) where
  pub play-none : plays (counts_at s) request ≡ false → (0x8001 ≡ status_by (device_of s) request) × (s ≡ sets s 0 (device_bytes (device_after (device_of s) request)))
  play-none p = let t = plays-of s request false p in (sym (skips _ _ _ t), sym (ap (λ d. sets s 0 (device_bytes d)) (skips _ _ _ t) ∙ store_same s b))

  pub play-more : within_of (counts_at s) ≡ true → plays (counts_at s) request ≡ true → (i w v : ℕ) (after : List ℕ) → i ≡ num_at 0 4 request → w ≡ num_at (played_place + i * word_size) 8 s → v ≡ (w + (length request - size transfer)) % 2 ^ 64
      → after ≡ sets s (played_place + i * word_size) (le 8 v)
      → (0x8000 ≡ status_by (device_of s) request) × (after ≡ sets s 0 (device_bytes (device_after (device_of s) request)))
  play-more h p i w v after e q u f =
      let d = device_of s in
      let t = plays-of s request true p in
      let j : i < most_streams = omega (arith, plays-stream (counts_at s) request p, few-streams (counts_at s) h) in
      let m : v ≡ (slice_index d.played i + (length request - size transfer)) % 2 ^ 64 = u ∙ ap (λ (x : ℕ). (x + (length request - size transfer)) % 2 ^ 64) (q ∙ sym (word-at s i j)) in
      let x : counted_by d i v ≡ device_after d request =
      (λ z. counted_by d i (m z)) ∙ ap (λ (y : ℕ). played_by d y (length request - size transfer)) e ∙ sym (picks _ _ _ t) in
      (sym (picks _ _ _ t), f ∙ played-alone s b i j v ∙ ap (λ y. sets s 0 (device_bytes y)) x)

-- ---- the call

module _ (s request a : List ℕ) where
  pub transfer-short : length s < device_size → transferred 10 s a ≡ transfer_in s request a
  unfolding transfer_in
  transfer-short h = stops _ _ _ (lt-leb device_size (length s) h) refl

  module _ (l : device_size ≤ length s) where
    -- from the call by value
    transfer-by : (x : Given) (after : List ℕ) → x ≡ transfer_call (device_of s) request a → after ≡ sets s 0 (device_bytes x.answered.device) → transferred x.said.number after x.lent ≡ transfer_in s request a
    unfolding transfer_in
    transfer-by x after e f =
        ap (λ (z : List ℕ). transferred x.said.number z x.lent) f
        ∙ passes _ _ _ (le-leb device_size (length s) l) (λ i. transferred (e i).said.number (sets s 0 (device_bytes (e i).answered.device)) (e i).lent)

    pub transfer-answer : Bytes s → length a < size transfer_status → transferred 10 s a ≡ transfer_in s request a
    unfolding transfer_call
    transfer-answer b h = transfer-by (refusing (device_of s) BadLength a) s (stops _ _ _ (lt-leb (size transfer_status) (length a) h) refl) (sym (store_same s b))

    module _ (h : size transfer_status ≤ length a) where
      pub transfer-many : Bytes s → within_of (counts_at s) ≡ false → transferred 1 s a ≡ transfer_in s request a
      unfolding transfer_call
      transfer-many b w =
          transfer-by (refusing (device_of s) InvalidParam a) s (passes _ _ _ (le-leb (size transfer_status) (length a) h) (stops _ _ _ (ap within_of (counts_of s) ∙ w) refl)) (sym (store_same s b))

      pub transfer-told : within_of (counts_at s) ≡ true → (status : ℕ) (after a₁ : List ℕ)
          → (status ≡ status_by (device_of s) request) × (after ≡ sets s 0 (device_bytes (device_after (device_of s) request))) → a₁ ≡ written transfer_status (status ∷ 0 ∷ []) a
          → transferred 0 after a₁ ≡ transfer_in s request a
      unfolding transfer_call
      transfer-told w status after a₁ g e =
          ap (transferred 0 after) (e ∙ written-long transfer_status (status ∷ 0 ∷ []) a h ∙ ap (λ (k : ℕ). status_in k a) g.0)
          ∙ transfer-by (status_given (device_after (device_of s) request) (status_by (device_of s) request) a) after (passes _ _ _ (le-leb (size transfer_status) (length a) h) (passes _ _ _ (ap within_of (counts_of s) ∙ w) refl)) g.1
