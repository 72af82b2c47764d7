-- The laws of transfers: what the test and the count of the code come to in the definitions.
-- Assumes nothing.
use Rattle.std.specs.Prelude.{◌≡◌, ℕ, ◌+◌, ◌-◌, ◌%◌, ◌^◌, ◌<◌, ◌≤◌, true, false, List, length, nat_le, nat_lt, slice_index, slice_set}
use Rattle.std.proofs.Common.{sym, ap, ◌∙◌, leb-true, ltb-true}
use Rattle.layout.specs.Layout.{size}
use Rattle.codes.specs.SaysLaws.{picks, skips}
use Rattle.records.specs.Records.{transfer}
use Rattle.model.specs.DeviceLaws.{and_both}
use Rattle.model.specs.Transfer.{stream_of, plays, played_by, status_by, device_after, status_given}
use Rattle.model.specs.Types.{Counts, Device}

module _ (n : Counts) (s : List ℕ) (t : plays n s ≡ true) where
  pub plays-length : size transfer ≤ length s
  plays-length = leb-true (size transfer) (length s) (and_both (nat_le (size transfer) (length s)) _ t).0

  pub plays-stream : stream_of s < n.streams
  plays-stream = ltb-true (stream_of s) n.streams (and_both (nat_le (size transfer) (length s)) (nat_lt (stream_of s) n.streams) t).1

-- the device and the status after a transfer
module _ (d : Device) (s answer : List ℕ) where
  pub counted : plays d.counts s ≡ true → (i v : ℕ) → i ≡ stream_of s → v ≡ (slice_index d.played i + (length s - size transfer)) % 2 ^ 64
      → status_given (record { counts = d.counts; jacks = d.jacks; pcms = d.pcms; maps = d.maps; params = d.params; played = slice_set d.played i v }) 0x8000 answer
      ≡ status_given (device_after d s) (status_by d s) answer
  counted t i v e f =
      let after : device_after d s ≡ played_by d (stream_of s) (length s - size transfer) = picks _ _ _ t in
      let status : status_by d s ≡ 0x8000 = picks _ _ _ t in
      (λ k. status_given (record { counts = d.counts; jacks = d.jacks; pcms = d.pcms; maps = d.maps; params = d.params; played = slice_set d.played (e k) ((f ∙ ap (λ (z : ℕ). (slice_index d.played z + (length s - size transfer)) % 2 ^ 64) e) k) }) 0x8000 answer)
      ∙ sym (λ k. status_given (after k) (status k) answer)

  pub uncounted : plays d.counts s ≡ false → status_given d 0x8001 answer ≡ status_given (device_after d s) (status_by d s) answer
  uncounted t =
      let after : device_after d s ≡ d = skips _ _ _ t in
      let status : status_by d s ≡ 0x8001 = skips _ _ _ t in
      sym (λ k. status_given (after k) (status k) answer)
