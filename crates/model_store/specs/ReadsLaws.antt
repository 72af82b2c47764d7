-- Looks at a store, by place: what each of the code's returns comes to.
-- Assumes nothing.
use Rattle.std.specs.Prelude.{◌≡◌, ℕ, ◌+◌, ◌-◌, ◌*◌, ◌<◌, Bool, true, false, List, ◌++◌, length, get_or, ◌≢◌, slice_index_or}
use Rattle.std.proofs.Math.Path.{refl, sym, ap}
use Rattle.std.proofs.Common.{◌∙◌, zero-add, eq-eqb, ne_eqb}
use Rattle.std.proofs.Math.Seq.{sets}
use Rattle.layout.specs.Bytes.{le, bytes_at, num_at, Bytes}
use Rattle.layout.specs.Layout.{size, write}
use Rattle.layout.specs.Lent.{shown}
use Rattle.layout.specs.BytesLaws.{length-le}
use Rattle.layout.specs.LayoutLaws.{write_read}
use Rattle.layout.specs.StoreLaws.{sets_then}
use Rattle.layout.specs.RowsLaws.{rows-at}
use Rattle.codes.specs.SaysLaws.{picks, skips, passes, stops}
use Rattle.records.specs.Records.{transfer, set_parameters, set_parameters_values}
use Rattle.model_store.specs.Types.{Counts, Held}
use Rattle.model.specs.Device.{most_streams, nothing, within_of, stream_ok}
use Rattle.model.specs.Transfer.{plays}
use Rattle.model_store.specs.Store.{params_place, played_place, counts_at, held_size, word_size, held_at, device_of}
use Rattle.model_store.specs.Calls.{roomy_in, part_bytes, payload_bytes, payload_in, params_bytes, params_in, played_in}
use Rattle.model_store.specs.ControlLaws.{counts_of}
use Rattle.model_store.specs.TransferLaws.{word-at}

-- ---- the payload

-- what the code was told of the counts that it read
pub plays-by : (s request : List ℕ) (n : Counts) {t : Bool} → n ≡ counts_at s → t ≡ plays n request → plays (counts_at s) request ≡ t
plays-by s request n e p = ap (λ (c : Counts). plays c request) (sym e) ∙ sym p

module _ (s request r : List ℕ) where
  pub payload-short : roomy_in s r ≡ false → shown 10 r ≡ payload_in s request r
  unfolding payload_in
  payload-short e = stops _ _ _ e refl

  module _ (t : roomy_in s r ≡ true) where
    pub payload-many : within_of (counts_at s) ≡ false → shown 1 r ≡ payload_in s request r
    unfolding payload_in
    payload-many w = passes _ _ _ t (stops _ _ _ (ap within_of (counts_of s) ∙ w) refl)

    module _ (w : within_of (counts_at s) ≡ true) (after : List ℕ) where
      payload-by : (bytes : List ℕ) → payload_bytes (counts_at s) request ≡ bytes → after ≡ sets r 0 bytes
          → shown 0 after ≡ payload_in s request r
      unfolding payload_in
      payload-by bytes p e = passes _ _ _ t (passes _ _ _ (ap within_of (counts_of s) ∙ w) (ap (shown 0) (e ∙ ap (sets r 0) (sym (ap (λ (n : Counts). payload_bytes n request) (counts_of s) ∙ p)))))

      pub payload-part : plays (counts_at s) request ≡ true → after ≡ sets r 0 (part_bytes (size transfer) (length request - size transfer)) → shown 0 after ≡ payload_in s request r
      payload-part p e = payload-by _ (picks _ _ _ p) e

      pub payload-none : plays (counts_at s) request ≡ false → after ≡ sets r 0 (part_bytes 0 0) → shown 0 after ≡ payload_in s request r
      payload-none p e = payload-by _ (skips _ _ _ p) e

-- ---- a stream's parameters, and its count of bytes

pub stream-by : (s : List ℕ) (stream : ℕ) (n : Counts) → n ≡ counts_at s → (t : Bool) → stream_ok n stream ≡ t → stream_ok (device_of s).counts stream ≡ t
stream-by s stream n e t p = ap (λ (c : Counts). stream_ok c stream) (counts_of s ∙ sym e) ∙ p

held-at : (s : List ℕ) (i : ℕ) → i < most_streams → slice_index_or (device_of s).params i nothing ≡ held_at (params_place + i * held_size) s
unfolding device_of
held-at s i h = rows-at held_at held_size params_place most_streams i s nothing h

module _ (s : List ℕ) (stream : ℕ) (r : List ℕ) where
  pub params-short : roomy_in s r ≡ false → shown 10 r ≡ params_in s stream r
  unfolding params_in
  params-short e = stops _ _ _ e refl

  pub played-short : roomy_in s r ≡ false → shown 10 r ≡ played_in s stream r
  unfolding played_in
  played-short e = stops _ _ _ e refl

  module _ (t : roomy_in s r ≡ true) where
    pub params-bad : stream_ok (device_of s).counts stream ≡ false → shown 1 r ≡ params_in s stream r
    unfolding params_in
    params-bad e = passes _ _ _ t (stops _ _ _ e refl)

    pub played-bad : stream_ok (device_of s).counts stream ≡ false → shown 1 r ≡ played_in s stream r
    unfolding played_in
    played-bad e = passes _ _ _ t (stops _ _ _ e refl)

    module _ (e : stream_ok (device_of s).counts stream ≡ true) (h : stream < most_streams) (after : List ℕ) where
      pub played-word : (n : ℕ) → n ≡ num_at (played_place + stream * word_size) 8 s → after ≡ sets r 0 (le 8 n) → shown 0 after ≡ played_in s stream r
      unfolding played_in
      played-word n p f = passes _ _ _ t (passes _ _ _ e (ap (shown 0) (f ∙ ap (λ (k : ℕ). sets r 0 (le 8 k)) (p ∙ sym (word-at s stream h)))))

      known_at : (k : ℕ) → k ≡ num_at (params_place + stream * held_size + size set_parameters) 1 s → (get_or (device_of s).params stream nothing).known ≡ k
      unfolding held_at
      known_at k p = ap (λ (x : Held). x.known) (held-at s stream h) ∙ sym p

      -- the bytes that stand there are those that were received
      set_at : Bytes s → write set_parameters (set_parameters_values (get_or (device_of s).params stream nothing).set) ≡ bytes_at (params_place + stream * held_size) (size set_parameters) s
      unfolding held_at
      set_at b = ap (λ (x : Held). write set_parameters (set_parameters_values x.set)) (held-at s stream h) ∙ write_read (params_place + stream * held_size) set_parameters s b

      params-by : (bytes : List ℕ) → params_bytes (slice_index_or (device_of s).params stream nothing) ≡ bytes → after ≡ sets r 0 bytes
          → shown 0 after ≡ params_in s stream r
      unfolding params_in
      params-by bytes p f = passes _ _ _ t (passes _ _ _ e (ap (shown 0) (f ∙ ap (sets r 0) (sym p))))

      module _ (k : ℕ) (p : k ≡ num_at (params_place + stream * held_size + size set_parameters) 1 s) where
        pub params_none : k ≡ 0 → after ≡ sets r 0 (le 8 0) → shown 0 after ≡ params_in s stream r
        params_none z f = params-by _ (picks _ _ _ (eq-eqb _ 0 (known_at k p ∙ z))) f

        pub params-some : Bytes s → (k ≢ 0) → (r₁ : List ℕ) → r₁ ≡ sets r 0 (le 8 1) → after ≡ sets r₁ 8 (bytes_at (params_place + stream * held_size) (size set_parameters) s) → shown 0 after ≡ params_in s stream r
        params-some b z r₁ f g =
            let x = bytes_at (params_place + stream * held_size) (size set_parameters) s in
            params-by (le 8 1 ++ x) (skips _ _ _ (ne_eqb _ 0 (λ y. z (sym (known_at k p) ∙ y))) ∙ ap (λ (l : List ℕ). le 8 1 ++ l) (set_at b))
            (g ∙ ap (λ (l : List ℕ). sets l 8 x) f ∙ sets_then r 0 8 (le 8 1) x (sym (zero-add (length (le 8 1)) ∙ length-le 8 1)))
