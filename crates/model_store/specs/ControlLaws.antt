-- A control request on a store: what each of the code's returns comes to.
-- Assumes nothing.
use Rattle.std.specs.Prelude.{◌≡◌, ℕ, Ok, ◌<◌, ◌≤◌, true, false, List, length, ◌≢◌}
use Rattle.std.proofs.Math.Path.{refl, ap}
use Rattle.std.proofs.Common.{sym, ◌∙◌, append-nil, le-leb, eq-eqb, ne_eqb}
use Rattle.std.proofs.Math.Seq.{sets}
use Rattle.std.proofs.lemmas.Bool.{lt-leb}
use Rattle.layout.specs.Bytes.{le, Bytes}
use Rattle.layout.specs.Rows.{rows_bytes}
use Rattle.layout.specs.Lent.{result_size, page_size}
use Rattle.codes.specs.SaysLaws.{passes, stops}
use Rattle.codes.specs.declared.answers.Refusal.TheVariants.{InvalidParam, BadLength}
use Rattle.model.specs.Device.{within_of}
use Rattle.model.specs.DeviceLaws.{and-passes, and-stops}
use Rattle.model.specs.Control.{Given, given, refusing, laid, answering, outcome_of, control_of}
use Rattle.model_store.specs.Store.{device_size, counts_at, device_of, device_bytes}
use Rattle.model_store.specs.Calls.{told, roomy_in, control_in}
use Rattle.model_store.specs.StoreLaws.{store_same}
use Rattle.model_store.specs.Private.{Gave}

-- ---- the lengths

module _ (s r : List ℕ) where
  pub short-store : length s < device_size → roomy_in s r ≡ false
  short-store h = and-stops _ _ (lt-leb device_size (length s) h)

  pub short-result : device_size ≤ length s → length r < result_size → roomy_in s r ≡ false
  short-result h k = and-passes _ _ (le-leb device_size (length s) h) ∙ lt-leb result_size (length r) k

  pub long : device_size ≤ length s → result_size ≤ length r → roomy_in s r ≡ true
  long h k = and-passes _ _ (le-leb device_size (length s) h) ∙ le-leb result_size (length r) k

-- the counts are at the front of the store
pub counts_of : (s : List ℕ) → (device_of s).counts ≡ counts_at s
unfolding device_of
counts_of s = refl

-- ---- control

module _ (s request page r : List ℕ) where
  pub control-short : roomy_in s r ≡ false → told 10 s page r ≡ control_in s request page r
  unfolding control_in
  control-short e = stops _ _ _ e refl

  module _ (t : roomy_in s r ≡ true) where
    -- from the call by value
    control-by : (x : Given) (after : List ℕ) → x ≡ control_of (device_of s) request page → after ≡ sets s 0 (device_bytes x.answered.device)
        → told x.said.number after x.lent (sets r 0 (rows_bytes (le 8) x.said.values)) ≡ control_in s request page r
    unfolding control_in
    control-by x after e f =
        ap (λ (z : List ℕ). told x.said.number z x.lent (sets r 0 (rows_bytes (le 8) x.said.values))) f
        ∙ passes _ _ _ t (λ i. told (e i).said.number (sets s 0 (device_bytes (e i).answered.device)) (e i).lent (sets r 0 (rows_bytes (le 8) (e i).said.values)))

    pub control-page : Bytes s → (length page ≢ page_size) → told 10 s page r ≡ control_in s request page r
    unfolding control_of rows_bytes
    control-page b h = control-by (refusing (device_of s) BadLength page) s (stops _ _ _ (ne_eqb (length page) page_size h) refl) (sym (store_same s b))

    module _ (h : length page ≡ page_size) where
      pub control-many : Bytes s → within_of (counts_at s) ≡ false → told 1 s page r ≡ control_in s request page r
      unfolding control_of rows_bytes
      control-many b w =
          control-by (refusing (device_of s) InvalidParam page) s (passes _ _ _ (eq-eqb (length page) page_size h) (stops _ _ _ (ap within_of (counts_of s) ∙ w) refl)) (sym (store_same s b))

      pub control-gave : within_of (counts_at s) ≡ true → (n : ℕ) (after shown r₁ : List ℕ) → Gave (outcome_of request (device_of s)) s page n after shown → r₁ ≡ sets r 0 (le 8 n)
          → told 0 after shown r₁ ≡ control_in s request page r
      unfolding control_of answering rows_bytes
      control-gave w n after shown r₁ g e =
          let o = outcome_of request (device_of s) in
          let k = length o.bytes in
          (λ i. told 0 after (g.written i) ((e ∙ ap (λ (m : ℕ). sets r 0 (le 8 m)) g.told ∙ ap (sets r 0) (sym (append-nil (le 8 k)))) i))
          ∙ control-by (given (record { device = o.device; said = Ok k }) (laid o.bytes page)) after (passes _ _ _ (eq-eqb (length page) page_size h) (passes _ _ _ (ap within_of (counts_of s) ∙ w) refl)) g.device
