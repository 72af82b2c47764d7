-- The laws for the code of submissions that do not wait.
-- Assumes nothing.
use Rattle.std.specs.Prelude.{◌≡◌, ℕ, ◌+◌, ◌≤◌, Bool, true, false, List, [], ◌==◌, nat_le, None, Result, Ok, Err}
use Rattle.std.proofs.Math.Path.{refl, ap}
use Rattle.std.proofs.Common.{sym, ◌∙◌, arith}
use Rattle.layout.specs.Lent.{message_size}
use Rattle.codes.specs.Says as answers
use Rattle.codes.specs.Says.{pick}
use Rattle.codes.specs.Answers.{says_refusal}
use Rattle.codes.specs.SaysLaws.{guard-ap, guarded-by, passes, stops}
use Rattle.pending.specs.Table.{lowest_in, mark_of, finish_of, seen_of}
use Rattle.pending.specs.Places.{spot_by}
use Rattle.pending.specs.declared.table.Seen.{Seen}
use Rattle.turns.specs.Ring.{indirect}
use Rattle.turns.specs.Types.{completion}
use Rattle.sound_core.specs.Consistent.{consistent_of}
use Rattle.exchange.specs.Xfer.{gate_as, xfer_by}
use Rattle.exchange.specs.StepLaws.{xfer-ap}
use Rattle.exchange.specs.Submit.{places_of, refused_nb, set_up_nb, token_nb, submit_of, nb_of, nb_store, nb_message, says_nb, nb_says, Submits, end_by, barred_end, mark_by, mark_step, finish_step, token_seen}
use Rattle.exchange.specs.Types.{Refusal, InvalidParam, Ring, Reading, Judged, Sound, Gate, SetUp, Open, NbStep, NbEnd}

-- what is made of the outcome of finding a place is made at each end
pub spot-ap : {A B : Type 0} (f : A → B) (places k n len period : ℕ) (refuse : Refusal → A) (go : ℕ → A)
    → f (spot_by places k n len period refuse go) ≡ spot_by places k n len period (λ x. f (refuse x)) (λ k. f (go k))
spot-ap f places k n len period refuse go = simp (guard-ap f)

-- no more places than the table has tokens for
places-by : (b : Bool) → pick b 32 16 ≤ 32
places-by true = omega arith
places-by false = omega arith

pub few-places : (descriptors : ℕ) → places_of descriptors ≤ 32
unfolding places_of
few-places descriptors = places-by (descriptors == indirect)

module _ (places : ℕ) (s : Sound) (n len : ℕ) where
  abbrev pub submit_by : Result ℕ Refusal → NbStep
  submit_by (Err x) = refused_nb s x
  submit_by (Ok k) = token_nb s k

  pub submitted-by : (period k : ℕ) (g : Result ℕ Refusal) → k ≡ lowest_in s.pending places → g ≡ spot_by places k n len period Err Ok → submit_by g ≡ submit_of places s n len period
  submitted-by period k g z e =
      ap submit_by (e ∙ ap (λ (j : ℕ). spot_by places j n len period Err Ok) z)
      ∙ spot-ap submit_by places (lowest_in s.pending places) n len period Err Ok

module _ (s : Sound) (n len : ℕ) (r : Ring) (stream : ℕ) where
  abbrev pub nb_by : Result Gate Refusal → NbStep
  nb_by (Err x) = refused_nb s x
  nb_by (Ok SetUp) = set_up_nb s stream
  nb_by (Ok (Open period)) = submit_of (places_of r.track.descriptors) s n len period

  pub nb-by : (m : ℕ) (g : Result Gate Refusal) → g ≡ gate_as false (nat_le message_size m) true s r.track stream → nb_by g ≡ nb_of s r stream n len m
  unfolding nb_of
  nb-by m g e = ap nb_by e ∙ xfer-ap nb_by (nat_le message_size m) true s r.track stream Err (Ok SetUp) (λ (n : ℕ). Ok (Open n))

-- what the checks say is what they come to
pub nb-says : (s : Sound) (r : Ring) (stream n len m : ℕ) → says_nb (nb_of s r stream n len m).reply ≡ nb_says s r stream n len m
unfolding nb_of
nb-says s r stream n len m =
    let said : NbStep → answers.Says = λ x. says_nb x.reply in
    let places = places_of r.track.descriptors in
    xfer-ap said (nat_le message_size m) true s r.track stream (refused_nb s) (set_up_nb s stream) (submit_of places s n len)
    ∙ ap (λ (go : ℕ → answers.Says). xfer_by (nat_le message_size m) true s r.track stream says_refusal (answers.says (256 + 16) []) go)
    (λ i period. spot-ap said places (lowest_in s.pending places) n len period (refused_nb s) (token_nb s) i)

-- a step, what it says, and the store and the message that go with its reply
pub nb-replied : (places : ℕ) (s : Sound) (stream : ℕ) (payload a m : List ℕ) {b n : List ℕ} {r x y : NbStep} {said : answers.Says} → r ≡ x → x ≡ y → says_nb y.reply ≡ said
    → b ≡ nb_store places x.reply stream payload a → n ≡ nb_message x.reply s stream m → Submits places y said s stream payload a b m n r
nb-replied places s stream payload a m p e w q h =
    record {
      step = p ∙ e;
      says = ap (λ (x : NbStep). says_nb x.reply) (p ∙ e) ∙ w;
      store = q ∙ ap (λ (x : NbStep). nb_store places x.reply stream payload a) e;
      message = h ∙ ap (λ (x : NbStep). nb_message x.reply s stream m) e;
    }

pub submit-replied : (places stream : ℕ) (payload store : List ℕ) {b : List ℕ} {r x y : NbStep} → r ≡ x → x ≡ y → b ≡ nb_store places x.reply stream payload store
    → (r ≡ y) × (b ≡ nb_store places y.reply stream payload store)
submit-replied places stream payload store p e q = (p ∙ e, q ∙ ap (λ (x : NbStep). nb_store places x.reply stream payload store) e)

-- the same with the number of places told by a call
pub submit-placed : {k places : ℕ} (s : Sound) (n len period stream : ℕ) (payload store : List ℕ) {b : List ℕ} {r : NbStep} → k ≡ places
    → (r ≡ submit_of k s n len period) × (b ≡ nb_store k (submit_of k s n len period).reply stream payload store)
    → (r ≡ submit_of places s n len period) × (b ≡ nb_store places (submit_of places s n len period).reply stream payload store)
submit-placed s n len period stream payload store e u =
    (u.0 ∙ ap (λ (k : ℕ). submit_of k s n len period) e, u.1 ∙ ap (λ (k : ℕ). nb_store k (submit_of k s n len period).reply stream payload store) e)

-- a submission that got as far as its place writes no message
pub submit-silent : (places : ℕ) (s : Sound) (n len period stream : ℕ) (l : List ℕ) → l ≡ nb_message (submit_of places s n len period).reply s stream l
submit-silent places s n len period stream l =
    let P : NbStep → Type 0 = λ u. l ≡ nb_message u.reply s stream l in
    guarded-by P _ _ _ (λ _. guarded-by P _ _ _ (λ _. guarded-by P _ _ _ (λ _. refl) (λ _. refl)) (λ _. refl)) (λ _. refl)

-- ---- completions, finishing, and reading

module _ (s : Sound) where
  pub mark-barred : (reading : Reading) → consistent_of s.core ≡ false → barred_end s ≡ mark_step s reading
  unfolding mark_step
  mark-barred reading h = stops _ (barred_end s) (mark_by s reading) h refl

  pub mark-quiet : (reading : Reading) → consistent_of s.core ≡ true → reading ≡ None → record { sound = s; said = Ok tt } ≡ mark_step s reading
  unfolding mark_step
  mark-quiet reading h e = passes _ (barred_end s) _ h (ap (mark_by s) (sym e))

  pub mark-told : (reading : Reading) (slot status : ℕ) (j : Judged) (r : NbEnd) → consistent_of s.core ≡ true → reading ≡ completion slot status → j ≡ mark_of s.pending slot status → r ≡ end_by s j
      → r ≡ mark_step s reading
  unfolding mark_step
  mark-told reading slot status j r h e m p = passes _ (barred_end s) _ h (p ∙ ap (end_by s) m ∙ ap (mark_by s) (sym e))

  pub finish-barred : (token : ℕ) → consistent_of s.core ≡ false → barred_end s ≡ finish_step s token
  unfolding finish_step
  finish-barred token h = stops _ (barred_end s) (end_by s (finish_of s.pending token)) h refl

  pub finish-told : (token : ℕ) (j : Judged) (r : NbEnd) → consistent_of s.core ≡ true → j ≡ finish_of s.pending token → r ≡ end_by s j → r ≡ finish_step s token
  unfolding finish_step
  finish-told token j r h m p = passes _ (barred_end s) _ h (p ∙ ap (end_by s) m)

  pub seen-barred : (token : ℕ) → consistent_of s.core ≡ false → Err InvalidParam ≡ token_seen s token
  unfolding token_seen
  seen-barred token h = stops _ (Err InvalidParam) (seen_of s.pending token) h refl

  pub seen-told : (token : ℕ) (x : Result Seen Refusal) → consistent_of s.core ≡ true → x ≡ seen_of s.pending token → x ≡ token_seen s token
  unfolding token_seen
  seen-told token x h p = passes _ (Err InvalidParam) _ h p
