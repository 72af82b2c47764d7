-- A public function's contract leaves one outcome: any two that it permits, for the same arguments, are equal, in what is returned and in what the
-- lent slice holds. `Post` is the contract itself, as Rattle reads it off the source, so no statement here repeats a clause.
-- Assumes nothing.
use Rattle.std.proofs.Common.{◌≡◌, ℕ, eqb, Option, Some, None, List, [], ◌∷◌, get_or, refl, ap}
use Rattle.codes.specs.Says.{Says, pick}
use Rattle.codes.specs.SaysLaws.{same, one}
use Rattle.codes.specs.ResultLaws.{one-result}
use Rattle.records.specs.Records.{set_parameters_of}
use Rattle.model.specs.Device.{held_values}
use Rattle.model.specs.Control.{Given, given, says_range}
use Rattle.model.specs.Types.{SetParameters, Answered, Range}
use Rattle.model.proofs.device.Device.new.Reads as device-new
use Rattle.model.proofs.device.Device.params.Reads as device-params
use Rattle.model.proofs.device.Device.played.Reads as device-played
use Rattle.model.proofs.device.few.Reads as few
use Rattle.model.proofs.device.within.Reads as within
use Rattle.model.proofs.device.stream_ok.Reads as stream-ok
use Rattle.model.proofs.control.asked.Reads as asked
use Rattle.model.proofs.transfer.plays.Reads as plays
use Rattle.model.proofs.control.control.Reads as control
use Rattle.model.proofs.transfer.transfer.Reads as transfer
use Rattle.model.proofs.transfer.payload.Reads as payload

pub device-new-one : (κs : _) (a : _) (r₁ r₂ : _) (e₁ e₂ : _) → device-new.Post κs a r₁ e₁ → device-new.Post κs a r₂ e₂ → r₁ ≡ r₂
device-new-one κs a r₁ r₂ e₁ e₂ p q = same p q

held_back : List ℕ → Option SetParameters
held_back [] = None
held_back (v ∷ vs) = Some (set_parameters_of (v ∷ vs))

held-back : (o : Option SetParameters) → held_back (held_values o) ≡ o
unfolding held_back
held-back (Some p) = refl
held-back None = refl

pub device-params-one : (κs : _) (a : _) (r₁ r₂ : _) (e₁ e₂ : _) → device-params.Post κs a r₁ e₁ → device-params.Post κs a r₂ e₂ → r₁ ≡ r₂
device-params-one κs a r₁ r₂ e₁ e₂ p q = one-result held_values held_back held-back p q

pub device-played-one : (κs : _) (a : _) (r₁ r₂ : _) (e₁ e₂ : _) → device-played.Post κs a r₁ e₁ → device-played.Post κs a r₂ e₂ → r₁ ≡ r₂
device-played-one κs a r₁ r₂ e₁ e₂ p q = one-result (λ n. n ∷ []) (λ vs. get_or vs 0 0) (λ n. refl) p q

pub few-one : (κs : _) (a : _) (r₁ r₂ : _) (e₁ e₂ : _) → few.Post κs a r₁ e₁ → few.Post κs a r₂ e₂ → r₁ ≡ r₂
few-one κs a r₁ r₂ e₁ e₂ p q = same p q

pub within-one : (κs : _) (a : _) (r₁ r₂ : _) (e₁ e₂ : _) → within.Post κs a r₁ e₁ → within.Post κs a r₂ e₂ → r₁ ≡ r₂
within-one κs a r₁ r₂ e₁ e₂ p q = same p q

pub stream-ok-one : (κs : _) (a : _) (r₁ r₂ : _) (e₁ e₂ : _) → stream-ok.Post κs a r₁ e₁ → stream-ok.Post κs a r₂ e₂ → r₁ ≡ r₂
stream-ok-one κs a r₁ r₂ e₁ e₂ p q = same p q

range_answer : Says → Option Range
range_answer s = pick (eqb s.number 0) (Some (record { start = get_or s.values 0 0; count = get_or s.values 1 0 })) None

range-answer : (a : Option Range) → range_answer (says_range a) ≡ a
unfolding range_answer
range-answer (Some r) = refl
range-answer None = refl

pub asked-one : (κs : _) (a : _) (r₁ r₂ : _) (e₁ e₂ : _) → asked.Post κs a r₁ e₁ → asked.Post κs a r₂ e₂ → r₁ ≡ r₂
asked-one κs a r₁ r₂ e₁ e₂ p q = one says_range range_answer range-answer p q

pub plays-one : (κs : _) (a : _) (r₁ r₂ : _) (e₁ e₂ : _) → plays.Post κs a r₁ e₁ → plays.Post κs a r₂ e₂ → r₁ ≡ r₂
plays-one κs a r₁ r₂ e₁ e₂ p q = same p q

-- what is returned, and what the lent slice then holds
gives : {a b : Answered} {x y : List ℕ} {g : Given} → given a x ≡ g → given b y ≡ g → (a ≡ b) × (x ≡ y)
gives p q = (ap (λ (g : Given). g.answered) (same p q), ap (λ (g : Given). g.lent) (same p q))

-- the page is the third parameter
pub control-one : (κs : _) (a : _) (r₁ r₂ : _) (e₁ e₂ : _) → control.Post κs a r₁ e₁ → control.Post κs a r₂ e₂ → (r₁ ≡ r₂) × (e₁.1.1.0.now ≡ e₂.1.1.0.now)
control-one κs a r₁ r₂ e₁ e₂ p q = gives p q

-- and so is the answer slice
pub transfer-one : (κs : _) (a : _) (r₁ r₂ : _) (e₁ e₂ : _) → transfer.Post κs a r₁ e₁ → transfer.Post κs a r₂ e₂ → (r₁ ≡ r₂) × (e₁.1.1.0.now ≡ e₂.1.1.0.now)
transfer-one κs a r₁ r₂ e₁ e₂ p q = gives p q

pub payload-one : (κs : _) (a : _) (r₁ r₂ : _) (e₁ e₂ : _) → payload.Post κs a r₁ e₁ → payload.Post κs a r₂ e₂ → r₁.now ≡ r₂.now
payload-one κs a r₁ r₂ e₁ e₂ p q = same p q
