-- A public function's contract leaves one outcome: any two that it permits, for the same arguments, are equal, in what is returned and in what each
-- lent slice holds. `Post` is the contract itself, as Rattle reads it off the source, so no statement here repeats a clause.
-- Assumes nothing.
use Rattle.std.proofs.Common.{◌≡◌, ℕ, List, ap}
use Rattle.layout.specs.Lent.{Made, Shown, shown}
use Rattle.codes.specs.SaysLaws.{same}
use Rattle.model_store.specs.Calls.{Told, Transferred}
use Rattle.model_store.proofs.size.Reads as size
use Rattle.model_store.proofs.new.Reads as new
use Rattle.model_store.proofs.control.Reads as control
use Rattle.model_store.proofs.transfer.Reads as transfer
use Rattle.model_store.proofs.payload.Reads as payload
use Rattle.model_store.proofs.params.Reads as params
use Rattle.model_store.proofs.played.Reads as played

pub size-one : (κs : _) (a : _) (r₁ r₂ : _) (e₁ e₂ : _) → size.Post κs a r₁ e₁ → size.Post κs a r₂ e₂ → r₁ ≡ r₂
size-one κs a r₁ r₂ e₁ e₂ p q = same p q

-- the device is the first parameter
pub new-one : (κs : _) (a : _) (r₁ r₂ : _) (e₁ e₂ : _) → new.Post κs a r₁ e₁ → new.Post κs a r₂ e₂ → (r₁ ≡ r₂) × (e₁.0.now ≡ e₂.0.now)
new-one κs a r₁ r₂ e₁ e₂ p q = let e = same p q in (ap (λ (l : Made). l.answer) e, ap (λ (l : Made). l.store) e)

-- the device, the page, the result: parameters 0, 2 and 3
pub control-one : (κs : _) (a : _) (r₁ r₂ : _) (e₁ e₂ : _) → control.Post κs a r₁ e₁ → control.Post κs a r₂ e₂
    → (r₁ ≡ r₂) × (e₁.0.now ≡ e₂.0.now) × (e₁.1.1.0.now ≡ e₂.1.1.0.now) × (e₁.1.1.1.0.now ≡ e₂.1.1.1.0.now)
control-one κs a r₁ r₂ e₁ e₂ p q = let e = same p q in (ap (λ (l : Told). l.answer) e, ap (λ (l : Told). l.store) e, ap (λ (l : Told). l.page) e, ap (λ (l : Told). l.result) e)

-- the device and the answer slice: parameters 0 and 2
pub transfer-one : (κs : _) (a : _) (r₁ r₂ : _) (e₁ e₂ : _) → transfer.Post κs a r₁ e₁ → transfer.Post κs a r₂ e₂ → (r₁ ≡ r₂) × (e₁.0.now ≡ e₂.0.now) × (e₁.1.1.0.now ≡ e₂.1.1.0.now)
transfer-one κs a r₁ r₂ e₁ e₂ p q = let e = same p q in (ap (λ (l : Transferred). l.answer) e, ap (λ (l : Transferred). l.store) e, ap (λ (l : Transferred). l.status) e)

-- the result is the third parameter
tells : {m n : ℕ} {x y : List ℕ} {l : Shown} → shown m x ≡ l → shown n y ≡ l → (m ≡ n) × (x ≡ y)
tells p q = (ap (λ (l : Shown). l.answer) (same p q), ap (λ (l : Shown). l.result) (same p q))

pub payload-one : (κs : _) (a : _) (r₁ r₂ : _) (e₁ e₂ : _) → payload.Post κs a r₁ e₁ → payload.Post κs a r₂ e₂ → (r₁ ≡ r₂) × (e₁.1.1.0.now ≡ e₂.1.1.0.now)
payload-one κs a r₁ r₂ e₁ e₂ p q = tells p q

pub params-one : (κs : _) (a : _) (r₁ r₂ : _) (e₁ e₂ : _) → params.Post κs a r₁ e₁ → params.Post κs a r₂ e₂ → (r₁ ≡ r₂) × (e₁.1.1.0.now ≡ e₂.1.1.0.now)
params-one κs a r₁ r₂ e₁ e₂ p q = tells p q

pub played-one : (κs : _) (a : _) (r₁ r₂ : _) (e₁ e₂ : _) → played.Post κs a r₁ e₁ → played.Post κs a r₂ e₂ → (r₁ ≡ r₂) × (e₁.1.1.0.now ≡ e₂.1.1.0.now)
played-one κs a r₁ r₂ e₁ e₂ p q = tells p q
