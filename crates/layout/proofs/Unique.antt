-- A public function's contract leaves one outcome: any two that it permits, for the same arguments, are equal, in what is returned or in what the
-- lent slice holds. `Post` is the contract itself, as Rattle reads it off the source, so no statement here repeats a clause.
-- Assumes nothing.
use mathlib.Core.Path.{◌≡◌, refl, sym, ◌∙◌}
use Rattle.layout.proofs.get_u8.Reads as get-u8
use Rattle.layout.proofs.get_u16.Reads as get-u16
use Rattle.layout.proofs.get_u32.Reads as get-u32
use Rattle.layout.proofs.get_u64.Reads as get-u64
use Rattle.layout.proofs.u32_of.Reads as u32-of
use Rattle.layout.proofs.u64_of.Reads as u64-of
use Rattle.layout.proofs.u32_bytes.Reads as u32-bytes
use Rattle.layout.proofs.u64_bytes.Reads as u64-bytes
use Rattle.layout.proofs.put_u8.Reads as put-u8
use Rattle.layout.proofs.put_u16.Reads as put-u16
use Rattle.layout.proofs.put_u32.Reads as put-u32
use Rattle.layout.proofs.put_u64.Reads as put-u64
use Rattle.layout.proofs.put_bytes.Reads as put-bytes
use Rattle.layout.proofs.part.Reads as part

pub get-u8-one : (κs : _) (a : _) (r₁ r₂ : _) (e₁ e₂ : _) → get-u8.Post κs a r₁ e₁ → get-u8.Post κs a r₂ e₂ → r₁ ≡ r₂
get-u8-one κs a r₁ r₂ e₁ e₂ p q = p ∙ sym q

pub get-u16-one : (κs : _) (a : _) (r₁ r₂ : _) (e₁ e₂ : _) → get-u16.Post κs a r₁ e₁ → get-u16.Post κs a r₂ e₂ → r₁ ≡ r₂
get-u16-one κs a r₁ r₂ e₁ e₂ p q = p ∙ sym q

pub get-u32-one : (κs : _) (a : _) (r₁ r₂ : _) (e₁ e₂ : _) → get-u32.Post κs a r₁ e₁ → get-u32.Post κs a r₂ e₂ → r₁ ≡ r₂
get-u32-one κs a r₁ r₂ e₁ e₂ p q = p ∙ sym q

pub get-u64-one : (κs : _) (a : _) (r₁ r₂ : _) (e₁ e₂ : _) → get-u64.Post κs a r₁ e₁ → get-u64.Post κs a r₂ e₂ → r₁ ≡ r₂
get-u64-one κs a r₁ r₂ e₁ e₂ p q = p ∙ sym q

pub u32-of-one : (κs : _) (a : _) (r₁ r₂ : _) (e₁ e₂ : _) → u32-of.Post κs a r₁ e₁ → u32-of.Post κs a r₂ e₂ → r₁ ≡ r₂
u32-of-one κs a r₁ r₂ e₁ e₂ p q = p ∙ sym q

pub u64-of-one : (κs : _) (a : _) (r₁ r₂ : _) (e₁ e₂ : _) → u64-of.Post κs a r₁ e₁ → u64-of.Post κs a r₂ e₂ → r₁ ≡ r₂
u64-of-one κs a r₁ r₂ e₁ e₂ p q = p ∙ sym q

pub u32-bytes-one : (κs : _) (a : _) (r₁ r₂ : _) (e₁ e₂ : _) → u32-bytes.Post κs a r₁ e₁ → u32-bytes.Post κs a r₂ e₂ → r₁ ≡ r₂
u32-bytes-one κs a r₁ r₂ e₁ e₂ p q = p ∙ sym q

pub u64-bytes-one : (κs : _) (a : _) (r₁ r₂ : _) (e₁ e₂ : _) → u64-bytes.Post κs a r₁ e₁ → u64-bytes.Post κs a r₂ e₂ → r₁ ≡ r₂
u64-bytes-one κs a r₁ r₂ e₁ e₂ p q = p ∙ sym q

pub put-u8-one : (κs : _) (a : _) (r₁ r₂ : _) (e₁ e₂ : _) → put-u8.Post κs a r₁ e₁ → put-u8.Post κs a r₂ e₂ → (r₁ ≡ r₂) × (e₁.0.now ≡ e₂.0.now)
put-u8-one κs a r₁ r₂ e₁ e₂ p q = (refl, p ∙ sym q)

pub put-u16-one : (κs : _) (a : _) (r₁ r₂ : _) (e₁ e₂ : _) → put-u16.Post κs a r₁ e₁ → put-u16.Post κs a r₂ e₂ → (r₁ ≡ r₂) × (e₁.0.now ≡ e₂.0.now)
put-u16-one κs a r₁ r₂ e₁ e₂ p q = (refl, p ∙ sym q)

pub put-u32-one : (κs : _) (a : _) (r₁ r₂ : _) (e₁ e₂ : _) → put-u32.Post κs a r₁ e₁ → put-u32.Post κs a r₂ e₂ → (r₁ ≡ r₂) × (e₁.0.now ≡ e₂.0.now)
put-u32-one κs a r₁ r₂ e₁ e₂ p q = (refl, p ∙ sym q)

pub put-u64-one : (κs : _) (a : _) (r₁ r₂ : _) (e₁ e₂ : _) → put-u64.Post κs a r₁ e₁ → put-u64.Post κs a r₂ e₂ → (r₁ ≡ r₂) × (e₁.0.now ≡ e₂.0.now)
put-u64-one κs a r₁ r₂ e₁ e₂ p q = (refl, p ∙ sym q)

pub put-bytes-one : (κs : _) (a : _) (r₁ r₂ : _) (e₁ e₂ : _) → put-bytes.Post κs a r₁ e₁ → put-bytes.Post κs a r₂ e₂ → (r₁ ≡ r₂) × (e₁.0.now ≡ e₂.0.now)
put-bytes-one κs a r₁ r₂ e₁ e₂ p q = (refl, p ∙ sym q)

pub part-one : (κs : _) (a : _) (r₁ r₂ : _) (e₁ e₂ : _) → part.Post κs a r₁ e₁ → part.Post κs a r₂ e₂ → r₁.now ≡ r₂.now
part-one κs a r₁ r₂ e₁ e₂ p q = p ∙ sym q
