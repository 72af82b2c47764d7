-- A public function's contract leaves one outcome: any two that it permits, for the same arguments, are equal, in what is returned and in what the lent
-- store holds. `Post` is the contract itself, as Rattle reads it off the source, so no statement here repeats a clause.
-- Assumes nothing.
use mathlib.Core.Path.{◌≡◌, refl}
use Rattle.codes.specs.SaysLaws.{same}
use Rattle.pending.proofs.table.Pending.new.Reads as new
use Rattle.pending.proofs.table.lowest.Reads as lowest
use Rattle.pending.proofs.table.count.Reads as count
use Rattle.pending.proofs.table.is_none.Reads as is_none
use Rattle.pending.proofs.table.look.Reads as look
use Rattle.pending.proofs.table.seen_token.Reads as seen-token
use Rattle.pending.proofs.calls.hold.Reads as hold
use Rattle.pending.proofs.calls.mark_token.Reads as mark-token
use Rattle.pending.proofs.calls.finish_token.Reads as finish-token
use Rattle.pending.proofs.place.find_spot.Reads as find-spot
use Rattle.pending.proofs.place.place_size.Reads as place-size
use Rattle.pending.proofs.place.placed.Reads as placed
use Rattle.pending.proofs.calls.mark.Reads as mark
use Rattle.pending.proofs.calls.finish.Reads as finish

pub new-one : (κs : _) (a : _) (r₁ r₂ : _) (e₁ e₂ : _) → new.Post κs a r₁ e₁ → new.Post κs a r₂ e₂ → r₁ ≡ r₂
new-one κs a r₁ r₂ e₁ e₂ p q = same p q

pub lowest-one : (κs : _) (a : _) (r₁ r₂ : _) (e₁ e₂ : _) → lowest.Post κs a r₁ e₁ → lowest.Post κs a r₂ e₂ → r₁ ≡ r₂
lowest-one κs a r₁ r₂ e₁ e₂ p q = same p q

pub count-one : (κs : _) (a : _) (r₁ r₂ : _) (e₁ e₂ : _) → count.Post κs a r₁ e₁ → count.Post κs a r₂ e₂ → r₁ ≡ r₂
count-one κs a r₁ r₂ e₁ e₂ p q = same p q

pub is-none-one : (κs : _) (a : _) (r₁ r₂ : _) (e₁ e₂ : _) → is_none.Post κs a r₁ e₁ → is_none.Post κs a r₂ e₂ → r₁ ≡ r₂
is-none-one κs a r₁ r₂ e₁ e₂ p q = same p q

pub look_one : (κs : _) (a : _) (r₁ r₂ : _) (e₁ e₂ : _) → look.Post κs a r₁ e₁ → look.Post κs a r₂ e₂ → r₁ ≡ r₂
look_one κs a r₁ r₂ e₁ e₂ p q = same p q

pub seen-token-one : (κs : _) (a : _) (r₁ r₂ : _) (e₁ e₂ : _) → seen-token.Post κs a r₁ e₁ → seen-token.Post κs a r₂ e₂ → r₁ ≡ r₂
seen-token-one κs a r₁ r₂ e₁ e₂ p q = same p q

pub hold-one : (κs : _) (a : _) (r₁ r₂ : _) (e₁ e₂ : _) → hold.Post κs a r₁ e₁ → hold.Post κs a r₂ e₂ → r₁ ≡ r₂
hold-one κs a r₁ r₂ e₁ e₂ p q = same p q

pub mark-token-one : (κs : _) (a : _) (r₁ r₂ : _) (e₁ e₂ : _) → mark-token.Post κs a r₁ e₁ → mark-token.Post κs a r₂ e₂ → r₁ ≡ r₂
mark-token-one κs a r₁ r₂ e₁ e₂ p q = same p q

pub finish-token-one : (κs : _) (a : _) (r₁ r₂ : _) (e₁ e₂ : _) → finish-token.Post κs a r₁ e₁ → finish-token.Post κs a r₂ e₂ → r₁ ≡ r₂
finish-token-one κs a r₁ r₂ e₁ e₂ p q = same p q

pub find-spot-one : (κs : _) (a : _) (r₁ r₂ : _) (e₁ e₂ : _) → find-spot.Post κs a r₁ e₁ → find-spot.Post κs a r₂ e₂ → r₁ ≡ r₂
find-spot-one κs a r₁ r₂ e₁ e₂ p q = same p q

pub mark-one : (κs : _) (a : _) (r₁ r₂ : _) (e₁ e₂ : _) → mark.Post κs a r₁ e₁ → mark.Post κs a r₂ e₂ → r₁ ≡ r₂
mark-one κs a r₁ r₂ e₁ e₂ p q = same p q

pub finish-one : (κs : _) (a : _) (r₁ r₂ : _) (e₁ e₂ : _) → finish.Post κs a r₁ e₁ → finish.Post κs a r₂ e₂ → r₁ ≡ r₂
finish-one κs a r₁ r₂ e₁ e₂ p q = same p q

pub place-size-one : (κs : _) (a : _) (r₁ r₂ : _) (e₁ e₂ : _) → place-size.Post κs a r₁ e₁ → place-size.Post κs a r₂ e₂ → r₁ ≡ r₂
place-size-one κs a r₁ r₂ e₁ e₂ p q = same p q

pub placed_one : (κs : _) (a : _) (r₁ r₂ : _) (e₁ e₂ : _) → placed.Post κs a r₁ e₁ → placed.Post κs a r₂ e₂ → (r₁ ≡ r₂) × (e₁.0.now ≡ e₂.0.now)
placed_one κs a r₁ r₂ e₁ e₂ p q = (refl, same p q)
