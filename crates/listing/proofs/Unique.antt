-- A public function's contract leaves one outcome: any two that it permits, for the same arguments, are equal, in what is returned and in what the
-- lent slice holds. `Post` is the contract itself, as Rattle reads it off the source, so no statement here repeats a clause.
-- Assumes nothing.
use mathlib.Core.Path.{◌≡◌, ap}
use mathlib.Core.List.{List}
use Prim.Native.Nat.{ℕ}
use Rattle.std.specs.Prelude.{Result}
use Rattle.codes.specs.SaysLaws.{same}
use Rattle.codes.specs.declared.answers.Refusal.{Refusal}
use Rattle.listing.specs.Listing.{Judged, Gives}
use Rattle.listing.proofs.verdict.judge.Reads as judge
use Rattle.listing.proofs.lines.count_line.Reads as count-line
use Rattle.listing.proofs.lines.refused_line.Reads as refused-line
use Rattle.listing.proofs.lines.stream_line.Reads as stream-line
use Rattle.listing.proofs.lines.line_at.Reads as line_at_lem

gives_one : {l before after₁ after₂ : List ℕ} {r₁ r₂ : Result ℕ Refusal} → Gives l r₁ before after₁ → Gives l r₂ before after₂ → (r₁ ≡ r₂) × (after₁ ≡ after₂)
gives_one p q = (same p.said q.said, same p.holds q.holds)

pub judge-one : (κs : _) (a : _) (r₁ r₂ : _) (e₁ e₂ : _) → judge.Post κs a r₁ e₁ → judge.Post κs a r₂ e₂ → r₁ ≡ r₂
judge-one κs a r₁ r₂ e₁ e₂ p q = ap (λ (x : Judged). x.listing) (same p q)

pub count-line-one : (κs : _) (a : _) (r₁ r₂ : _) (e₁ e₂ : _) → count-line.Post κs a r₁ e₁ → count-line.Post κs a r₂ e₂ → (r₁ ≡ r₂) × (e₁.1.0.now ≡ e₂.1.0.now)
count-line-one κs a r₁ r₂ e₁ e₂ p q = gives_one p q

pub refused-line-one : (κs : _) (a : _) (r₁ r₂ : _) (e₁ e₂ : _) → refused-line.Post κs a r₁ e₁ → refused-line.Post κs a r₂ e₂ → (r₁ ≡ r₂) × (e₁.1.0.now ≡ e₂.1.0.now)
refused-line-one κs a r₁ r₂ e₁ e₂ p q = gives_one p q

pub stream-line-one : (κs : _) (a : _) (r₁ r₂ : _) (e₁ e₂ : _) → stream-line.Post κs a r₁ e₁ → stream-line.Post κs a r₂ e₂ → (r₁ ≡ r₂) × (e₁.1.1.0.now ≡ e₂.1.1.0.now)
stream-line-one κs a r₁ r₂ e₁ e₂ p q = gives_one p q

pub line-at-one : (κs : _) (a : _) (r₁ r₂ : _) (e₁ e₂ : _) → line_at_lem.Post κs a r₁ e₁ → line_at_lem.Post κs a r₂ e₂ → (r₁ ≡ r₂) × (e₁.1.1.1.0.now ≡ e₂.1.1.1.0.now)
line-at-one κs a r₁ r₂ e₁ e₂ p q = gives_one p q
