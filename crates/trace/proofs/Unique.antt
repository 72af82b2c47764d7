-- A public function's contract leaves one outcome: any two that it permits, for the same arguments, are equal.
-- Assumes nothing.
use mathlib.Core.Path.{◌≡◌}
use Rattle.codes.specs.SaysLaws.{same}
use Rattle.trace.proofs.fields.scan.Reads as scan
use Rattle.trace.proofs.course.judge.Reads as judge
use Rattle.trace.proofs.diff.differences.Reads as differences
use Rattle.trace.proofs.diff.compare.Reads as compare
use Rattle.trace.proofs.writer.turn_traced.Reads as turn-traced

pub scan-one : (κs : _) (a : _) (r₁ r₂ : _) (e₁ e₂ : _) → scan.Post κs a r₁ e₁ → scan.Post κs a r₂ e₂ → r₁ ≡ r₂
scan-one κs a r₁ r₂ e₁ e₂ p q = same p q

pub judge-one : (κs : _) (a : _) (r₁ r₂ : _) (e₁ e₂ : _) → judge.Post κs a r₁ e₁ → judge.Post κs a r₂ e₂ → r₁ ≡ r₂
judge-one κs a r₁ r₂ e₁ e₂ p q = same p q

pub differences-one : (κs : _) (a : _) (r₁ r₂ : _) (e₁ e₂ : _) → differences.Post κs a r₁ e₁ → differences.Post κs a r₂ e₂ → r₁ ≡ r₂
differences-one κs a r₁ r₂ e₁ e₂ p q = same p q

-- lent: list
pub compare-one : (κs : _) (a : _) (r₁ r₂ : _) (e₁ e₂ : _) → compare.Post κs a r₁ e₁ → compare.Post κs a r₂ e₂ → (r₁ ≡ r₂) × (e₁.1.1.0.now ≡ e₂.1.1.0.now)
compare-one κs a r₁ r₂ e₁ e₂ p q = (same p.0 q.0, same p.1 q.1)

-- lent: room
pub turn-traced-one : (κs : _) (a : _) (r₁ r₂ : _) (e₁ e₂ : _) → turn-traced.Post κs a r₁ e₁ → turn-traced.Post κs a r₂ e₂ → (r₁ ≡ r₂) × (e₁.1.1.0.now ≡ e₂.1.1.0.now)
turn-traced-one κs a r₁ r₂ e₁ e₂ p q = (same p.0 q.0, same p.1 q.1)
