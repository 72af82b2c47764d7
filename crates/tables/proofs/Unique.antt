-- A public function's contract leaves one outcome: any two that it permits, for the same arguments, are equal. `Post` is the contract itself, as
-- Rattle reads it off the source, so no statement here repeats a clause.
-- Assumes nothing.
use mathlib.Core.Path.{◌≡◌}
use Rattle.codes.specs.SaysLaws.{same}
use Rattle.tables.proofs.verdict.judge.Reads as judge
use Rattle.tables.proofs.verdict.is_good.Reads as is-good
use Rattle.tables.proofs.verdict.refused_by.Reads as refused-by
use Rattle.tables.proofs.verdict.page_ok.Reads as page-ok
use Rattle.tables.proofs.verdict.holds.Reads as holds
use Rattle.tables.proofs.kept.fill.Reads as fill

pub judge-one : (κs : _) (a : _) (r₁ r₂ : _) (e₁ e₂ : _) → judge.Post κs a r₁ e₁ → judge.Post κs a r₂ e₂ → r₁ ≡ r₂
judge-one κs a r₁ r₂ e₁ e₂ p q = same p q

pub is-good-one : (κs : _) (a : _) (r₁ r₂ : _) (e₁ e₂ : _) → is-good.Post κs a r₁ e₁ → is-good.Post κs a r₂ e₂ → r₁ ≡ r₂
is-good-one κs a r₁ r₂ e₁ e₂ p q = same p q

pub refused-by-one : (κs : _) (a : _) (r₁ r₂ : _) (e₁ e₂ : _) → refused-by.Post κs a r₁ e₁ → refused-by.Post κs a r₂ e₂ → r₁ ≡ r₂
refused-by-one κs a r₁ r₂ e₁ e₂ p q = same p q

pub page-ok-one : (κs : _) (a : _) (r₁ r₂ : _) (e₁ e₂ : _) → page-ok.Post κs a r₁ e₁ → page-ok.Post κs a r₂ e₂ → r₁ ≡ r₂
page-ok-one κs a r₁ r₂ e₁ e₂ p q = same p q

pub holds-one : (κs : _) (a : _) (r₁ r₂ : _) (e₁ e₂ : _) → holds.Post κs a r₁ e₁ → holds.Post κs a r₂ e₂ → r₁ ≡ r₂
holds-one κs a r₁ r₂ e₁ e₂ p q = same p q

pub fill_one : (κs : _) (a : _) (r₁ r₂ : _) (e₁ e₂ : _) → fill.Post κs a r₁ e₁ → fill.Post κs a r₂ e₂ → e₁.0.now ≡ e₂.0.now
fill_one κs a r₁ r₂ e₁ e₂ p q = same p q
