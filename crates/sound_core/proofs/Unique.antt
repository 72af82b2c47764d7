-- A public function's contract leaves one outcome: any two that it permits, for the same arguments, are equal, in what is returned and in what the
-- lent message buffer holds. `Post` is the contract itself, as Rattle reads it off the source, so no statement here repeats a clause.
-- Assumes nothing.
use Rattle.std.specs.Prelude.{◌≡◌}
use Rattle.codes.specs.SaysLaws.{same}
use Rattle.sound_core.proofs.state.Core.new.Reads as new
use Rattle.sound_core.proofs.consistency.consistent.Reads as consistent
use Rattle.sound_core.proofs.consistency.params_ok.Reads as params_ok
use Rattle.sound_core.proofs.consistency.stream_ok.Reads as stream-ok
use Rattle.sound_core.proofs.decide.begin.Reads as begin
use Rattle.sound_core.proofs.decide.answer.Reads as answer
use Rattle.sound_core.proofs.decide.ask_jacks.Reads as ask-jacks
use Rattle.sound_core.proofs.verdict.verdict_by.Reads as verdict-by
use Rattle.sound_core.proofs.gate.xfer_gate.Reads as xfer-gate
use Rattle.sound_core.proofs.reply.tell.Reads as tell

pub new-one : (κs : _) (a : _) (r₁ r₂ : _) (e₁ e₂ : _) → new.Post κs a r₁ e₁ → new.Post κs a r₂ e₂ → r₁ ≡ r₂
new-one κs a r₁ r₂ e₁ e₂ p q = same p q

pub consistent-one : (κs : _) (a : _) (r₁ r₂ : _) (e₁ e₂ : _) → consistent.Post κs a r₁ e₁ → consistent.Post κs a r₂ e₂ → r₁ ≡ r₂
consistent-one κs a r₁ r₂ e₁ e₂ p q = same p q

pub params-ok-one : (κs : _) (a : _) (r₁ r₂ : _) (e₁ e₂ : _) → params_ok.Post κs a r₁ e₁ → params_ok.Post κs a r₂ e₂ → r₁ ≡ r₂
params-ok-one κs a r₁ r₂ e₁ e₂ p q = same p q

pub stream-ok-one : (κs : _) (a : _) (r₁ r₂ : _) (e₁ e₂ : _) → stream-ok.Post κs a r₁ e₁ → stream-ok.Post κs a r₂ e₂ → r₁ ≡ r₂
stream-ok-one κs a r₁ r₂ e₁ e₂ p q = same p q

pub begin-one : (κs : _) (a : _) (r₁ r₂ : _) (e₁ e₂ : _) → begin.Post κs a r₁ e₁ → begin.Post κs a r₂ e₂ → r₁ ≡ r₂
begin-one κs a r₁ r₂ e₁ e₂ p q = same p q

pub answer-one : (κs : _) (a : _) (r₁ r₂ : _) (e₁ e₂ : _) → answer.Post κs a r₁ e₁ → answer.Post κs a r₂ e₂ → r₁ ≡ r₂
answer-one κs a r₁ r₂ e₁ e₂ p q = same p q

pub ask-jacks-one : (κs : _) (a : _) (r₁ r₂ : _) (e₁ e₂ : _) → ask-jacks.Post κs a r₁ e₁ → ask-jacks.Post κs a r₂ e₂ → r₁ ≡ r₂
ask-jacks-one κs a r₁ r₂ e₁ e₂ p q = same p q

pub verdict-by-one : (κs : _) (a : _) (r₁ r₂ : _) (e₁ e₂ : _) → verdict-by.Post κs a r₁ e₁ → verdict-by.Post κs a r₂ e₂ → r₁ ≡ r₂
verdict-by-one κs a r₁ r₂ e₁ e₂ p q = same p q

pub xfer-gate-one : (κs : _) (a : _) (r₁ r₂ : _) (e₁ e₂ : _) → xfer-gate.Post κs a r₁ e₁ → xfer-gate.Post κs a r₂ e₂ → r₁ ≡ r₂
xfer-gate-one κs a r₁ r₂ e₁ e₂ p q = same p q

pub tell-one : (κs : _) (a : _) (r₁ r₂ : _) (e₁ e₂ : _) → tell.Post κs a r₁ e₁ → tell.Post κs a r₂ e₂ → (r₁ ≡ r₂) × (e₁.1.0.now ≡ e₂.1.0.now)
tell-one κs a r₁ r₂ e₁ e₂ p q = (same p.0 q.0, same p.1 q.1)
