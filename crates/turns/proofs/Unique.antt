-- A public function's contract leaves one outcome: any two that it permits, for the same arguments, are equal.
-- `Post` is the contract itself, as Rattle reads it off the source, so no statement here repeats a clause.
-- Assumes nothing.
use Rattle.std.specs.Prelude.{Option, Some, None, Result, Ok}
use mathlib.Core.Path.{◌≡◌, refl, sym, ap, ◌∙◌}
use mathlib.Core.List.{List, [], ◌∷◌}
use Prim.Native.Nat.{ℕ}
use seplogic.Ra.Ura.{Ura}
use base.Logic.{SProp, ent}
use contract.Monad.{Fun, conj, conj_l, conj_r, fact, fact_i, fact_use}
use prog.Memory.{Memory}
use prog.Routine.{Routine}
use types.Logic.{Logic}
use lib.ListN.{get_or}
use Rattle.codes.specs.Says.{Says}
use Rattle.codes.specs.SaysLaws.{same}
use Rattle.codes.specs.ResultLaws.{one-result}
use Rattle.codes.specs.declared.answers.Refusal.{Refusal}
use Rattle.turns.specs.Cut.{payload}
use Rattle.turns.specs.Calls.{shown_by}
use Rattle.turns.specs.Reads.{says_number, oldest_values}
use Rattle.turns.specs.Types.{Slot, Sent}
use Rattle.turns.proofs.calls.is_idle.Reads as is-idle
use Rattle.turns.proofs.consistent.is_consistent.Reads as is-consistent
use Rattle.turns.proofs.consistent.mode_ok.Reads as mode-ok
use Rattle.turns.proofs.calls.turn.Reads as turn
use Rattle.turns.proofs.calls.drain_turn.Reads as drain-turn
use Rattle.turns.proofs.calls.start.Reads as start
use Rattle.turns.proofs.calls.traced_start.Reads as traced-start
use Rattle.turns.proofs.calls.next_offer.Reads as next-offer
use Rattle.turns.proofs.calls.turn_track.Reads as turn-track
use Rattle.turns.proofs.calls.traced_track.Reads as traced-track
use Rattle.turns.proofs.calls.traced_start_track.Reads as traced-start-track
use Rattle.turns.proofs.calls.drain_track.Reads as drain-track
use Rattle.turns.proofs.calls.start_track.Reads as start-track
use Rattle.turns.proofs.calls.offer_track.Reads as offer-track
use Rattle.turns.proofs.script.transfer.Reads as transfer
use Rattle.turns.proofs.reading.Completion.from_words.Reads as from-words
use Rattle.turns.proofs.ring.Ring.new.Reads as new
use Rattle.turns.proofs.ring.Ring.new_indirect.Reads as new-indirect
use Rattle.turns.proofs.calls.offered.Reads as offered
use Rattle.turns.specs.contracts.in_place.turn_in_place as turn-in-place
use Rattle.turns.specs.contracts.in_place.drain_in_place as drain-in-place
use Rattle.turns.specs.contracts.in_place.turn_lent as turn-lent
use Rattle.turns.proofs.ring.Ring.running.Reads as running
use Rattle.turns.proofs.ring.Ring.in_flight.Reads as in-flight
use Rattle.turns.proofs.ring.Ring.free_descriptors.Reads as free-descriptors
use Rattle.turns.proofs.ring.Ring.turns_run.Reads as turns-run
use Rattle.turns.proofs.ring.Ring.stream.Reads as stream
use Rattle.turns.proofs.ring.Ring.kept.Reads as kept
use Rattle.turns.proofs.ring.Ring.trace_length.Reads as trace-length
use Rattle.turns.proofs.ring.Ring.accepted.Reads as accepted
use Rattle.turns.proofs.capture.Catch.from_words.Reads as catch-from-words
use Rattle.turns.proofs.capture.capture_track.Reads as capture-track
use Rattle.turns.proofs.capture.capture_turn.Reads as capture-turn
use Rattle.turns.proofs.capture.copy.Reads as copy
use Rattle.turns.proofs.capture.capture_start_track.Reads as capture-start-track
use Rattle.turns.proofs.capture.capture_start.Reads as capture-start
use Rattle.turns.proofs.capture.capture_offer.Reads as capture-offer
use Rattle.turns.proofs.ring.Ring.carried.Reads as read-carried
use Rattle.turns.proofs.ring.Ring.oldest.Reads as read-oldest

-- ---- the calls, of the track alone

pub turn-track-one : (κs : _) (a : _) (r₁ r₂ : _) (e₁ e₂ : _) → turn-track.Post κs a r₁ e₁ → turn-track.Post κs a r₂ e₂ → r₁ ≡ r₂
turn-track-one κs a r₁ r₂ e₁ e₂ p q = same p q

pub traced-track-one : (κs : _) (a : _) (r₁ r₂ : _) (e₁ e₂ : _) → traced-track.Post κs a r₁ e₁ → traced-track.Post κs a r₂ e₂ → r₁ ≡ r₂
traced-track-one κs a r₁ r₂ e₁ e₂ p q = same p q

pub drain-track-one : (κs : _) (a : _) (r₁ r₂ : _) (e₁ e₂ : _) → drain-track.Post κs a r₁ e₁ → drain-track.Post κs a r₂ e₂ → r₁ ≡ r₂
drain-track-one κs a r₁ r₂ e₁ e₂ p q = same p q

pub start-track-one : (κs : _) (a : _) (r₁ r₂ : _) (e₁ e₂ : _) → start-track.Post κs a r₁ e₁ → start-track.Post κs a r₂ e₂ → r₁ ≡ r₂
start-track-one κs a r₁ r₂ e₁ e₂ p q = same p q

pub traced-start-track-one : (κs : _) (a : _) (r₁ r₂ : _) (e₁ e₂ : _) → traced-start-track.Post κs a r₁ e₁ → traced-start-track.Post κs a r₂ e₂ → r₁ ≡ r₂
traced-start-track-one κs a r₁ r₂ e₁ e₂ p q = same p q

pub offer-track-one : (κs : _) (a : _) (r₁ r₂ : _) (e₁ e₂ : _) → offer-track.Post κs a r₁ e₁ → offer-track.Post κs a r₂ e₂ → r₁ ≡ r₂
offer-track-one κs a r₁ r₂ e₁ e₂ p q = same p q

-- ---- the calls

pub turn_one : (κs : _) (a : _) (r₁ r₂ : _) (e₁ e₂ : _) → turn.Post κs a r₁ e₁ → turn.Post κs a r₂ e₂ → r₁ ≡ r₂
turn_one κs a r₁ r₂ e₁ e₂ p q = same p q

pub drain-turn-one : (κs : _) (a : _) (r₁ r₂ : _) (e₁ e₂ : _) → drain-turn.Post κs a r₁ e₁ → drain-turn.Post κs a r₂ e₂ → r₁ ≡ r₂
drain-turn-one κs a r₁ r₂ e₁ e₂ p q = same p q

pub start-one : (κs : _) (a : _) (r₁ r₂ : _) (e₁ e₂ : _) → start.Post κs a r₁ e₁ → start.Post κs a r₂ e₂ → r₁ ≡ r₂
start-one κs a r₁ r₂ e₁ e₂ p q = same p q

pub traced-start-one : (κs : _) (a : _) (r₁ r₂ : _) (e₁ e₂ : _) → traced-start.Post κs a r₁ e₁ → traced-start.Post κs a r₂ e₂ → r₁ ≡ r₂
traced-start-one κs a r₁ r₂ e₁ e₂ p q = same p q

pub next-offer-one : (κs : _) (a : _) (r₁ r₂ : _) (e₁ e₂ : _) → next-offer.Post κs a r₁ e₁ → next-offer.Post κs a r₂ e₂ → r₁ ≡ r₂
next-offer-one κs a r₁ r₂ e₁ e₂ p q = same p q

pub transfer-one : (κs : _) (a : _) (r₁ r₂ : _) (e₁ e₂ : _) → transfer.Post κs a r₁ e₁ → transfer.Post κs a r₂ e₂ → r₁ ≡ r₂
transfer-one κs a r₁ r₂ e₁ e₂ p q = same p q

pub from-words-one : (κs : _) (a : _) (r₁ r₂ : _) (e₁ e₂ : _) → from-words.Post κs a r₁ e₁ → from-words.Post κs a r₂ e₂ → r₁ ≡ r₂
from-words-one κs a r₁ r₂ e₁ e₂ p q = same p q

pub new-one : (κs : _) (a : _) (r₁ r₂ : _) (e₁ e₂ : _) → new.Post κs a r₁ e₁ → new.Post κs a r₂ e₂ → r₁ ≡ r₂
new-one κs a r₁ r₂ e₁ e₂ p q = same p q

pub new-indirect-one : (κs : _) (a : _) (r₁ r₂ : _) (e₁ e₂ : _) → new-indirect.Post κs a r₁ e₁ → new-indirect.Post κs a r₂ e₂ → r₁ ≡ r₂
new-indirect-one κs a r₁ r₂ e₁ e₂ p q = same p q

-- of the part that `offered` returns the contents are told. That it is a part of the lent frames, and no copy, its lifetime says
pub offered-one : (κs : _) (a : _) (r₁ r₂ : _) (e₁ e₂ : _) → offered.Post κs a r₁ e₁ → offered.Post κs a r₂ e₂ → r₁.now ≡ r₂.now
offered-one κs a r₁ r₂ e₁ e₂ p q = same p q

-- and these contents are the part of the frames that `next_offer` names
pub offered-part : (κs : _) (a : _) (r : _) (e e' : _) (sent : Sent) → offered.Post κs a r e → next-offer.Post κs a (Ok sent) e' → r.now ≡ payload a.1.0.now sent
offered-part κs a r e e' sent p q = p ∙ ap (λ (o : Result Sent Refusal). shown_by o a.1.0.now) (sym q)

-- ---- the calls of a capture; what stands in the recording afterwards too

pub catch-from-words-one : (κs : _) (a : _) (r₁ r₂ : _) (e₁ e₂ : _) → catch-from-words.Post κs a r₁ e₁ → catch-from-words.Post κs a r₂ e₂ → r₁ ≡ r₂
catch-from-words-one κs a r₁ r₂ e₁ e₂ p q = same p q

pub capture-track-one : (κs : _) (a : _) (r₁ r₂ : _) (e₁ e₂ : _) → capture-track.Post κs a r₁ e₁ → capture-track.Post κs a r₂ e₂ → r₁ ≡ r₂
capture-track-one κs a r₁ r₂ e₁ e₂ p q = same p q

pub capture-start-track-one : (κs : _) (a : _) (r₁ r₂ : _) (e₁ e₂ : _) → capture-start-track.Post κs a r₁ e₁ → capture-start-track.Post κs a r₂ e₂ → r₁ ≡ r₂
capture-start-track-one κs a r₁ r₂ e₁ e₂ p q = same p q

pub capture-start-one : (κs : _) (a : _) (r₁ r₂ : _) (e₁ e₂ : _) → capture-start.Post κs a r₁ e₁ → capture-start.Post κs a r₂ e₂ → r₁ ≡ r₂
capture-start-one κs a r₁ r₂ e₁ e₂ p q = same p q

pub capture-offer-one : (κs : _) (a : _) (r₁ r₂ : _) (e₁ e₂ : _) → capture-offer.Post κs a r₁ e₁ → capture-offer.Post κs a r₂ e₂ → r₁ ≡ r₂
capture-offer-one κs a r₁ r₂ e₁ e₂ p q = same p q

pub capture-turn-one : (κs : _) (a : _) (r₁ r₂ : _) (e₁ e₂ : _) → capture-turn.Post κs a r₁ e₁ → capture-turn.Post κs a r₂ e₂ → (r₁ ≡ r₂) × (e₁.1.0.now ≡ e₂.1.0.now)
capture-turn-one κs a r₁ r₂ e₁ e₂ p q = (same p.0 q.0, same p.1 q.1)

pub copy-one : (κs : _) (a : _) (r₁ r₂ : _) (e₁ e₂ : _) → copy.Post κs a r₁ e₁ → copy.Post κs a r₂ e₂ → e₁.0.now ≡ e₂.0.now
copy-one κs a r₁ r₂ e₁ e₂ p q = same p q

-- ---- the calls in place, whose contracts are clauses of the logic: two outcomes that both satisfy them are equal, what stands behind the reference too

module _ {M : Type 1} {𝓤 : Ura M} (𝓛 : Logic 𝓤) (mem : Memory → SProp 𝓤) (run : Routine → Fun 𝓤) where
  both : (φ ψ χ : Type 0) → (φ → ψ → χ) → ent 𝓤 (conj 𝓤 (fact 𝓤 φ) (fact 𝓤 ψ)) (fact 𝓤 χ)
  both φ ψ χ f = fact_use 𝓤 φ (conj_l 𝓤 (fact 𝓤 φ) (fact 𝓤 ψ)) (λ p. fact_use 𝓤 ψ (conj_r 𝓤 (fact 𝓤 φ) (fact 𝓤 ψ)) (λ q. fact_i 𝓤 χ (conj 𝓤 (fact 𝓤 φ) (fact 𝓤 ψ)) (f p q)))

  pub turn-in-place-one : (κs : _) (a : _) (r₁ r₂ : _) (e₁ e₂ : _)
      → ent 𝓤 (conj 𝓤 ((turn-in-place.clauses 𝓛 mem run κs a).ensures tt r₁ e₁) ((turn-in-place.clauses 𝓛 mem run κs a).ensures tt r₂ e₂)) (fact 𝓤 ((r₁ ≡ r₂) × (e₁.0.now ≡ e₂.0.now)))
  turn-in-place-one κs a r₁ r₂ e₁ e₂ = both _ _ _ (λ p q. (same p.1 q.1, same p.0 q.0))

  pub drain-in-place-one : (κs : _) (a : _) (r₁ r₂ : _) (e₁ e₂ : _)
      → ent 𝓤 (conj 𝓤 ((drain-in-place.clauses 𝓛 mem run κs a).ensures tt r₁ e₁) ((drain-in-place.clauses 𝓛 mem run κs a).ensures tt r₂ e₂)) (fact 𝓤 ((r₁ ≡ r₂) × (e₁.0.now ≡ e₂.0.now)))
  drain-in-place-one κs a r₁ r₂ e₁ e₂ = both _ _ _ (λ p q. (same p.1 q.1, same p.0 q.0))

  pub turn-lent-one : (κs : _) (a : _) (r₁ r₂ : _) (e₁ e₂ : _)
      → ent 𝓤 (conj 𝓤 ((turn-lent.clauses 𝓛 mem run κs a).ensures tt r₁ e₁) ((turn-lent.clauses 𝓛 mem run κs a).ensures tt r₂ e₂)) (fact 𝓤 (r₁ ≡ r₂))
  turn-lent-one κs a r₁ r₂ e₁ e₂ = both _ _ _ (λ p q. same p q)

-- ---- the reads of a ring, by the way back from what they say

one-number : {x y : Result ℕ Refusal} {z : Says} → says_number x ≡ z → says_number y ≡ z → x ≡ y
one-number = one-result (λ n. n ∷ []) (λ vs. get_or vs 0 0) (λ n. refl)

pub running-one : (κs : _) (a : _) (r₁ r₂ : _) (e₁ e₂ : _) → running.Post κs a r₁ e₁ → running.Post κs a r₂ e₂ → r₁ ≡ r₂
running-one κs a r₁ r₂ e₁ e₂ p q = one-number p q

pub in-flight-one : (κs : _) (a : _) (r₁ r₂ : _) (e₁ e₂ : _) → in-flight.Post κs a r₁ e₁ → in-flight.Post κs a r₂ e₂ → r₁ ≡ r₂
in-flight-one κs a r₁ r₂ e₁ e₂ p q = one-number p q

pub free-descriptors-one : (κs : _) (a : _) (r₁ r₂ : _) (e₁ e₂ : _) → free-descriptors.Post κs a r₁ e₁ → free-descriptors.Post κs a r₂ e₂ → r₁ ≡ r₂
free-descriptors-one κs a r₁ r₂ e₁ e₂ p q = one-number p q

pub turns-run-one : (κs : _) (a : _) (r₁ r₂ : _) (e₁ e₂ : _) → turns-run.Post κs a r₁ e₁ → turns-run.Post κs a r₂ e₂ → r₁ ≡ r₂
turns-run-one κs a r₁ r₂ e₁ e₂ p q = one-number p q

pub kept-one : (κs : _) (a : _) (r₁ r₂ : _) (e₁ e₂ : _) → kept.Post κs a r₁ e₁ → kept.Post κs a r₂ e₂ → r₁ ≡ r₂
kept-one κs a r₁ r₂ e₁ e₂ p q = one-number p q

pub trace-length-one : (κs : _) (a : _) (r₁ r₂ : _) (e₁ e₂ : _) → trace-length.Post κs a r₁ e₁ → trace-length.Post κs a r₂ e₂ → r₁ ≡ r₂
trace-length-one κs a r₁ r₂ e₁ e₂ p q = one-number p q

pub accepted-one : (κs : _) (a : _) (r₁ r₂ : _) (e₁ e₂ : _) → accepted.Post κs a r₁ e₁ → accepted.Post κs a r₂ e₂ → r₁ ≡ r₂
accepted-one κs a r₁ r₂ e₁ e₂ p q = one-number p q

pub stream-one : (κs : _) (a : _) (r₁ r₂ : _) (e₁ e₂ : _) → stream.Post κs a r₁ e₁ → stream.Post κs a r₂ e₂ → r₁ ≡ r₂
stream-one κs a r₁ r₂ e₁ e₂ p q = one-number p q

pub carried-one : (κs : _) (a : _) (r₁ r₂ : _) (e₁ e₂ : _) → read-carried.Post κs a r₁ e₁ → read-carried.Post κs a r₂ e₂ → r₁ ≡ r₂
carried-one κs a r₁ r₂ e₁ e₂ p q = one-result (λ (s : Slot). s.offset ∷ s.len ∷ []) (λ vs. record { offset = get_or vs 0 0; len = get_or vs 1 0 }) (λ s. refl) p q

un_oldest : List ℕ → Option ℕ
un_oldest [] = None
un_oldest (n ∷ ns) = Some n

un-oldest : (o : Option ℕ) → un_oldest (oldest_values o) ≡ o
unfolding un_oldest
un-oldest (Some n) = refl
un-oldest None = refl

pub oldest-one : (κs : _) (a : _) (r₁ r₂ : _) (e₁ e₂ : _) → read-oldest.Post κs a r₁ e₁ → read-oldest.Post κs a r₂ e₂ → r₁ ≡ r₂
oldest-one κs a r₁ r₂ e₁ e₂ p q = one-result oldest_values un_oldest un-oldest p q

pub is-idle-one : (κs : _) (a : _) (r₁ r₂ : _) (e₁ e₂ : _) → is-idle.Post κs a r₁ e₁ → is-idle.Post κs a r₂ e₂ → r₁ ≡ r₂
is-idle-one κs a r₁ r₂ e₁ e₂ p q = same p q

pub is-consistent-one : (κs : _) (a : _) (r₁ r₂ : _) (e₁ e₂ : _) → is-consistent.Post κs a r₁ e₁ → is-consistent.Post κs a r₂ e₂ → r₁ ≡ r₂
is-consistent-one κs a r₁ r₂ e₁ e₂ p q = same p q

pub mode-ok-one : (κs : _) (a : _) (r₁ r₂ : _) (e₁ e₂ : _) → mode-ok.Post κs a r₁ e₁ → mode-ok.Post κs a r₂ e₂ → r₁ ≡ r₂
mode-ok-one κs a r₁ r₂ e₁ e₂ p q = same p q
