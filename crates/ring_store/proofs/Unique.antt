-- A public function's contract leaves one outcome: any two that it permits, for the same arguments, are equal, in what is returned and in what the
-- lent slice holds. `Post` is the contract itself, as Rattle reads it off the source, so no statement here repeats a clause.
-- Assumes nothing.
use mathlib.Core.Path.{◌≡◌, ap}
use mathlib.Core.List.{List}
use Prim.Native.Nat.{ℕ}
use Rattle.layout.specs.Lent.{Made, made, Shown, shown}
use Rattle.codes.specs.SaysLaws.{same}
use Rattle.ring_store.specs.Calls.{Caught, caught}
use Rattle.ring_store.proofs.size.Reads as size
use Rattle.ring_store.proofs.store.track.Reads as track
use Rattle.ring_store.proofs.calls.new.Reads as new
use Rattle.ring_store.proofs.calls.new_indirect.Reads as new-indirect
use Rattle.ring_store.proofs.calls.turn.Reads as turn
use Rattle.ring_store.proofs.calls.drain_turn.Reads as drain-turn
use Rattle.ring_store.proofs.calls.start.Reads as start
use Rattle.ring_store.proofs.calls.start_traced.Reads as start-traced
use Rattle.ring_store.proofs.calls.turn_traced.Reads as turn-traced
use Rattle.ring_store.proofs.calls.capture_turn.Reads as capture-turn
use Rattle.ring_store.proofs.calls.capture_start.Reads as capture-start
use Rattle.ring_store.proofs.reads.offered.Reads as offered
use Rattle.ring_store.proofs.reads.capture_offered.Reads as capture-offered
use Rattle.ring_store.proofs.reads.running.Reads as running
use Rattle.ring_store.proofs.reads.in_flight.Reads as in-flight
use Rattle.ring_store.proofs.reads.free_descriptors.Reads as free-descriptors
use Rattle.ring_store.proofs.reads.turns_run.Reads as turns-run
use Rattle.ring_store.proofs.reads.stream.Reads as stream
use Rattle.ring_store.proofs.reads.kept.Reads as kept
use Rattle.ring_store.proofs.reads.accepted.Reads as accepted
use Rattle.ring_store.proofs.reads.trace_length.Reads as trace-length
use Rattle.ring_store.proofs.reads.carried.Reads as carried
use Rattle.ring_store.proofs.reads.oldest.Reads as oldest

-- what is answered, and what the lent slice then holds
changes : {m n : ℕ} {x y : List ℕ} {l : Made} → made m x ≡ l → made n y ≡ l → (m ≡ n) × (x ≡ y)
changes p q = (ap (λ (l : Made). l.answer) (same p q), ap (λ (l : Made). l.store) (same p q))

tells : {m n : ℕ} {x y : List ℕ} {l : Shown} → shown m x ≡ l → shown n y ≡ l → (m ≡ n) × (x ≡ y)
tells p q = (ap (λ (l : Shown). l.answer) (same p q), ap (λ (l : Shown). l.result) (same p q))

catches : {m n : ℕ} {x y v w : List ℕ} {l : Caught} → caught m x v ≡ l → caught n y w ≡ l → (m ≡ n) × (x ≡ y) × (v ≡ w)
catches p q = let e = same p q in (ap (λ (l : Caught). l.answer) e, ap (λ (l : Caught). l.ring) e, ap (λ (l : Caught). l.lent) e)

pub size-one : (κs : _) (a : _) (r₁ r₂ : _) (e₁ e₂ : _) → size.Post κs a r₁ e₁ → size.Post κs a r₂ e₂ → r₁ ≡ r₂
size-one κs a r₁ r₂ e₁ e₂ p q = same p q

pub track-one : (κs : _) (a : _) (r₁ r₂ : _) (e₁ e₂ : _) → track.Post κs a r₁ e₁ → track.Post κs a r₂ e₂ → r₁ ≡ r₂
track-one κs a r₁ r₂ e₁ e₂ p q = same p q

pub new-one : (κs : _) (a : _) (r₁ r₂ : _) (e₁ e₂ : _) → new.Post κs a r₁ e₁ → new.Post κs a r₂ e₂ → (r₁ ≡ r₂) × (e₁.0.now ≡ e₂.0.now)
new-one κs a r₁ r₂ e₁ e₂ p q = changes p q

pub new-indirect-one : (κs : _) (a : _) (r₁ r₂ : _) (e₁ e₂ : _) → new-indirect.Post κs a r₁ e₁ → new-indirect.Post κs a r₂ e₂ → (r₁ ≡ r₂) × (e₁.0.now ≡ e₂.0.now)
new-indirect-one κs a r₁ r₂ e₁ e₂ p q = changes p q

pub turn_one : (κs : _) (a : _) (r₁ r₂ : _) (e₁ e₂ : _) → turn.Post κs a r₁ e₁ → turn.Post κs a r₂ e₂ → (r₁ ≡ r₂) × (e₁.0.now ≡ e₂.0.now)
turn_one κs a r₁ r₂ e₁ e₂ p q = changes p q

pub drain-turn-one : (κs : _) (a : _) (r₁ r₂ : _) (e₁ e₂ : _) → drain-turn.Post κs a r₁ e₁ → drain-turn.Post κs a r₂ e₂ → (r₁ ≡ r₂) × (e₁.0.now ≡ e₂.0.now)
drain-turn-one κs a r₁ r₂ e₁ e₂ p q = changes p q

pub start-one : (κs : _) (a : _) (r₁ r₂ : _) (e₁ e₂ : _) → start.Post κs a r₁ e₁ → start.Post κs a r₂ e₂ → (r₁ ≡ r₂) × (e₁.0.now ≡ e₂.0.now)
start-one κs a r₁ r₂ e₁ e₂ p q = changes p q

pub start-traced-one : (κs : _) (a : _) (r₁ r₂ : _) (e₁ e₂ : _) → start-traced.Post κs a r₁ e₁ → start-traced.Post κs a r₂ e₂ → (r₁ ≡ r₂) × (e₁.0.now ≡ e₂.0.now)
start-traced-one κs a r₁ r₂ e₁ e₂ p q = changes p q

pub turn-traced-one : (κs : _) (a : _) (r₁ r₂ : _) (e₁ e₂ : _) → turn-traced.Post κs a r₁ e₁ → turn-traced.Post κs a r₂ e₂ → (r₁ ≡ r₂) × (e₁.0.now ≡ e₂.0.now) × (e₁.1.1.0.now ≡ e₂.1.1.0.now)
turn-traced-one κs a r₁ r₂ e₁ e₂ p q = catches p q

pub capture-turn-one : (κs : _) (a : _) (r₁ r₂ : _) (e₁ e₂ : _) → capture-turn.Post κs a r₁ e₁ → capture-turn.Post κs a r₂ e₂ → (r₁ ≡ r₂) × (e₁.0.now ≡ e₂.0.now) × (e₁.1.0.now ≡ e₂.1.0.now)
capture-turn-one κs a r₁ r₂ e₁ e₂ p q = catches p q

pub capture-start-one : (κs : _) (a : _) (r₁ r₂ : _) (e₁ e₂ : _) → capture-start.Post κs a r₁ e₁ → capture-start.Post κs a r₂ e₂ → (r₁ ≡ r₂) × (e₁.0.now ≡ e₂.0.now)
capture-start-one κs a r₁ r₂ e₁ e₂ p q = changes p q

pub offered-one : (κs : _) (a : _) (r₁ r₂ : _) (e₁ e₂ : _) → offered.Post κs a r₁ e₁ → offered.Post κs a r₂ e₂ → (r₁ ≡ r₂) × (e₁.1.1.0.now ≡ e₂.1.1.0.now)
offered-one κs a r₁ r₂ e₁ e₂ p q = tells p q

pub capture-offered-one : (κs : _) (a : _) (r₁ r₂ : _) (e₁ e₂ : _) → capture-offered.Post κs a r₁ e₁ → capture-offered.Post κs a r₂ e₂ → (r₁ ≡ r₂) × (e₁.1.1.0.now ≡ e₂.1.1.0.now)
capture-offered-one κs a r₁ r₂ e₁ e₂ p q = tells p q

pub running-one : (κs : _) (a : _) (r₁ r₂ : _) (e₁ e₂ : _) → running.Post κs a r₁ e₁ → running.Post κs a r₂ e₂ → (r₁ ≡ r₂) × (e₁.1.0.now ≡ e₂.1.0.now)
running-one κs a r₁ r₂ e₁ e₂ p q = tells p q

pub in-flight-one : (κs : _) (a : _) (r₁ r₂ : _) (e₁ e₂ : _) → in-flight.Post κs a r₁ e₁ → in-flight.Post κs a r₂ e₂ → (r₁ ≡ r₂) × (e₁.1.0.now ≡ e₂.1.0.now)
in-flight-one κs a r₁ r₂ e₁ e₂ p q = tells p q

pub free-descriptors-one : (κs : _) (a : _) (r₁ r₂ : _) (e₁ e₂ : _) → free-descriptors.Post κs a r₁ e₁ → free-descriptors.Post κs a r₂ e₂ → (r₁ ≡ r₂) × (e₁.1.0.now ≡ e₂.1.0.now)
free-descriptors-one κs a r₁ r₂ e₁ e₂ p q = tells p q

pub turns-run-one : (κs : _) (a : _) (r₁ r₂ : _) (e₁ e₂ : _) → turns-run.Post κs a r₁ e₁ → turns-run.Post κs a r₂ e₂ → (r₁ ≡ r₂) × (e₁.1.0.now ≡ e₂.1.0.now)
turns-run-one κs a r₁ r₂ e₁ e₂ p q = tells p q

pub stream-one : (κs : _) (a : _) (r₁ r₂ : _) (e₁ e₂ : _) → stream.Post κs a r₁ e₁ → stream.Post κs a r₂ e₂ → (r₁ ≡ r₂) × (e₁.1.0.now ≡ e₂.1.0.now)
stream-one κs a r₁ r₂ e₁ e₂ p q = tells p q

pub kept-one : (κs : _) (a : _) (r₁ r₂ : _) (e₁ e₂ : _) → kept.Post κs a r₁ e₁ → kept.Post κs a r₂ e₂ → (r₁ ≡ r₂) × (e₁.1.0.now ≡ e₂.1.0.now)
kept-one κs a r₁ r₂ e₁ e₂ p q = tells p q

pub accepted-one : (κs : _) (a : _) (r₁ r₂ : _) (e₁ e₂ : _) → accepted.Post κs a r₁ e₁ → accepted.Post κs a r₂ e₂ → (r₁ ≡ r₂) × (e₁.1.0.now ≡ e₂.1.0.now)
accepted-one κs a r₁ r₂ e₁ e₂ p q = tells p q

pub trace-length-one : (κs : _) (a : _) (r₁ r₂ : _) (e₁ e₂ : _) → trace-length.Post κs a r₁ e₁ → trace-length.Post κs a r₂ e₂ → (r₁ ≡ r₂) × (e₁.1.0.now ≡ e₂.1.0.now)
trace-length-one κs a r₁ r₂ e₁ e₂ p q = tells p q

pub carried-one : (κs : _) (a : _) (r₁ r₂ : _) (e₁ e₂ : _) → carried.Post κs a r₁ e₁ → carried.Post κs a r₂ e₂ → (r₁ ≡ r₂) × (e₁.1.1.0.now ≡ e₂.1.1.0.now)
carried-one κs a r₁ r₂ e₁ e₂ p q = tells p q

pub oldest-one : (κs : _) (a : _) (r₁ r₂ : _) (e₁ e₂ : _) → oldest.Post κs a r₁ e₁ → oldest.Post κs a r₂ e₂ → (r₁ ≡ r₂) × (e₁.1.0.now ≡ e₂.1.0.now)
oldest-one κs a r₁ r₂ e₁ e₂ p q = tells p q
