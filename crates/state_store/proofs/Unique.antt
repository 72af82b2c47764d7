-- A public function's contract leaves one outcome: any two that it permits, for the same arguments, are equal, in what is returned and in what every
-- lent slice holds. `Post` is the contract itself, as Rattle reads it off the source, so no statement here repeats a clause.
-- Assumes nothing.
use Rattle.std.specs.Prelude.{ℕ, Result}
use Rattle.std.proofs.Common.{◌≡◌, ℕ, List, ap}
use Rattle.codes.specs.SaysLaws.{same}
use Rattle.layout.specs.Lent.{Made, made, Shown, shown}
use Rattle.state_store.specs.Calls.{Told, left, Opened, opened}
use Rattle.state_store.specs.Tokens.{Submitted, submitted}
use Rattle.state_store.proofs.calls.size.Reads as size
use Rattle.state_store.proofs.calls.call.Reads as call
use Rattle.state_store.proofs.calls.feed.Reads as feed
use Rattle.state_store.proofs.calls.feed_written.Reads as feed-written
use Rattle.state_store.proofs.calls.feed_failure.Reads as feed-failure
use Rattle.state_store.proofs.calls.open.Reads as opening
use Rattle.state_store.proofs.calls.open_capture.Reads as opening-capture
use Rattle.state_store.proofs.config.new.Reads as new
use Rattle.state_store.proofs.config.new_guarded.Reads as new-guarded
use Rattle.state_store.proofs.config.jacks.Reads as jacks
use Rattle.state_store.proofs.config.streams.Reads as streams
use Rattle.state_store.proofs.config.chmaps.Reads as chmaps
use Rattle.state_store.proofs.nonblocking.pcm_xfer_nb.Reads as pcm-xfer-nb
use Rattle.state_store.proofs.tokens.pcm_xfer_mark.Reads as pcm-xfer-mark
use Rattle.state_store.proofs.tokens.pcm_xfer_ok.Reads as pcm-xfer-ok
use Rattle.state_store.proofs.tokens.pending_count.Reads as pending-count
use Rattle.state_store.proofs.tokens.pending_token.Reads as pending-token

left_one : {x : Told} {a b : ℕ} {s t m n r u : List ℕ} → left a s m r ≡ x → left b t n u ≡ x → (a ≡ b) × (s ≡ t) × (m ≡ n) × (r ≡ u)
left_one p q = let e = same p q in (ap (λ (y : Told). y.answer) e, ap (λ (y : Told). y.state) e, ap (λ (y : Told). y.message) e, ap (λ (y : Told). y.result) e)

opened_one : {x : Opened} {a b : Result ℕ ℕ} {s t m n : List ℕ} → opened a s m ≡ x → opened b t n ≡ x → (a ≡ b) × (s ≡ t) × (m ≡ n)
opened_one p q = let e = same p q in (ap (λ (y : Opened). y.opening) e, ap (λ (y : Opened). y.state) e, ap (λ (y : Opened). y.message) e)

submitted-one : {x : Submitted} {a b : ℕ} {s t k l m n r u : List ℕ} → submitted a s k m r ≡ x → submitted b t l n u ≡ x → (a ≡ b) × (s ≡ t) × (k ≡ l) × (m ≡ n) × (r ≡ u)
submitted-one p q =
    let e = same p q in
    (ap (λ (y : Submitted). y.answer) e, ap (λ (y : Submitted). y.state) e, ap (λ (y : Submitted). y.places) e, ap (λ (y : Submitted). y.message) e, ap (λ (y : Submitted). y.result) e)

made_one : {x : Made} {a b : ℕ} {s t : List ℕ} → made a s ≡ x → made b t ≡ x → (a ≡ b) × (s ≡ t)
made_one p q = let e = same p q in (ap (λ (y : Made). y.answer) e, ap (λ (y : Made). y.store) e)

shown-one : {x : Shown} {a b : ℕ} {r u : List ℕ} → shown a r ≡ x → shown b u ≡ x → (a ≡ b) × (r ≡ u)
shown-one p q = let e = same p q in (ap (λ (y : Shown). y.answer) e, ap (λ (y : Shown). y.result) e)

pub size-one : (κs : _) (a : _) (r₁ r₂ : _) (e₁ e₂ : _) → size.Post κs a r₁ e₁ → size.Post κs a r₂ e₂ → r₁ ≡ r₂
size-one κs a r₁ r₂ e₁ e₂ p q = same p q

-- state, message and result
pub call-one : (κs : _) (a : _) (r₁ r₂ : _) (e₁ e₂ : _) → call.Post κs a r₁ e₁ → call.Post κs a r₂ e₂ → (r₁ ≡ r₂) × (e₁.0.now ≡ e₂.0.now) × (e₁.1.1.1.0.now ≡ e₂.1.1.1.0.now) × (e₁.1.1.1.1.0.now ≡ e₂.1.1.1.1.0.now)
call-one κs a r₁ r₂ e₁ e₂ p q = left_one p q

pub feed-one : (κs : _) (a : _) (r₁ r₂ : _) (e₁ e₂ : _) → feed.Post κs a r₁ e₁ → feed.Post κs a r₂ e₂ → (r₁ ≡ r₂) × (e₁.0.now ≡ e₂.0.now) × (e₁.1.1.0.now ≡ e₂.1.1.0.now) × (e₁.1.1.1.0.now ≡ e₂.1.1.1.0.now)
feed-one κs a r₁ r₂ e₁ e₂ p q = left_one p q

pub feed-written-one : (κs : _) (a : _) (r₁ r₂ : _) (e₁ e₂ : _) → feed-written.Post κs a r₁ e₁ → feed-written.Post κs a r₂ e₂ → (r₁ ≡ r₂) × (e₁.0.now ≡ e₂.0.now) × (e₁.1.1.1.0.now ≡ e₂.1.1.1.0.now) × (e₁.1.1.1.1.0.now ≡ e₂.1.1.1.1.0.now)
feed-written-one κs a r₁ r₂ e₁ e₂ p q = left_one p q

pub feed-failure-one : (κs : _) (a : _) (r₁ r₂ : _) (e₁ e₂ : _) → feed-failure.Post κs a r₁ e₁ → feed-failure.Post κs a r₂ e₂ → (r₁ ≡ r₂) × (e₁.0.now ≡ e₂.0.now) × (e₁.1.0.now ≡ e₂.1.0.now) × (e₁.1.1.0.now ≡ e₂.1.1.0.now)
feed-failure-one κs a r₁ r₂ e₁ e₂ p q = left_one p q

-- state and message
pub open-one : (κs : _) (a : _) (r₁ r₂ : _) (e₁ e₂ : _) → opening.Post κs a r₁ e₁ → opening.Post κs a r₂ e₂ → (r₁ ≡ r₂) × (e₁.0.now ≡ e₂.0.now) × (e₁.1.1.1.0.now ≡ e₂.1.1.1.0.now)
open-one κs a r₁ r₂ e₁ e₂ p q = opened_one p q

pub open-capture-one : (κs : _) (a : _) (r₁ r₂ : _) (e₁ e₂ : _) → opening-capture.Post κs a r₁ e₁ → opening-capture.Post κs a r₂ e₂ → (r₁ ≡ r₂) × (e₁.0.now ≡ e₂.0.now) × (e₁.1.1.1.0.now ≡ e₂.1.1.1.0.now)
open-capture-one κs a r₁ r₂ e₁ e₂ p q = opened_one p q

-- state
pub new-one : (κs : _) (a : _) (r₁ r₂ : _) (e₁ e₂ : _) → new.Post κs a r₁ e₁ → new.Post κs a r₂ e₂ → (r₁ ≡ r₂) × (e₁.0.now ≡ e₂.0.now)
new-one κs a r₁ r₂ e₁ e₂ p q = made_one p q

pub new-guarded-one : (κs : _) (a : _) (r₁ r₂ : _) (e₁ e₂ : _) → new-guarded.Post κs a r₁ e₁ → new-guarded.Post κs a r₂ e₂ → (r₁ ≡ r₂) × (e₁.0.now ≡ e₂.0.now)
new-guarded-one κs a r₁ r₂ e₁ e₂ p q = made_one p q

-- result
pub jacks-one : (κs : _) (a : _) (r₁ r₂ : _) (e₁ e₂ : _) → jacks.Post κs a r₁ e₁ → jacks.Post κs a r₂ e₂ → (r₁ ≡ r₂) × (e₁.1.0.now ≡ e₂.1.0.now)
jacks-one κs a r₁ r₂ e₁ e₂ p q = shown-one p q

pub streams-one : (κs : _) (a : _) (r₁ r₂ : _) (e₁ e₂ : _) → streams.Post κs a r₁ e₁ → streams.Post κs a r₂ e₂ → (r₁ ≡ r₂) × (e₁.1.0.now ≡ e₂.1.0.now)
streams-one κs a r₁ r₂ e₁ e₂ p q = shown-one p q

pub chmaps-one : (κs : _) (a : _) (r₁ r₂ : _) (e₁ e₂ : _) → chmaps.Post κs a r₁ e₁ → chmaps.Post κs a r₂ e₂ → (r₁ ≡ r₂) × (e₁.1.0.now ≡ e₂.1.0.now)
chmaps-one κs a r₁ r₂ e₁ e₂ p q = shown-one p q

-- state, places, message and result
pub pcm-xfer-nb-one : (κs : _) (a : _) (r₁ r₂ : _) (e₁ e₂ : _) → pcm-xfer-nb.Post κs a r₁ e₁ → pcm-xfer-nb.Post κs a r₂ e₂
    → (r₁ ≡ r₂) × (e₁.0.now ≡ e₂.0.now) × (e₁.1.1.1.1.0.now ≡ e₂.1.1.1.1.0.now) × (e₁.1.1.1.1.1.0.now ≡ e₂.1.1.1.1.1.0.now) × (e₁.1.1.1.1.1.1.0.now ≡ e₂.1.1.1.1.1.1.0.now)
pcm-xfer-nb-one κs a r₁ r₂ e₁ e₂ p q = submitted-one p q

-- state
pub pcm-xfer-mark-one : (κs : _) (a : _) (r₁ r₂ : _) (e₁ e₂ : _) → pcm-xfer-mark.Post κs a r₁ e₁ → pcm-xfer-mark.Post κs a r₂ e₂ → (r₁ ≡ r₂) × (e₁.0.now ≡ e₂.0.now)
pcm-xfer-mark-one κs a r₁ r₂ e₁ e₂ p q = made_one p q

pub pcm-xfer-ok-one : (κs : _) (a : _) (r₁ r₂ : _) (e₁ e₂ : _) → pcm-xfer-ok.Post κs a r₁ e₁ → pcm-xfer-ok.Post κs a r₂ e₂ → (r₁ ≡ r₂) × (e₁.0.now ≡ e₂.0.now)
pcm-xfer-ok-one κs a r₁ r₂ e₁ e₂ p q = made_one p q

-- result
pub pending-count-one : (κs : _) (a : _) (r₁ r₂ : _) (e₁ e₂ : _) → pending-count.Post κs a r₁ e₁ → pending-count.Post κs a r₂ e₂ → (r₁ ≡ r₂) × (e₁.1.0.now ≡ e₂.1.0.now)
pending-count-one κs a r₁ r₂ e₁ e₂ p q = shown-one p q

pub pending-token-one : (κs : _) (a : _) (r₁ r₂ : _) (e₁ e₂ : _) → pending-token.Post κs a r₁ e₁ → pending-token.Post κs a r₂ e₂ → (r₁ ≡ r₂) × (e₁.1.1.0.now ≡ e₂.1.1.0.now)
pending-token-one κs a r₁ r₂ e₁ e₂ p q = shown-one p q
