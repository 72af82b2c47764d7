-- An entry's contract leaves one outcome: any two that it permits, for the same arguments, are equal, in what is returned and in what every lent
-- slice holds. `Post` is the contract itself, as Rattle reads it off the source, so no statement here repeats a clause.
-- Assumes nothing.
use Rattle.std.proofs.Common.{◌≡◌, ℕ, List, ap}
use Rattle.codes.specs.SaysLaws.{same}
use Rattle.layout.specs.Lent.{Made, made, Shown, shown}
use Rattle.model_store.specs.Calls as device
use Rattle.ring_store.specs.Calls.{Caught, caught}
use Rattle.state_store.specs.Calls.{Told, left}
use Rattle.state_store.specs.Tokens.{Submitted, submitted}
use Rattle.console.specs.Entries.{Begun, began}
use Rattle.console.proofs.sizes.snd_state_size.Reads as state-size
use Rattle.console.proofs.sizes.snd_ring_size.Reads as ring-size
use Rattle.console.proofs.sizes.snd_message_size.Reads as message-size
use Rattle.console.proofs.sizes.snd_result_size.Reads as result-size
use Rattle.console.proofs.sizes.snd_page_size.Reads as page-size
use Rattle.console.proofs.sizes.snd_model_size.Reads as model-size
use Rattle.console.proofs.stores.snd_new.Reads as new
use Rattle.console.proofs.stores.snd_new_guarded.Reads as new-guarded
use Rattle.console.proofs.stores.snd_jacks.Reads as jacks
use Rattle.console.proofs.stores.snd_streams.Reads as streams
use Rattle.console.proofs.stores.snd_chmaps.Reads as chmaps
use Rattle.console.proofs.calls.snd_jack_remap.Reads as jack-remap
use Rattle.console.proofs.calls.snd_pcm_set_params.Reads as pcm-set-params
use Rattle.console.proofs.calls.snd_pcm_prepare.Reads as pcm-prepare
use Rattle.console.proofs.calls.snd_pcm_release.Reads as pcm-release
use Rattle.console.proofs.calls.snd_pcm_start.Reads as pcm-start
use Rattle.console.proofs.calls.snd_pcm_stop.Reads as pcm-stop
use Rattle.console.proofs.calls.snd_output_streams.Reads as output-streams
use Rattle.console.proofs.calls.snd_input_streams.Reads as input-streams
use Rattle.console.proofs.calls.snd_rates_supported.Reads as rates-supported
use Rattle.console.proofs.calls.snd_formats_supported.Reads as formats-supported
use Rattle.console.proofs.calls.snd_channel_range_supported.Reads as channel-range-supported
use Rattle.console.proofs.calls.snd_features_supported.Reads as features-supported
use Rattle.console.proofs.calls.snd_feed.Reads as feed
use Rattle.console.proofs.calls.snd_feed_written.Reads as feed-written
use Rattle.console.proofs.calls.snd_feed_failure.Reads as feed-failure
use Rattle.console.proofs.transfer.snd_pcm_xfer_start.Reads as pcm-xfer-start
use Rattle.console.proofs.transfer.snd_pcm_xfer_start_traced.Reads as pcm-xfer-start-traced
use Rattle.console.proofs.capture.snd_pcm_capture_start.Reads as pcm-capture-start
use Rattle.console.proofs.nonblocking.snd_pcm_xfer_nb.Reads as pcm-xfer-nb
use Rattle.console.proofs.nonblocking.snd_pcm_xfer_mark.Reads as pcm-xfer-mark
use Rattle.console.proofs.nonblocking.snd_pcm_xfer_ok.Reads as pcm-xfer-ok
use Rattle.console.proofs.nonblocking.snd_pending_count.Reads as pending-count
use Rattle.console.proofs.nonblocking.snd_pending_token.Reads as pending-token
use Rattle.console.proofs.ring.snd_ring_new.Reads as ring-new
use Rattle.console.proofs.ring.snd_ring_new_indirect.Reads as ring-new-indirect
use Rattle.console.proofs.ring.snd_offered.Reads as offered
use Rattle.console.proofs.ring.snd_turn.Reads as turn
use Rattle.console.proofs.ring.snd_turn_traced.Reads as turn-traced
use Rattle.console.proofs.ring.snd_capture_offered.Reads as capture-offered
use Rattle.console.proofs.ring.snd_capture_turn.Reads as capture-turn
use Rattle.console.proofs.ring.snd_drain_turn.Reads as drain-turn
use Rattle.console.proofs.ring.snd_ring_running.Reads as ring-running
use Rattle.console.proofs.ring.snd_ring_in_flight.Reads as ring-in-flight
use Rattle.console.proofs.ring.snd_ring_free_descriptors.Reads as ring-free-descriptors
use Rattle.console.proofs.ring.snd_ring_turns_run.Reads as ring-turns-run
use Rattle.console.proofs.ring.snd_ring_stream.Reads as ring-stream
use Rattle.console.proofs.ring.snd_ring_kept.Reads as ring-kept
use Rattle.console.proofs.ring.snd_ring_accepted.Reads as ring-accepted
use Rattle.console.proofs.ring.snd_trace_length.Reads as trace-length
use Rattle.console.proofs.ring.snd_ring_carried.Reads as ring-carried
use Rattle.console.proofs.ring.snd_ring_oldest.Reads as ring-oldest
use Rattle.console.proofs.event.snd_latest_notification.Reads as latest-notification
use Rattle.console.proofs.versions.snd_config.Reads as config
use Rattle.console.proofs.versions.snd_latest_notification_in.Reads as latest-notification-in
use Rattle.console.proofs.device.snd_model_new.Reads as model-new
use Rattle.console.proofs.device.snd_model_control.Reads as model-control
use Rattle.console.proofs.device.snd_model_transfer.Reads as model-transfer
use Rattle.console.proofs.device.snd_model_payload.Reads as model-payload
use Rattle.console.proofs.device.snd_model_params.Reads as model-params
use Rattle.console.proofs.device.snd_model_played.Reads as model-played
use Rattle.console.proofs.wave.snd_wav_read.Reads as wav-read
use Rattle.console.proofs.wave.snd_wav_write.Reads as wav-write
use Rattle.console.proofs.traces.snd_trace_scan.Reads as trace-scan
use Rattle.console.proofs.traces.snd_trace_scan_at.Reads as trace-scan-at
use Rattle.console.proofs.traces.snd_judge.Reads as judge
use Rattle.console.proofs.traces.snd_judge_at.Reads as judge-at
use Rattle.console.proofs.compare.snd_entry_size.Reads as entry-size
use Rattle.console.proofs.compare.snd_differences.Reads as differences
use Rattle.console.proofs.compare.snd_compare.Reads as compare

left_one : {x : Told} {a b : ℕ} {s t m n r u : List ℕ} → left a s m r ≡ x → left b t n u ≡ x → (a ≡ b) × (s ≡ t) × (m ≡ n) × (r ≡ u)
left_one p q = let e = same p q in (ap (λ (y : Told). y.answer) e, ap (λ (y : Told). y.state) e, ap (λ (y : Told). y.message) e, ap (λ (y : Told). y.result) e)

began-one : {x : Begun} {a b : ℕ} {s t k l m n : List ℕ} → began a s k m ≡ x → began b t l n ≡ x → (a ≡ b) × (s ≡ t) × (k ≡ l) × (m ≡ n)
began-one p q = let e = same p q in (ap (λ (y : Begun). y.answer) e, ap (λ (y : Begun). y.state) e, ap (λ (y : Begun). y.ring) e, ap (λ (y : Begun). y.message) e)

submitted-one : {x : Submitted} {a b : ℕ} {s t k l m n r u : List ℕ} → submitted a s k m r ≡ x → submitted b t l n u ≡ x → (a ≡ b) × (s ≡ t) × (k ≡ l) × (m ≡ n) × (r ≡ u)
submitted-one p q =
    let e = same p q in
    (ap (λ (y : Submitted). y.answer) e, ap (λ (y : Submitted). y.state) e, ap (λ (y : Submitted). y.places) e, ap (λ (y : Submitted). y.message) e, ap (λ (y : Submitted). y.result) e)

made_one : {x : Made} {a b : ℕ} {s t : List ℕ} → made a s ≡ x → made b t ≡ x → (a ≡ b) × (s ≡ t)
made_one p q = let e = same p q in (ap (λ (y : Made). y.answer) e, ap (λ (y : Made). y.store) e)

shown-one : {x : Shown} {a b : ℕ} {r u : List ℕ} → shown a r ≡ x → shown b u ≡ x → (a ≡ b) × (r ≡ u)
shown-one p q = let e = same p q in (ap (λ (y : Shown). y.answer) e, ap (λ (y : Shown). y.result) e)

caught-one : {x : Caught} {a b : ℕ} {s t k l : List ℕ} → caught a s k ≡ x → caught b t l ≡ x → (a ≡ b) × (s ≡ t) × (k ≡ l)
caught-one p q = let e = same p q in (ap (λ (y : Caught). y.answer) e, ap (λ (y : Caught). y.ring) e, ap (λ (y : Caught). y.lent) e)

pub state-size-one : (κs : _) (a : _) (r₁ r₂ : _) (e₁ e₂ : _) → state-size.Post κs a r₁ e₁ → state-size.Post κs a r₂ e₂ → r₁ ≡ r₂
state-size-one κs a r₁ r₂ e₁ e₂ p q = same p q

pub ring-size-one : (κs : _) (a : _) (r₁ r₂ : _) (e₁ e₂ : _) → ring-size.Post κs a r₁ e₁ → ring-size.Post κs a r₂ e₂ → r₁ ≡ r₂
ring-size-one κs a r₁ r₂ e₁ e₂ p q = same p q

pub message-size-one : (κs : _) (a : _) (r₁ r₂ : _) (e₁ e₂ : _) → message-size.Post κs a r₁ e₁ → message-size.Post κs a r₂ e₂ → r₁ ≡ r₂
message-size-one κs a r₁ r₂ e₁ e₂ p q = same p q

pub result-size-one : (κs : _) (a : _) (r₁ r₂ : _) (e₁ e₂ : _) → result-size.Post κs a r₁ e₁ → result-size.Post κs a r₂ e₂ → r₁ ≡ r₂
result-size-one κs a r₁ r₂ e₁ e₂ p q = same p q

pub page-size-one : (κs : _) (a : _) (r₁ r₂ : _) (e₁ e₂ : _) → page-size.Post κs a r₁ e₁ → page-size.Post κs a r₂ e₂ → r₁ ≡ r₂
page-size-one κs a r₁ r₂ e₁ e₂ p q = same p q

pub model-size-one : (κs : _) (a : _) (r₁ r₂ : _) (e₁ e₂ : _) → model-size.Post κs a r₁ e₁ → model-size.Post κs a r₂ e₂ → r₁ ≡ r₂
model-size-one κs a r₁ r₂ e₁ e₂ p q = same p q

-- lent: state
pub new-one : (κs : _) (a : _) (r₁ r₂ : _) (e₁ e₂ : _) → new.Post κs a r₁ e₁ → new.Post κs a r₂ e₂ → (r₁ ≡ r₂) × (e₁.0.now ≡ e₂.0.now)
new-one κs a r₁ r₂ e₁ e₂ p q = made_one p q

pub new-guarded-one : (κs : _) (a : _) (r₁ r₂ : _) (e₁ e₂ : _) → new-guarded.Post κs a r₁ e₁ → new-guarded.Post κs a r₂ e₂ → (r₁ ≡ r₂) × (e₁.0.now ≡ e₂.0.now)
new-guarded-one κs a r₁ r₂ e₁ e₂ p q = made_one p q

-- lent: result
pub jacks-one : (κs : _) (a : _) (r₁ r₂ : _) (e₁ e₂ : _) → jacks.Post κs a r₁ e₁ → jacks.Post κs a r₂ e₂ → (r₁ ≡ r₂) × (e₁.1.0.now ≡ e₂.1.0.now)
jacks-one κs a r₁ r₂ e₁ e₂ p q = shown-one p q

pub streams-one : (κs : _) (a : _) (r₁ r₂ : _) (e₁ e₂ : _) → streams.Post κs a r₁ e₁ → streams.Post κs a r₂ e₂ → (r₁ ≡ r₂) × (e₁.1.0.now ≡ e₂.1.0.now)
streams-one κs a r₁ r₂ e₁ e₂ p q = shown-one p q

pub chmaps-one : (κs : _) (a : _) (r₁ r₂ : _) (e₁ e₂ : _) → chmaps.Post κs a r₁ e₁ → chmaps.Post κs a r₂ e₂ → (r₁ ≡ r₂) × (e₁.1.0.now ≡ e₂.1.0.now)
chmaps-one κs a r₁ r₂ e₁ e₂ p q = shown-one p q

-- lent: state, message, result
pub jack-remap-one : (κs : _) (a : _) (r₁ r₂ : _) (e₁ e₂ : _) → jack-remap.Post κs a r₁ e₁ → jack-remap.Post κs a r₂ e₂
    → (r₁ ≡ r₂) × (e₁.0.now ≡ e₂.0.now) × (e₁.1.1.1.1.1.0.now ≡ e₂.1.1.1.1.1.0.now) × (e₁.1.1.1.1.1.1.0.now ≡ e₂.1.1.1.1.1.1.0.now)
jack-remap-one κs a r₁ r₂ e₁ e₂ p q = left_one p q

pub pcm-set-params-one : (κs : _) (a : _) (r₁ r₂ : _) (e₁ e₂ : _) → pcm-set-params.Post κs a r₁ e₁ → pcm-set-params.Post κs a r₂ e₂
    → (r₁ ≡ r₂) × (e₁.0.now ≡ e₂.0.now) × (e₁.1.1.1.1.1.1.1.1.1.0.now ≡ e₂.1.1.1.1.1.1.1.1.1.0.now) × (e₁.1.1.1.1.1.1.1.1.1.1.0.now ≡ e₂.1.1.1.1.1.1.1.1.1.1.0.now)
pcm-set-params-one κs a r₁ r₂ e₁ e₂ p q = left_one p q

pub pcm-prepare-one : (κs : _) (a : _) (r₁ r₂ : _) (e₁ e₂ : _) → pcm-prepare.Post κs a r₁ e₁ → pcm-prepare.Post κs a r₂ e₂
    → (r₁ ≡ r₂) × (e₁.0.now ≡ e₂.0.now) × (e₁.1.1.1.0.now ≡ e₂.1.1.1.0.now) × (e₁.1.1.1.1.0.now ≡ e₂.1.1.1.1.0.now)
pcm-prepare-one κs a r₁ r₂ e₁ e₂ p q = left_one p q

pub pcm-release-one : (κs : _) (a : _) (r₁ r₂ : _) (e₁ e₂ : _) → pcm-release.Post κs a r₁ e₁ → pcm-release.Post κs a r₂ e₂
    → (r₁ ≡ r₂) × (e₁.0.now ≡ e₂.0.now) × (e₁.1.1.1.0.now ≡ e₂.1.1.1.0.now) × (e₁.1.1.1.1.0.now ≡ e₂.1.1.1.1.0.now)
pcm-release-one κs a r₁ r₂ e₁ e₂ p q = left_one p q

pub pcm-start-one : (κs : _) (a : _) (r₁ r₂ : _) (e₁ e₂ : _) → pcm-start.Post κs a r₁ e₁ → pcm-start.Post κs a r₂ e₂
    → (r₁ ≡ r₂) × (e₁.0.now ≡ e₂.0.now) × (e₁.1.1.1.0.now ≡ e₂.1.1.1.0.now) × (e₁.1.1.1.1.0.now ≡ e₂.1.1.1.1.0.now)
pcm-start-one κs a r₁ r₂ e₁ e₂ p q = left_one p q

pub pcm-stop-one : (κs : _) (a : _) (r₁ r₂ : _) (e₁ e₂ : _) → pcm-stop.Post κs a r₁ e₁ → pcm-stop.Post κs a r₂ e₂
    → (r₁ ≡ r₂) × (e₁.0.now ≡ e₂.0.now) × (e₁.1.1.1.0.now ≡ e₂.1.1.1.0.now) × (e₁.1.1.1.1.0.now ≡ e₂.1.1.1.1.0.now)
pcm-stop-one κs a r₁ r₂ e₁ e₂ p q = left_one p q

pub output-streams-one : (κs : _) (a : _) (r₁ r₂ : _) (e₁ e₂ : _) → output-streams.Post κs a r₁ e₁ → output-streams.Post κs a r₂ e₂
    → (r₁ ≡ r₂) × (e₁.0.now ≡ e₂.0.now) × (e₁.1.1.0.now ≡ e₂.1.1.0.now) × (e₁.1.1.1.0.now ≡ e₂.1.1.1.0.now)
output-streams-one κs a r₁ r₂ e₁ e₂ p q = left_one p q

pub input-streams-one : (κs : _) (a : _) (r₁ r₂ : _) (e₁ e₂ : _) → input-streams.Post κs a r₁ e₁ → input-streams.Post κs a r₂ e₂
    → (r₁ ≡ r₂) × (e₁.0.now ≡ e₂.0.now) × (e₁.1.1.0.now ≡ e₂.1.1.0.now) × (e₁.1.1.1.0.now ≡ e₂.1.1.1.0.now)
input-streams-one κs a r₁ r₂ e₁ e₂ p q = left_one p q

pub rates-supported-one : (κs : _) (a : _) (r₁ r₂ : _) (e₁ e₂ : _) → rates-supported.Post κs a r₁ e₁ → rates-supported.Post κs a r₂ e₂
    → (r₁ ≡ r₂) × (e₁.0.now ≡ e₂.0.now) × (e₁.1.1.1.0.now ≡ e₂.1.1.1.0.now) × (e₁.1.1.1.1.0.now ≡ e₂.1.1.1.1.0.now)
rates-supported-one κs a r₁ r₂ e₁ e₂ p q = left_one p q

pub formats-supported-one : (κs : _) (a : _) (r₁ r₂ : _) (e₁ e₂ : _) → formats-supported.Post κs a r₁ e₁ → formats-supported.Post κs a r₂ e₂
    → (r₁ ≡ r₂) × (e₁.0.now ≡ e₂.0.now) × (e₁.1.1.1.0.now ≡ e₂.1.1.1.0.now) × (e₁.1.1.1.1.0.now ≡ e₂.1.1.1.1.0.now)
formats-supported-one κs a r₁ r₂ e₁ e₂ p q = left_one p q

pub channel-range-supported-one : (κs : _) (a : _) (r₁ r₂ : _) (e₁ e₂ : _) → channel-range-supported.Post κs a r₁ e₁ → channel-range-supported.Post κs a r₂ e₂
    → (r₁ ≡ r₂) × (e₁.0.now ≡ e₂.0.now) × (e₁.1.1.1.0.now ≡ e₂.1.1.1.0.now) × (e₁.1.1.1.1.0.now ≡ e₂.1.1.1.1.0.now)
channel-range-supported-one κs a r₁ r₂ e₁ e₂ p q = left_one p q

pub features-supported-one : (κs : _) (a : _) (r₁ r₂ : _) (e₁ e₂ : _) → features-supported.Post κs a r₁ e₁ → features-supported.Post κs a r₂ e₂
    → (r₁ ≡ r₂) × (e₁.0.now ≡ e₂.0.now) × (e₁.1.1.1.0.now ≡ e₂.1.1.1.0.now) × (e₁.1.1.1.1.0.now ≡ e₂.1.1.1.1.0.now)
features-supported-one κs a r₁ r₂ e₁ e₂ p q = left_one p q

pub feed-one : (κs : _) (a : _) (r₁ r₂ : _) (e₁ e₂ : _) → feed.Post κs a r₁ e₁ → feed.Post κs a r₂ e₂
    → (r₁ ≡ r₂) × (e₁.0.now ≡ e₂.0.now) × (e₁.1.1.0.now ≡ e₂.1.1.0.now) × (e₁.1.1.1.0.now ≡ e₂.1.1.1.0.now)
feed-one κs a r₁ r₂ e₁ e₂ p q = left_one p q

pub feed-written-one : (κs : _) (a : _) (r₁ r₂ : _) (e₁ e₂ : _) → feed-written.Post κs a r₁ e₁ → feed-written.Post κs a r₂ e₂
    → (r₁ ≡ r₂) × (e₁.0.now ≡ e₂.0.now) × (e₁.1.1.1.0.now ≡ e₂.1.1.1.0.now) × (e₁.1.1.1.1.0.now ≡ e₂.1.1.1.1.0.now)
feed-written-one κs a r₁ r₂ e₁ e₂ p q = left_one p q

pub feed-failure-one : (κs : _) (a : _) (r₁ r₂ : _) (e₁ e₂ : _) → feed-failure.Post κs a r₁ e₁ → feed-failure.Post κs a r₂ e₂
    → (r₁ ≡ r₂) × (e₁.0.now ≡ e₂.0.now) × (e₁.1.0.now ≡ e₂.1.0.now) × (e₁.1.1.0.now ≡ e₂.1.1.0.now)
feed-failure-one κs a r₁ r₂ e₁ e₂ p q = left_one p q

-- lent: state, ring, message
pub pcm-xfer-start-one : (κs : _) (a : _) (r₁ r₂ : _) (e₁ e₂ : _) → pcm-xfer-start.Post κs a r₁ e₁ → pcm-xfer-start.Post κs a r₂ e₂
    → (r₁ ≡ r₂) × (e₁.0.now ≡ e₂.0.now) × (e₁.1.0.now ≡ e₂.1.0.now) × (e₁.1.1.1.1.1.0.now ≡ e₂.1.1.1.1.1.0.now)
pcm-xfer-start-one κs a r₁ r₂ e₁ e₂ p q = began-one p q

pub pcm-xfer-start-traced-one : (κs : _) (a : _) (r₁ r₂ : _) (e₁ e₂ : _) → pcm-xfer-start-traced.Post κs a r₁ e₁ → pcm-xfer-start-traced.Post κs a r₂ e₂
    → (r₁ ≡ r₂) × (e₁.0.now ≡ e₂.0.now) × (e₁.1.0.now ≡ e₂.1.0.now) × (e₁.1.1.1.1.1.1.0.now ≡ e₂.1.1.1.1.1.1.0.now)
pcm-xfer-start-traced-one κs a r₁ r₂ e₁ e₂ p q = began-one p q

pub pcm-capture-start-one : (κs : _) (a : _) (r₁ r₂ : _) (e₁ e₂ : _) → pcm-capture-start.Post κs a r₁ e₁ → pcm-capture-start.Post κs a r₂ e₂
    → (r₁ ≡ r₂) × (e₁.0.now ≡ e₂.0.now) × (e₁.1.0.now ≡ e₂.1.0.now) × (e₁.1.1.1.1.1.1.0.now ≡ e₂.1.1.1.1.1.1.0.now)
pcm-capture-start-one κs a r₁ r₂ e₁ e₂ p q = began-one p q

-- lent: state, places, message, result
pub pcm-xfer-nb-one : (κs : _) (a : _) (r₁ r₂ : _) (e₁ e₂ : _) → pcm-xfer-nb.Post κs a r₁ e₁ → pcm-xfer-nb.Post κs a r₂ e₂
    → (r₁ ≡ r₂) × (e₁.0.now ≡ e₂.0.now) × (e₁.1.1.1.1.0.now ≡ e₂.1.1.1.1.0.now) × (e₁.1.1.1.1.1.0.now ≡ e₂.1.1.1.1.1.0.now) × (e₁.1.1.1.1.1.1.0.now ≡ e₂.1.1.1.1.1.1.0.now)
pcm-xfer-nb-one κs a r₁ r₂ e₁ e₂ p q = submitted-one p q

-- lent: state
pub pcm-xfer-mark-one : (κs : _) (a : _) (r₁ r₂ : _) (e₁ e₂ : _) → pcm-xfer-mark.Post κs a r₁ e₁ → pcm-xfer-mark.Post κs a r₂ e₂ → (r₁ ≡ r₂) × (e₁.0.now ≡ e₂.0.now)
pcm-xfer-mark-one κs a r₁ r₂ e₁ e₂ p q = made_one p q

pub pcm-xfer-ok-one : (κs : _) (a : _) (r₁ r₂ : _) (e₁ e₂ : _) → pcm-xfer-ok.Post κs a r₁ e₁ → pcm-xfer-ok.Post κs a r₂ e₂ → (r₁ ≡ r₂) × (e₁.0.now ≡ e₂.0.now)
pcm-xfer-ok-one κs a r₁ r₂ e₁ e₂ p q = made_one p q

-- lent: result
pub pending-count-one : (κs : _) (a : _) (r₁ r₂ : _) (e₁ e₂ : _) → pending-count.Post κs a r₁ e₁ → pending-count.Post κs a r₂ e₂ → (r₁ ≡ r₂) × (e₁.1.0.now ≡ e₂.1.0.now)
pending-count-one κs a r₁ r₂ e₁ e₂ p q = shown-one p q

pub pending-token-one : (κs : _) (a : _) (r₁ r₂ : _) (e₁ e₂ : _) → pending-token.Post κs a r₁ e₁ → pending-token.Post κs a r₂ e₂ → (r₁ ≡ r₂) × (e₁.1.1.0.now ≡ e₂.1.1.0.now)
pending-token-one κs a r₁ r₂ e₁ e₂ p q = shown-one p q

-- lent: ring
pub ring-new-one : (κs : _) (a : _) (r₁ r₂ : _) (e₁ e₂ : _) → ring-new.Post κs a r₁ e₁ → ring-new.Post κs a r₂ e₂ → (r₁ ≡ r₂) × (e₁.0.now ≡ e₂.0.now)
ring-new-one κs a r₁ r₂ e₁ e₂ p q = made_one p q

pub ring-new-indirect-one : (κs : _) (a : _) (r₁ r₂ : _) (e₁ e₂ : _) → ring-new-indirect.Post κs a r₁ e₁ → ring-new-indirect.Post κs a r₂ e₂ → (r₁ ≡ r₂) × (e₁.0.now ≡ e₂.0.now)
ring-new-indirect-one κs a r₁ r₂ e₁ e₂ p q = made_one p q

-- lent: result
pub offered-one : (κs : _) (a : _) (r₁ r₂ : _) (e₁ e₂ : _) → offered.Post κs a r₁ e₁ → offered.Post κs a r₂ e₂ → (r₁ ≡ r₂) × (e₁.1.1.0.now ≡ e₂.1.1.0.now)
offered-one κs a r₁ r₂ e₁ e₂ p q = shown-one p q

-- lent: ring
pub turn_one : (κs : _) (a : _) (r₁ r₂ : _) (e₁ e₂ : _) → turn.Post κs a r₁ e₁ → turn.Post κs a r₂ e₂ → (r₁ ≡ r₂) × (e₁.0.now ≡ e₂.0.now)
turn_one κs a r₁ r₂ e₁ e₂ p q = made_one p q

-- lent: ring, room
pub turn-traced-one : (κs : _) (a : _) (r₁ r₂ : _) (e₁ e₂ : _) → turn-traced.Post κs a r₁ e₁ → turn-traced.Post κs a r₂ e₂ → (r₁ ≡ r₂) × (e₁.0.now ≡ e₂.0.now) × (e₁.1.1.0.now ≡ e₂.1.1.0.now)
turn-traced-one κs a r₁ r₂ e₁ e₂ p q = caught-one p q

-- lent: ring, recording
pub capture-turn-one : (κs : _) (a : _) (r₁ r₂ : _) (e₁ e₂ : _) → capture-turn.Post κs a r₁ e₁ → capture-turn.Post κs a r₂ e₂ → (r₁ ≡ r₂) × (e₁.0.now ≡ e₂.0.now) × (e₁.1.0.now ≡ e₂.1.0.now)
capture-turn-one κs a r₁ r₂ e₁ e₂ p q = caught-one p q

-- lent: ring
pub drain-turn-one : (κs : _) (a : _) (r₁ r₂ : _) (e₁ e₂ : _) → drain-turn.Post κs a r₁ e₁ → drain-turn.Post κs a r₂ e₂ → (r₁ ≡ r₂) × (e₁.0.now ≡ e₂.0.now)
drain-turn-one κs a r₁ r₂ e₁ e₂ p q = made_one p q

-- lent: result
pub ring-running-one : (κs : _) (a : _) (r₁ r₂ : _) (e₁ e₂ : _) → ring-running.Post κs a r₁ e₁ → ring-running.Post κs a r₂ e₂ → (r₁ ≡ r₂) × (e₁.1.0.now ≡ e₂.1.0.now)
ring-running-one κs a r₁ r₂ e₁ e₂ p q = shown-one p q

pub ring-in-flight-one : (κs : _) (a : _) (r₁ r₂ : _) (e₁ e₂ : _) → ring-in-flight.Post κs a r₁ e₁ → ring-in-flight.Post κs a r₂ e₂ → (r₁ ≡ r₂) × (e₁.1.0.now ≡ e₂.1.0.now)
ring-in-flight-one κs a r₁ r₂ e₁ e₂ p q = shown-one p q

pub ring-free-descriptors-one : (κs : _) (a : _) (r₁ r₂ : _) (e₁ e₂ : _) → ring-free-descriptors.Post κs a r₁ e₁ → ring-free-descriptors.Post κs a r₂ e₂ → (r₁ ≡ r₂) × (e₁.1.0.now ≡ e₂.1.0.now)
ring-free-descriptors-one κs a r₁ r₂ e₁ e₂ p q = shown-one p q

pub ring-turns-run-one : (κs : _) (a : _) (r₁ r₂ : _) (e₁ e₂ : _) → ring-turns-run.Post κs a r₁ e₁ → ring-turns-run.Post κs a r₂ e₂ → (r₁ ≡ r₂) × (e₁.1.0.now ≡ e₂.1.0.now)
ring-turns-run-one κs a r₁ r₂ e₁ e₂ p q = shown-one p q

pub ring-stream-one : (κs : _) (a : _) (r₁ r₂ : _) (e₁ e₂ : _) → ring-stream.Post κs a r₁ e₁ → ring-stream.Post κs a r₂ e₂ → (r₁ ≡ r₂) × (e₁.1.0.now ≡ e₂.1.0.now)
ring-stream-one κs a r₁ r₂ e₁ e₂ p q = shown-one p q

pub trace-length-one : (κs : _) (a : _) (r₁ r₂ : _) (e₁ e₂ : _) → trace-length.Post κs a r₁ e₁ → trace-length.Post κs a r₂ e₂ → (r₁ ≡ r₂) × (e₁.1.0.now ≡ e₂.1.0.now)
trace-length-one κs a r₁ r₂ e₁ e₂ p q = shown-one p q

pub ring-kept-one : (κs : _) (a : _) (r₁ r₂ : _) (e₁ e₂ : _) → ring-kept.Post κs a r₁ e₁ → ring-kept.Post κs a r₂ e₂ → (r₁ ≡ r₂) × (e₁.1.0.now ≡ e₂.1.0.now)
ring-kept-one κs a r₁ r₂ e₁ e₂ p q = shown-one p q

pub ring-accepted-one : (κs : _) (a : _) (r₁ r₂ : _) (e₁ e₂ : _) → ring-accepted.Post κs a r₁ e₁ → ring-accepted.Post κs a r₂ e₂ → (r₁ ≡ r₂) × (e₁.1.0.now ≡ e₂.1.0.now)
ring-accepted-one κs a r₁ r₂ e₁ e₂ p q = shown-one p q

pub capture-offered-one : (κs : _) (a : _) (r₁ r₂ : _) (e₁ e₂ : _) → capture-offered.Post κs a r₁ e₁ → capture-offered.Post κs a r₂ e₂ → (r₁ ≡ r₂) × (e₁.1.1.0.now ≡ e₂.1.1.0.now)
capture-offered-one κs a r₁ r₂ e₁ e₂ p q = shown-one p q

pub ring-carried-one : (κs : _) (a : _) (r₁ r₂ : _) (e₁ e₂ : _) → ring-carried.Post κs a r₁ e₁ → ring-carried.Post κs a r₂ e₂ → (r₁ ≡ r₂) × (e₁.1.1.0.now ≡ e₂.1.1.0.now)
ring-carried-one κs a r₁ r₂ e₁ e₂ p q = shown-one p q

pub ring-oldest-one : (κs : _) (a : _) (r₁ r₂ : _) (e₁ e₂ : _) → ring-oldest.Post κs a r₁ e₁ → ring-oldest.Post κs a r₂ e₂ → (r₁ ≡ r₂) × (e₁.1.0.now ≡ e₂.1.0.now)
ring-oldest-one κs a r₁ r₂ e₁ e₂ p q = shown-one p q

-- lent: result
pub latest-notification-one : (κs : _) (a : _) (r₁ r₂ : _) (e₁ e₂ : _) → latest-notification.Post κs a r₁ e₁ → latest-notification.Post κs a r₂ e₂ → (r₁ ≡ r₂) × (e₁.1.0.now ≡ e₂.1.0.now)
latest-notification-one κs a r₁ r₂ e₁ e₂ p q = shown-one p q

-- lent: model
pub model-new-one : (κs : _) (a : _) (r₁ r₂ : _) (e₁ e₂ : _) → model-new.Post κs a r₁ e₁ → model-new.Post κs a r₂ e₂ → (r₁ ≡ r₂) × (e₁.0.now ≡ e₂.0.now)
model-new-one κs a r₁ r₂ e₁ e₂ p q = made_one p q

-- lent: model, page, result
pub model-control-one : (κs : _) (a : _) (r₁ r₂ : _) (e₁ e₂ : _) → model-control.Post κs a r₁ e₁ → model-control.Post κs a r₂ e₂
    → (r₁ ≡ r₂) × (e₁.0.now ≡ e₂.0.now) × (e₁.1.1.0.now ≡ e₂.1.1.0.now) × (e₁.1.1.1.0.now ≡ e₂.1.1.1.0.now)
model-control-one κs a r₁ r₂ e₁ e₂ p q = let e = same p q in (ap (λ (y : device.Told). y.answer) e, ap (λ (y : device.Told). y.store) e, ap (λ (y : device.Told). y.page) e, ap (λ (y : device.Told). y.result) e)

-- lent: model, answer
pub model-transfer-one : (κs : _) (a : _) (r₁ r₂ : _) (e₁ e₂ : _) → model-transfer.Post κs a r₁ e₁ → model-transfer.Post κs a r₂ e₂ → (r₁ ≡ r₂) × (e₁.0.now ≡ e₂.0.now) × (e₁.1.1.0.now ≡ e₂.1.1.0.now)
model-transfer-one κs a r₁ r₂ e₁ e₂ p q = let e = same p q in (ap (λ (y : device.Transferred). y.answer) e, ap (λ (y : device.Transferred). y.store) e, ap (λ (y : device.Transferred). y.status) e)

-- lent: result
pub model-payload-one : (κs : _) (a : _) (r₁ r₂ : _) (e₁ e₂ : _) → model-payload.Post κs a r₁ e₁ → model-payload.Post κs a r₂ e₂ → (r₁ ≡ r₂) × (e₁.1.1.0.now ≡ e₂.1.1.0.now)
model-payload-one κs a r₁ r₂ e₁ e₂ p q = shown-one p q

pub model-params-one : (κs : _) (a : _) (r₁ r₂ : _) (e₁ e₂ : _) → model-params.Post κs a r₁ e₁ → model-params.Post κs a r₂ e₂ → (r₁ ≡ r₂) × (e₁.1.1.0.now ≡ e₂.1.1.0.now)
model-params-one κs a r₁ r₂ e₁ e₂ p q = shown-one p q

pub model-played-one : (κs : _) (a : _) (r₁ r₂ : _) (e₁ e₂ : _) → model-played.Post κs a r₁ e₁ → model-played.Post κs a r₂ e₂ → (r₁ ≡ r₂) × (e₁.1.1.0.now ≡ e₂.1.1.0.now)
model-played-one κs a r₁ r₂ e₁ e₂ p q = shown-one p q

-- lent: result
pub wav-read-one : (κs : _) (a : _) (r₁ r₂ : _) (e₁ e₂ : _) → wav-read.Post κs a r₁ e₁ → wav-read.Post κs a r₂ e₂ → (r₁ ≡ r₂) × (e₁.1.0.now ≡ e₂.1.0.now)
wav-read-one κs a r₁ r₂ e₁ e₂ p q = shown-one p q

-- lent: file
pub wav-write-one : (κs : _) (a : _) (r₁ r₂ : _) (e₁ e₂ : _) → wav-write.Post κs a r₁ e₁ → wav-write.Post κs a r₂ e₂ → (r₁ ≡ r₂) × (e₁.1.1.1.1.0.now ≡ e₂.1.1.1.1.0.now)
wav-write-one κs a r₁ r₂ e₁ e₂ p q = made_one p q

pub config-one : (κs : _) (a : _) (r₁ r₂ : _) (e₁ e₂ : _) → config.Post κs a r₁ e₁ → config.Post κs a r₂ e₂ → (r₁ ≡ r₂) × (e₁.1.1.1.0.now ≡ e₂.1.1.1.0.now)
config-one κs a r₁ r₂ e₁ e₂ p q = shown-one p q

pub latest-notification-in-one : (κs : _) (a : _) (r₁ r₂ : _) (e₁ e₂ : _) → latest-notification-in.Post κs a r₁ e₁ → latest-notification-in.Post κs a r₂ e₂ → (r₁ ≡ r₂) × (e₁.1.1.1.0.now ≡ e₂.1.1.1.0.now)
latest-notification-in-one κs a r₁ r₂ e₁ e₂ p q = shown-one p q

pub trace-scan-one : (κs : _) (a : _) (r₁ r₂ : _) (e₁ e₂ : _) → trace-scan.Post κs a r₁ e₁ → trace-scan.Post κs a r₂ e₂ → r₁ ≡ r₂
trace-scan-one κs a r₁ r₂ e₁ e₂ p q = same p q

pub trace-scan-at-one : (κs : _) (a : _) (r₁ r₂ : _) (e₁ e₂ : _) → trace-scan-at.Post κs a r₁ e₁ → trace-scan-at.Post κs a r₂ e₂ → r₁ ≡ r₂
trace-scan-at-one κs a r₁ r₂ e₁ e₂ p q = same p q

pub judge-one : (κs : _) (a : _) (r₁ r₂ : _) (e₁ e₂ : _) → judge.Post κs a r₁ e₁ → judge.Post κs a r₂ e₂ → r₁ ≡ r₂
judge-one κs a r₁ r₂ e₁ e₂ p q = same p q

pub judge-at-one : (κs : _) (a : _) (r₁ r₂ : _) (e₁ e₂ : _) → judge-at.Post κs a r₁ e₁ → judge-at.Post κs a r₂ e₂ → r₁ ≡ r₂
judge-at-one κs a r₁ r₂ e₁ e₂ p q = same p q

pub entry-size-one : (κs : _) (a : _) (r₁ r₂ : _) (e₁ e₂ : _) → entry-size.Post κs a r₁ e₁ → entry-size.Post κs a r₂ e₂ → r₁ ≡ r₂
entry-size-one κs a r₁ r₂ e₁ e₂ p q = same p q

pub differences-one : (κs : _) (a : _) (r₁ r₂ : _) (e₁ e₂ : _) → differences.Post κs a r₁ e₁ → differences.Post κs a r₂ e₂ → r₁ ≡ r₂
differences-one κs a r₁ r₂ e₁ e₂ p q = same p q

-- lent: list
pub compare-one : (κs : _) (a : _) (r₁ r₂ : _) (e₁ e₂ : _) → compare.Post κs a r₁ e₁ → compare.Post κs a r₂ e₂ → (r₁ ≡ r₂) × (e₁.1.1.0.now ≡ e₂.1.1.0.now)
compare-one κs a r₁ r₂ e₁ e₂ p q = made_one p q
