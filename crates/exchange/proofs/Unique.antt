-- A public function's contract leaves one outcome: any two that it permits, for the same arguments, are equal, in what is returned and in what the
-- lent message buffer holds. `Post` is the contract itself, as Rattle reads it off the source, so no statement here repeats a clause.
-- Assumes nothing.
use Rattle.std.proofs.Common.{◌≡◌, get_or, refl, [], ◌∷◌}
use Rattle.codes.specs.SaysLaws.{same}
use Rattle.codes.specs.ResultLaws.{one-result}
use Rattle.exchange.proofs.state.Sound.new.Reads as new
use Rattle.exchange.proofs.state.Sound.new_guarded.Reads as new-guarded
use Rattle.exchange.proofs.state.Sound.jacks.Reads as jacks
use Rattle.exchange.proofs.state.Sound.streams.Reads as streams
use Rattle.exchange.proofs.state.Sound.chmaps.Reads as chmaps
use Rattle.exchange.proofs.effect.direction_at.Reads as direction-at
use Rattle.exchange.proofs.effect.life_at.Reads as life-at
use Rattle.exchange.proofs.effect.look.Reads as look
use Rattle.exchange.proofs.effect.pending_look.Reads as pending-look
use Rattle.exchange.proofs.calls.jack_remap.Reads as jack-remap
use Rattle.exchange.proofs.calls.pcm_set_params.Reads as pcm-set-params
use Rattle.exchange.proofs.calls.pcm_prepare.Reads as pcm-prepare
use Rattle.exchange.proofs.calls.pcm_release.Reads as pcm-release
use Rattle.exchange.proofs.calls.pcm_start.Reads as pcm-start
use Rattle.exchange.proofs.calls.pcm_stop.Reads as pcm-stop
use Rattle.exchange.proofs.calls.output_streams.Reads as output-streams
use Rattle.exchange.proofs.calls.input_streams.Reads as input-streams
use Rattle.exchange.proofs.calls.rates_supported.Reads as rates-supported
use Rattle.exchange.proofs.calls.formats_supported.Reads as formats-supported
use Rattle.exchange.proofs.calls.channel_range_supported.Reads as channel-range-supported
use Rattle.exchange.proofs.calls.features_supported.Reads as features-supported
use Rattle.exchange.proofs.calls.feed.Reads as feed
use Rattle.exchange.proofs.calls.feed_written.Reads as feed-written
use Rattle.exchange.proofs.calls.feed_failure.Reads as feed-failure
use Rattle.exchange.proofs.xfer.pcm_xfer_start.Reads as pcm-xfer-start
use Rattle.exchange.proofs.xfer.pcm_xfer.Reads as pcm-xfer
use Rattle.exchange.proofs.xfer.pcm_xfer_start_traced.Reads as pcm-xfer-start-traced
use Rattle.exchange.proofs.xfer.pcm_capture_start.Reads as pcm-capture-start
use Rattle.exchange.proofs.nonblocking.pcm_xfer_nb.Reads as pcm-xfer-nb
use Rattle.exchange.proofs.nonblocking.pcm_xfer_mark.Reads as pcm-xfer-mark
use Rattle.exchange.proofs.nonblocking.pcm_xfer_ok.Reads as pcm-xfer-ok
use Rattle.exchange.proofs.nonblocking.pending_count.Reads as pending-count
use Rattle.exchange.proofs.nonblocking.pending_token.Reads as pending-token
use Rattle.exchange.proofs.nonblocking.places_of.Reads as places_of

pub new-one : (κs : _) (a : _) (r₁ r₂ : _) (e₁ e₂ : _) → new.Post κs a r₁ e₁ → new.Post κs a r₂ e₂ → r₁ ≡ r₂
new-one κs a r₁ r₂ e₁ e₂ p q = same p q

pub new-guarded-one : (κs : _) (a : _) (r₁ r₂ : _) (e₁ e₂ : _) → new-guarded.Post κs a r₁ e₁ → new-guarded.Post κs a r₂ e₂ → r₁ ≡ r₂
new-guarded-one κs a r₁ r₂ e₁ e₂ p q = same p q

pub jacks-one : (κs : _) (a : _) (r₁ r₂ : _) (e₁ e₂ : _) → jacks.Post κs a r₁ e₁ → jacks.Post κs a r₂ e₂ → r₁ ≡ r₂
jacks-one κs a r₁ r₂ e₁ e₂ p q = one-result (λ n. n ∷ []) (λ l. get_or l 0 0) (λ n. refl) p q

pub streams-one : (κs : _) (a : _) (r₁ r₂ : _) (e₁ e₂ : _) → streams.Post κs a r₁ e₁ → streams.Post κs a r₂ e₂ → r₁ ≡ r₂
streams-one κs a r₁ r₂ e₁ e₂ p q = one-result (λ n. n ∷ []) (λ l. get_or l 0 0) (λ n. refl) p q

pub chmaps-one : (κs : _) (a : _) (r₁ r₂ : _) (e₁ e₂ : _) → chmaps.Post κs a r₁ e₁ → chmaps.Post κs a r₂ e₂ → r₁ ≡ r₂
chmaps-one κs a r₁ r₂ e₁ e₂ p q = one-result (λ n. n ∷ []) (λ l. get_or l 0 0) (λ n. refl) p q

pub jack-remap-one : (κs : _) (a : _) (r₁ r₂ : _) (e₁ e₂ : _) → jack-remap.Post κs a r₁ e₁ → jack-remap.Post κs a r₂ e₂ → (r₁ ≡ r₂) × (e₁.1.1.1.1.1.0.now ≡ e₂.1.1.1.1.1.0.now)
jack-remap-one κs a r₁ r₂ e₁ e₂ p q = (same p.step q.step, same p.message q.message)

pub pcm-set-params-one : (κs : _) (a : _) (r₁ r₂ : _) (e₁ e₂ : _) → pcm-set-params.Post κs a r₁ e₁ → pcm-set-params.Post κs a r₂ e₂ → (r₁ ≡ r₂) × (e₁.1.1.1.1.1.1.1.1.1.0.now ≡ e₂.1.1.1.1.1.1.1.1.1.0.now)
pcm-set-params-one κs a r₁ r₂ e₁ e₂ p q = (same p.step q.step, same p.message q.message)

pub pcm-prepare-one : (κs : _) (a : _) (r₁ r₂ : _) (e₁ e₂ : _) → pcm-prepare.Post κs a r₁ e₁ → pcm-prepare.Post κs a r₂ e₂ → (r₁ ≡ r₂) × (e₁.1.1.1.0.now ≡ e₂.1.1.1.0.now)
pcm-prepare-one κs a r₁ r₂ e₁ e₂ p q = (same p.step q.step, same p.message q.message)

pub pcm-release-one : (κs : _) (a : _) (r₁ r₂ : _) (e₁ e₂ : _) → pcm-release.Post κs a r₁ e₁ → pcm-release.Post κs a r₂ e₂ → (r₁ ≡ r₂) × (e₁.1.1.1.0.now ≡ e₂.1.1.1.0.now)
pcm-release-one κs a r₁ r₂ e₁ e₂ p q = (same p.step q.step, same p.message q.message)

pub pcm-start-one : (κs : _) (a : _) (r₁ r₂ : _) (e₁ e₂ : _) → pcm-start.Post κs a r₁ e₁ → pcm-start.Post κs a r₂ e₂ → (r₁ ≡ r₂) × (e₁.1.1.1.0.now ≡ e₂.1.1.1.0.now)
pcm-start-one κs a r₁ r₂ e₁ e₂ p q = (same p.step q.step, same p.message q.message)

pub pcm-stop-one : (κs : _) (a : _) (r₁ r₂ : _) (e₁ e₂ : _) → pcm-stop.Post κs a r₁ e₁ → pcm-stop.Post κs a r₂ e₂ → (r₁ ≡ r₂) × (e₁.1.1.1.0.now ≡ e₂.1.1.1.0.now)
pcm-stop-one κs a r₁ r₂ e₁ e₂ p q = (same p.step q.step, same p.message q.message)

pub output-streams-one : (κs : _) (a : _) (r₁ r₂ : _) (e₁ e₂ : _) → output-streams.Post κs a r₁ e₁ → output-streams.Post κs a r₂ e₂ → (r₁ ≡ r₂) × (e₁.1.1.0.now ≡ e₂.1.1.0.now)
output-streams-one κs a r₁ r₂ e₁ e₂ p q = (same p.step q.step, same p.message q.message)

pub input-streams-one : (κs : _) (a : _) (r₁ r₂ : _) (e₁ e₂ : _) → input-streams.Post κs a r₁ e₁ → input-streams.Post κs a r₂ e₂ → (r₁ ≡ r₂) × (e₁.1.1.0.now ≡ e₂.1.1.0.now)
input-streams-one κs a r₁ r₂ e₁ e₂ p q = (same p.step q.step, same p.message q.message)

pub rates-supported-one : (κs : _) (a : _) (r₁ r₂ : _) (e₁ e₂ : _) → rates-supported.Post κs a r₁ e₁ → rates-supported.Post κs a r₂ e₂ → (r₁ ≡ r₂) × (e₁.1.1.1.0.now ≡ e₂.1.1.1.0.now)
rates-supported-one κs a r₁ r₂ e₁ e₂ p q = (same p.step q.step, same p.message q.message)

pub formats-supported-one : (κs : _) (a : _) (r₁ r₂ : _) (e₁ e₂ : _) → formats-supported.Post κs a r₁ e₁ → formats-supported.Post κs a r₂ e₂ → (r₁ ≡ r₂) × (e₁.1.1.1.0.now ≡ e₂.1.1.1.0.now)
formats-supported-one κs a r₁ r₂ e₁ e₂ p q = (same p.step q.step, same p.message q.message)

pub channel-range-supported-one : (κs : _) (a : _) (r₁ r₂ : _) (e₁ e₂ : _) → channel-range-supported.Post κs a r₁ e₁ → channel-range-supported.Post κs a r₂ e₂ → (r₁ ≡ r₂) × (e₁.1.1.1.0.now ≡ e₂.1.1.1.0.now)
channel-range-supported-one κs a r₁ r₂ e₁ e₂ p q = (same p.step q.step, same p.message q.message)

pub features-supported-one : (κs : _) (a : _) (r₁ r₂ : _) (e₁ e₂ : _) → features-supported.Post κs a r₁ e₁ → features-supported.Post κs a r₂ e₂ → (r₁ ≡ r₂) × (e₁.1.1.1.0.now ≡ e₂.1.1.1.0.now)
features-supported-one κs a r₁ r₂ e₁ e₂ p q = (same p.step q.step, same p.message q.message)

pub feed-one : (κs : _) (a : _) (r₁ r₂ : _) (e₁ e₂ : _) → feed.Post κs a r₁ e₁ → feed.Post κs a r₂ e₂ → (r₁ ≡ r₂) × (e₁.1.1.0.now ≡ e₂.1.1.0.now)
feed-one κs a r₁ r₂ e₁ e₂ p q = (same p.step q.step, same p.message q.message)

pub feed-written-one : (κs : _) (a : _) (r₁ r₂ : _) (e₁ e₂ : _) → feed-written.Post κs a r₁ e₁ → feed-written.Post κs a r₂ e₂ → (r₁ ≡ r₂) × (e₁.1.1.1.0.now ≡ e₂.1.1.1.0.now)
feed-written-one κs a r₁ r₂ e₁ e₂ p q = (same p.step q.step, same p.message q.message)

pub feed-failure-one : (κs : _) (a : _) (r₁ r₂ : _) (e₁ e₂ : _) → feed-failure.Post κs a r₁ e₁ → feed-failure.Post κs a r₂ e₂ → (r₁ ≡ r₂) × (e₁.1.0.now ≡ e₂.1.0.now)
feed-failure-one κs a r₁ r₂ e₁ e₂ p q = (same p.step q.step, same p.message q.message)

pub pcm-xfer-start-one : (κs : _) (a : _) (r₁ r₂ : _) (e₁ e₂ : _) → pcm-xfer-start.Post κs a r₁ e₁ → pcm-xfer-start.Post κs a r₂ e₂ → (r₁ ≡ r₂) × (e₁.1.1.1.1.1.0.now ≡ e₂.1.1.1.1.1.0.now)
pcm-xfer-start-one κs a r₁ r₂ e₁ e₂ p q = (same p.step q.step, same p.message q.message)

pub pcm-xfer-start-traced-one : (κs : _) (a : _) (r₁ r₂ : _) (e₁ e₂ : _) → pcm-xfer-start-traced.Post κs a r₁ e₁ → pcm-xfer-start-traced.Post κs a r₂ e₂ → (r₁ ≡ r₂) × (e₁.1.1.1.1.1.1.0.now ≡ e₂.1.1.1.1.1.1.0.now)
pcm-xfer-start-traced-one κs a r₁ r₂ e₁ e₂ p q = (same p.step q.step, same p.message q.message)

pub pcm-capture-start-one : (κs : _) (a : _) (r₁ r₂ : _) (e₁ e₂ : _) → pcm-capture-start.Post κs a r₁ e₁ → pcm-capture-start.Post κs a r₂ e₂ → (r₁ ≡ r₂) × (e₁.1.1.1.1.1.1.0.now ≡ e₂.1.1.1.1.1.1.0.now)
pcm-capture-start-one κs a r₁ r₂ e₁ e₂ p q = (same p.step q.step, same p.message q.message)

pub pcm-xfer-one : (κs : _) (a : _) (r₁ r₂ : _) (e₁ e₂ : _) → pcm-xfer.Post κs a r₁ e₁ → pcm-xfer.Post κs a r₂ e₂ → (r₁ ≡ r₂) × (e₁.1.1.1.1.1.1.0.now ≡ e₂.1.1.1.1.1.1.0.now)
pcm-xfer-one κs a r₁ r₂ e₁ e₂ p q = (same p.step q.step, same p.message q.message)

pub pcm-xfer-nb-one : (κs : _) (a : _) (r₁ r₂ : _) (e₁ e₂ : _) → pcm-xfer-nb.Post κs a r₁ e₁ → pcm-xfer-nb.Post κs a r₂ e₂
    → (r₁ ≡ r₂) × ((e₁.1.1.1.1.0.now ≡ e₂.1.1.1.1.0.now) × (e₁.1.1.1.1.1.0.now ≡ e₂.1.1.1.1.1.0.now))
pcm-xfer-nb-one κs a r₁ r₂ e₁ e₂ p q = (same p.step q.step, (same p.store q.store, same p.message q.message))

pub pcm-xfer-mark-one : (κs : _) (a : _) (r₁ r₂ : _) (e₁ e₂ : _) → pcm-xfer-mark.Post κs a r₁ e₁ → pcm-xfer-mark.Post κs a r₂ e₂ → r₁ ≡ r₂
pcm-xfer-mark-one κs a r₁ r₂ e₁ e₂ p q = same p q

pub pcm-xfer-ok-one : (κs : _) (a : _) (r₁ r₂ : _) (e₁ e₂ : _) → pcm-xfer-ok.Post κs a r₁ e₁ → pcm-xfer-ok.Post κs a r₂ e₂ → r₁ ≡ r₂
pcm-xfer-ok-one κs a r₁ r₂ e₁ e₂ p q = same p q

pub pending-count-one : (κs : _) (a : _) (r₁ r₂ : _) (e₁ e₂ : _) → pending-count.Post κs a r₁ e₁ → pending-count.Post κs a r₂ e₂ → r₁ ≡ r₂
pending-count-one κs a r₁ r₂ e₁ e₂ p q = one-result (λ n. n ∷ []) (λ l. get_or l 0 0) (λ n. refl) p q

pub pending-token-one : (κs : _) (a : _) (r₁ r₂ : _) (e₁ e₂ : _) → pending-token.Post κs a r₁ e₁ → pending-token.Post κs a r₂ e₂ → r₁ ≡ r₂
pending-token-one κs a r₁ r₂ e₁ e₂ p q = same p q

pub places-of-one : (κs : _) (a : _) (r₁ r₂ : _) (e₁ e₂ : _) → places_of.Post κs a r₁ e₁ → places_of.Post κs a r₂ e₂ → r₁ ≡ r₂
places-of-one κs a r₁ r₂ e₁ e₂ p q = same p q

pub direction-at-one : (κs : _) (a : _) (r₁ r₂ : _) (e₁ e₂ : _) → direction-at.Post κs a r₁ e₁ → direction-at.Post κs a r₂ e₂ → r₁ ≡ r₂
direction-at-one κs a r₁ r₂ e₁ e₂ p q = same p q

pub life-at-one : (κs : _) (a : _) (r₁ r₂ : _) (e₁ e₂ : _) → life-at.Post κs a r₁ e₁ → life-at.Post κs a r₂ e₂ → r₁ ≡ r₂
life-at-one κs a r₁ r₂ e₁ e₂ p q = same p q

pub look_one : (κs : _) (a : _) (r₁ r₂ : _) (e₁ e₂ : _) → look.Post κs a r₁ e₁ → look.Post κs a r₂ e₂ → r₁ ≡ r₂
look_one κs a r₁ r₂ e₁ e₂ p q = same p q

pub pending-look-one : (κs : _) (a : _) (r₁ r₂ : _) (e₁ e₂ : _) → pending-look.Post κs a r₁ e₁ → pending-look.Post κs a r₂ e₂ → r₁ ≡ r₂
pending-look-one κs a r₁ r₂ e₁ e₂ p q = same p q
