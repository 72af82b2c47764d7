-- A public function's contract leaves one outcome: any two that it permits, for the same arguments, are equal, in what is returned and in what the
-- lent slice holds. `Post` is the contract itself, as Rattle reads it off the source, so no statement here repeats a clause.
-- Assumes nothing.
use mathlib.Core.Path.{◌≡◌, refl}
use mathlib.Core.List.{List, [], ◌∷◌}
use lib.Dec.{eqb}
use lib.ListN.{length, get_or}
use Prim.Native.Nat.{ℕ}
use Rattle.codes.specs.Says.{Says, pick}
use Rattle.std.specs.Prelude.{Option, Some, None, Result}
use Rattle.codes.specs.SaysLaws.{same}
use Rattle.codes.specs.ResultLaws.{one-result}
use Rattle.codes.specs.declared.answers.Refusal.{Refusal}
use Rattle.codes.proofs.Unique.{kind_of, kind-of}
use Rattle.records.specs.Slice.{says_written}
use Rattle.records.specs.Notice.{notice_values}
use Rattle.records.specs.Records.{query_values, query_of, remap_values, remap_of, pcm_command_values, pcm_command_of, set_parameters_values, set_parameters_of, jack_info_values, jack_info_of, pcm_info_values, pcm_info_of, channel_map_values, channel_map_of, transfer_values, transfer_of, transfer_status_values, transfer_status_of, event_values, event_of}
use Rattle.records.specs.declared.event.Notice.{Notice}
use Rattle.records.specs.declared.event.Notice.TheVariants as notice
use Rattle.records.proofs.info.ChannelMap.position.Reads as position
use Rattle.records.proofs.event.latest_notification.Reads as latest-notification
use Rattle.records.proofs.notice.latest_notification_in.Reads as latest-notification-in
use Rattle.records.proofs.config.Config.read.Reads as config-read
use Rattle.records.proofs.config.Config.write.Reads as config-write
use Rattle.records.proofs.control.Query.read.Reads as query-read
use Rattle.records.proofs.control.Query.write.Reads as query-write
use Rattle.records.proofs.control.Remap.read.Reads as remap-read
use Rattle.records.proofs.control.Remap.write.Reads as remap-write
use Rattle.records.proofs.control.PcmCommand.read.Reads as pcm-command-read
use Rattle.records.proofs.control.PcmCommand.write.Reads as pcm-command-write
use Rattle.records.proofs.control.SetParameters.read.Reads as set-parameters-read
use Rattle.records.proofs.control.SetParameters.write.Reads as set-parameters-write
use Rattle.records.proofs.info.JackInfo.read.Reads as jack-info-read
use Rattle.records.proofs.info.JackInfo.write.Reads as jack-info-write
use Rattle.records.proofs.info.PcmInfo.read.Reads as pcm-info-read
use Rattle.records.proofs.info.PcmInfo.write.Reads as pcm-info-write
use Rattle.records.proofs.info.ChannelMap.read.Reads as channel-map-read
use Rattle.records.proofs.info.ChannelMap.write.Reads as channel-map-write
use Rattle.records.proofs.transfer.Transfer.read.Reads as transfer-read
use Rattle.records.proofs.transfer.Transfer.write.Reads as transfer-write
use Rattle.records.proofs.transfer.TransferStatus.read.Reads as transfer-status-read
use Rattle.records.proofs.transfer.TransferStatus.write.Reads as transfer-status-write
use Rattle.records.proofs.event.Event.read.Reads as event-read
use Rattle.records.proofs.event.Event.write.Reads as event-write

-- what a writer says, and what the slice then holds
both : {r₁ r₂ : Result (Unit {0}) Refusal} {said : Says} {x y bytes : List ℕ} → (says_written r₁ ≡ said) × (x ≡ bytes) → (says_written r₂ ≡ said) × (y ≡ bytes) → (r₁ ≡ r₂) × (x ≡ y)
both p q = (one-result (λ done. []) (λ vs. tt) (λ done. refl) p.0 q.0, same p.1 q.1)

pub query-read-one : (κs : _) (a : _) (r₁ r₂ : _) (e₁ e₂ : _) → query-read.Post κs a r₁ e₁ → query-read.Post κs a r₂ e₂ → r₁ ≡ r₂
query-read-one κs a r₁ r₂ e₁ e₂ p q = one-result query_values query_of (λ r. refl) p q

pub query-write-one : (κs : _) (a : _) (r₁ r₂ : _) (e₁ e₂ : _) → query-write.Post κs a r₁ e₁ → query-write.Post κs a r₂ e₂ → (r₁ ≡ r₂) × (e₁.1.0.now ≡ e₂.1.0.now)
query-write-one κs a r₁ r₂ e₁ e₂ p q = both p q

pub remap-read-one : (κs : _) (a : _) (r₁ r₂ : _) (e₁ e₂ : _) → remap-read.Post κs a r₁ e₁ → remap-read.Post κs a r₂ e₂ → r₁ ≡ r₂
remap-read-one κs a r₁ r₂ e₁ e₂ p q = one-result remap_values remap_of (λ r. refl) p q

pub remap-write-one : (κs : _) (a : _) (r₁ r₂ : _) (e₁ e₂ : _) → remap-write.Post κs a r₁ e₁ → remap-write.Post κs a r₂ e₂ → (r₁ ≡ r₂) × (e₁.1.0.now ≡ e₂.1.0.now)
remap-write-one κs a r₁ r₂ e₁ e₂ p q = both p q

pub pcm-command-read-one : (κs : _) (a : _) (r₁ r₂ : _) (e₁ e₂ : _) → pcm-command-read.Post κs a r₁ e₁ → pcm-command-read.Post κs a r₂ e₂ → r₁ ≡ r₂
pcm-command-read-one κs a r₁ r₂ e₁ e₂ p q = one-result pcm_command_values pcm_command_of (λ r. refl) p q

pub pcm-command-write-one : (κs : _) (a : _) (r₁ r₂ : _) (e₁ e₂ : _) → pcm-command-write.Post κs a r₁ e₁ → pcm-command-write.Post κs a r₂ e₂ → (r₁ ≡ r₂) × (e₁.1.0.now ≡ e₂.1.0.now)
pcm-command-write-one κs a r₁ r₂ e₁ e₂ p q = both p q

pub set-parameters-read-one : (κs : _) (a : _) (r₁ r₂ : _) (e₁ e₂ : _) → set-parameters-read.Post κs a r₁ e₁ → set-parameters-read.Post κs a r₂ e₂ → r₁ ≡ r₂
set-parameters-read-one κs a r₁ r₂ e₁ e₂ p q = one-result set_parameters_values set_parameters_of (λ r. refl) p q

pub set-parameters-write-one : (κs : _) (a : _) (r₁ r₂ : _) (e₁ e₂ : _) → set-parameters-write.Post κs a r₁ e₁ → set-parameters-write.Post κs a r₂ e₂ → (r₁ ≡ r₂) × (e₁.1.0.now ≡ e₂.1.0.now)
set-parameters-write-one κs a r₁ r₂ e₁ e₂ p q = both p q

pub jack-info-read-one : (κs : _) (a : _) (r₁ r₂ : _) (e₁ e₂ : _) → jack-info-read.Post κs a r₁ e₁ → jack-info-read.Post κs a r₂ e₂ → r₁ ≡ r₂
jack-info-read-one κs a r₁ r₂ e₁ e₂ p q = one-result jack_info_values jack_info_of (λ r. refl) p q

pub jack-info-write-one : (κs : _) (a : _) (r₁ r₂ : _) (e₁ e₂ : _) → jack-info-write.Post κs a r₁ e₁ → jack-info-write.Post κs a r₂ e₂ → (r₁ ≡ r₂) × (e₁.1.0.now ≡ e₂.1.0.now)
jack-info-write-one κs a r₁ r₂ e₁ e₂ p q = both p q

pub pcm-info-read-one : (κs : _) (a : _) (r₁ r₂ : _) (e₁ e₂ : _) → pcm-info-read.Post κs a r₁ e₁ → pcm-info-read.Post κs a r₂ e₂ → r₁ ≡ r₂
pcm-info-read-one κs a r₁ r₂ e₁ e₂ p q = one-result pcm_info_values pcm_info_of (λ r. refl) p q

pub pcm-info-write-one : (κs : _) (a : _) (r₁ r₂ : _) (e₁ e₂ : _) → pcm-info-write.Post κs a r₁ e₁ → pcm-info-write.Post κs a r₂ e₂ → (r₁ ≡ r₂) × (e₁.1.0.now ≡ e₂.1.0.now)
pcm-info-write-one κs a r₁ r₂ e₁ e₂ p q = both p q

pub channel-map-read-one : (κs : _) (a : _) (r₁ r₂ : _) (e₁ e₂ : _) → channel-map-read.Post κs a r₁ e₁ → channel-map-read.Post κs a r₂ e₂ → r₁ ≡ r₂
channel-map-read-one κs a r₁ r₂ e₁ e₂ p q = one-result channel_map_values channel_map_of (λ r. refl) p q

pub channel-map-write-one : (κs : _) (a : _) (r₁ r₂ : _) (e₁ e₂ : _) → channel-map-write.Post κs a r₁ e₁ → channel-map-write.Post κs a r₂ e₂ → (r₁ ≡ r₂) × (e₁.1.0.now ≡ e₂.1.0.now)
channel-map-write-one κs a r₁ r₂ e₁ e₂ p q = both p q

pub transfer-read-one : (κs : _) (a : _) (r₁ r₂ : _) (e₁ e₂ : _) → transfer-read.Post κs a r₁ e₁ → transfer-read.Post κs a r₂ e₂ → r₁ ≡ r₂
transfer-read-one κs a r₁ r₂ e₁ e₂ p q = one-result transfer_values transfer_of (λ r. refl) p q

pub transfer-write-one : (κs : _) (a : _) (r₁ r₂ : _) (e₁ e₂ : _) → transfer-write.Post κs a r₁ e₁ → transfer-write.Post κs a r₂ e₂ → (r₁ ≡ r₂) × (e₁.1.0.now ≡ e₂.1.0.now)
transfer-write-one κs a r₁ r₂ e₁ e₂ p q = both p q

pub transfer-status-read-one : (κs : _) (a : _) (r₁ r₂ : _) (e₁ e₂ : _) → transfer-status-read.Post κs a r₁ e₁ → transfer-status-read.Post κs a r₂ e₂ → r₁ ≡ r₂
transfer-status-read-one κs a r₁ r₂ e₁ e₂ p q = one-result transfer_status_values transfer_status_of (λ r. refl) p q

pub transfer-status-write-one : (κs : _) (a : _) (r₁ r₂ : _) (e₁ e₂ : _) → transfer-status-write.Post κs a r₁ e₁ → transfer-status-write.Post κs a r₂ e₂ → (r₁ ≡ r₂) × (e₁.1.0.now ≡ e₂.1.0.now)
transfer-status-write-one κs a r₁ r₂ e₁ e₂ p q = both p q

pub event-read-one : (κs : _) (a : _) (r₁ r₂ : _) (e₁ e₂ : _) → event-read.Post κs a r₁ e₁ → event-read.Post κs a r₂ e₂ → r₁ ≡ r₂
event-read-one κs a r₁ r₂ e₁ e₂ p q = one-result event_values event_of (λ r. refl) p q

pub event-write-one : (κs : _) (a : _) (r₁ r₂ : _) (e₁ e₂ : _) → event-write.Post κs a r₁ e₁ → event-write.Post κs a r₂ e₂ → (r₁ ≡ r₂) × (e₁.1.0.now ≡ e₂.1.0.now)
event-write-one κs a r₁ r₂ e₁ e₂ p q = both p q

pub position-one : (κs : _) (a : _) (r₁ r₂ : _) (e₁ e₂ : _) → position.Post κs a r₁ e₁ → position.Post κs a r₂ e₂ → r₁ ≡ r₂
position-one κs a r₁ r₂ e₁ e₂ p q = one-result (λ n. n ∷ []) (λ vs. get_or vs 0 0) (λ n. refl) p q

notice_of : List ℕ → Option Notice
notice_of vs =
    pick (eqb (length vs) 0) None
    (pick (eqb (length vs) 3) (Some (notice.Control (get_or vs 1 0) (get_or vs 2 0)))
    (Some (notice.Event (kind_of (get_or vs 0 0)) (get_or vs 1 0))))

notice-of : (n : Option Notice) → notice_of (notice_values n) ≡ n
unfolding notice_of
notice-of None = refl
notice-of (Some (notice.Event k d)) = λ i. Some (notice.Event (kind-of k i) d)
notice-of (Some (notice.Control id mask)) = refl

pub latest-notification-one : (κs : _) (a : _) (r₁ r₂ : _) (e₁ e₂ : _) → latest-notification.Post κs a r₁ e₁ → latest-notification.Post κs a r₂ e₂ → r₁ ≡ r₂
latest-notification-one κs a r₁ r₂ e₁ e₂ p q = one-result notice_values notice_of notice-of p q

pub latest-notification-in-one : (κs : _) (a : _) (r₁ r₂ : _) (e₁ e₂ : _) → latest-notification-in.Post κs a r₁ e₁ → latest-notification-in.Post κs a r₂ e₂ → r₁ ≡ r₂
latest-notification-in-one κs a r₁ r₂ e₁ e₂ p q = one-result notice_values notice_of notice-of p q

pub config-read-one : (κs : _) (a : _) (r₁ r₂ : _) (e₁ e₂ : _) → config-read.Post κs a r₁ e₁ → config-read.Post κs a r₂ e₂ → r₁ ≡ r₂
config-read-one κs a r₁ r₂ e₁ e₂ p q = same p q

pub config-write-one : (κs : _) (a : _) (r₁ r₂ : _) (e₁ e₂ : _) → config-write.Post κs a r₁ e₁ → config-write.Post κs a r₂ e₂ → (r₁ ≡ r₂) × (e₁.1.1.0.now ≡ e₂.1.1.0.now)
config-write-one κs a r₁ r₂ e₁ e₂ p q = both p q
