-- "Writing a record and reading it gives it back, padding included, and reading then writing gives the bytes": of each record, from one law.
-- Assumes nothing.
use Rattle.std.specs.Prelude.{◌≡◌, refl, List, ℕ, ◌≤◌, length, Ok}
use Rattle.std.proofs.Common.{sym, ap, ◌∙◌}
use Rattle.layout.specs.Bytes.{Bytes}
use Rattle.layout.specs.Layout.{size, Fit}
use Rattle.codes.specs.Says.{Says, says}
use Rattle.codes.specs.SaysLaws.{one}
use Rattle.codes.specs.Answers.{says_result}
use Rattle.codes.specs.ResultLaws.{un_result, result-back}
use Rattle.records.specs.Records.{query, query_values, says_query, remap, remap_values, says_remap, pcm_command, pcm_command_values, says_pcm_command, set_parameters, set_parameters_values, says_set_parameters, jack_info, jack_info_values, says_jack_info, pcm_info, pcm_info_values, says_pcm_info, channel_map, channel_map_values, says_channel_map, transfer, transfer_values, says_transfer, transfer_status, transfer_status_values, says_transfer_status, event, event_values, says_event, query_of, remap_of, pcm_command_of, set_parameters_of, jack_info_of, pcm_info_of, channel_map_of, transfer_of, transfer_status_of, event_of}
use Rattle.records.specs.Slice.{read_says, written}
use Rattle.records.specs.SliceLaws.{read_is, write-then-read, read-then-write}

-- Of a record type R and its reader's answer A. The premise `Fit` holds of every value of a Rattle struct: each field is a machine number of its width.
pub record RoundTrip {R A : Type 0} (ws : List ℕ) (values : R → List ℕ) (is : R → A) (says_a : A → Says) : Type 0 where
  -- a reader of what was written gives the record back
  pub back : (r : R) (l : List ℕ) (a : A) → size ws ≤ length l → Fit ws (values r) → says_a a ≡ read_says ws (written ws (values r) l) → a ≡ is r
  -- the record that was read, written again, leaves the bytes as they were
  pub same : (r : R) (s : List ℕ) → Bytes s → says_a (is r) ≡ read_says ws s → written ws (values r) s ≡ s

pub round_trip : {R A : Type 0} (ws : List ℕ) (values : R → List ℕ) (is : R → A) (says_a : A → Says) (answer : Says → A)
    → ((r : R) → says_a (is r) ≡ says 0 (values r)) → ((a : A) → answer (says_a a) ≡ a) → RoundTrip ws values is says_a
round_trip ws values is says_a answer is_says leads =
    record {
      back = λ r l a h f e. one says_a answer leads (e ∙ write-then-read ws (values r) l h f) (is_says r);
      same = λ r s b e.
          let k = read_is ws s (values r) (sym (is_says r) ∙ e) in
          ap (λ (vs : List ℕ). written ws vs s) k.1 ∙ read-then-write ws s k.0 b;
    }

-- of a reader that may be refused
pub result-round : {R : Type 0} (ws : List ℕ) (values : R → List ℕ) (of : List ℕ → R) → ((r : R) → of (values r) ≡ r) → RoundTrip ws values Ok (says_result values)
result-round ws values of leads = round_trip ws values Ok (says_result values) (un_result of) (λ r. refl) (result-back values of leads)

-- ---- the ten records

pub query-round : RoundTrip query query_values Ok says_query
query-round = result-round query query_values query_of (λ r. refl)

pub remap-round : RoundTrip remap remap_values Ok says_remap
remap-round = result-round remap remap_values remap_of (λ r. refl)

pub pcm-command-round : RoundTrip pcm_command pcm_command_values Ok says_pcm_command
pcm-command-round = result-round pcm_command pcm_command_values pcm_command_of (λ r. refl)

pub set-parameters-round : RoundTrip set_parameters set_parameters_values Ok says_set_parameters
set-parameters-round = result-round set_parameters set_parameters_values set_parameters_of (λ r. refl)

pub jack-info-round : RoundTrip jack_info jack_info_values Ok says_jack_info
jack-info-round = result-round jack_info jack_info_values jack_info_of (λ r. refl)

pub pcm-info-round : RoundTrip pcm_info pcm_info_values Ok says_pcm_info
pcm-info-round = result-round pcm_info pcm_info_values pcm_info_of (λ r. refl)

pub channel-map-round : RoundTrip channel_map channel_map_values Ok says_channel_map
channel-map-round = result-round channel_map channel_map_values channel_map_of (λ r. refl)

pub transfer-round : RoundTrip transfer transfer_values Ok says_transfer
transfer-round = result-round transfer transfer_values transfer_of (λ r. refl)

pub transfer-status-round : RoundTrip transfer_status transfer_status_values Ok says_transfer_status
transfer-status-round = result-round transfer_status transfer_status_values transfer_status_of (λ r. refl)

pub event-round : RoundTrip event event_values Ok says_event
event-round = result-round event event_values event_of (λ r. refl)
