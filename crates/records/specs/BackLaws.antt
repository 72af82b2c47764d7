-- The way back, from what a reader says to what it returned. Uniqueness rests on it (codes, ResultLaws).
-- Assumes nothing.
use Rattle.std.specs.Prelude.{◌≡◌, refl, Result}
use Rattle.codes.specs.Says.{Says}
use Rattle.codes.specs.ResultLaws.{un_result, result-back}
use Rattle.codes.specs.declared.answers.Refusal.{Refusal}
use Rattle.records.specs.Records.{says_query, query_values, query_of, says_remap, remap_values, remap_of, says_pcm_command, pcm_command_values, pcm_command_of, says_set_parameters, set_parameters_values, set_parameters_of, says_jack_info, jack_info_values, jack_info_of, says_pcm_info, pcm_info_values, pcm_info_of, says_channel_map, channel_map_values, channel_map_of, says_transfer, transfer_values, transfer_of, says_transfer_status, transfer_status_values, transfer_status_of, says_event, event_values, event_of}
use Rattle.records.specs.declared.control.Query.{Query}
use Rattle.records.specs.declared.control.Remap.{Remap}
use Rattle.records.specs.declared.control.PcmCommand.{PcmCommand}
use Rattle.records.specs.declared.control.SetParameters.{SetParameters}
use Rattle.records.specs.declared.info.JackInfo.{JackInfo}
use Rattle.records.specs.declared.info.PcmInfo.{PcmInfo}
use Rattle.records.specs.declared.info.ChannelMap.{ChannelMap}
use Rattle.records.specs.declared.transfer.Transfer.{Transfer}
use Rattle.records.specs.declared.transfer.TransferStatus.{TransferStatus}
use Rattle.records.specs.declared.event.Event.{Event}

abbrev pub query_answer : Says → Result Query Refusal
query_answer = un_result query_of

pub query-answer : (a : Result Query Refusal) → query_answer (says_query a) ≡ a
query-answer a = result-back query_values query_of (λ r. refl) a

abbrev pub remap_answer : Says → Result Remap Refusal
remap_answer = un_result remap_of

pub remap-answer : (a : Result Remap Refusal) → remap_answer (says_remap a) ≡ a
remap-answer a = result-back remap_values remap_of (λ r. refl) a

abbrev pub pcm_command_answer : Says → Result PcmCommand Refusal
pcm_command_answer = un_result pcm_command_of

pub pcm-command-answer : (a : Result PcmCommand Refusal) → pcm_command_answer (says_pcm_command a) ≡ a
pcm-command-answer a = result-back pcm_command_values pcm_command_of (λ r. refl) a

abbrev pub set_parameters_answer : Says → Result SetParameters Refusal
set_parameters_answer = un_result set_parameters_of

pub set-parameters-answer : (a : Result SetParameters Refusal) → set_parameters_answer (says_set_parameters a) ≡ a
set-parameters-answer a = result-back set_parameters_values set_parameters_of (λ r. refl) a

abbrev pub jack_info_answer : Says → Result JackInfo Refusal
jack_info_answer = un_result jack_info_of

pub jack-info-answer : (a : Result JackInfo Refusal) → jack_info_answer (says_jack_info a) ≡ a
jack-info-answer a = result-back jack_info_values jack_info_of (λ r. refl) a

abbrev pub pcm_info_answer : Says → Result PcmInfo Refusal
pcm_info_answer = un_result pcm_info_of

pub pcm-info-answer : (a : Result PcmInfo Refusal) → pcm_info_answer (says_pcm_info a) ≡ a
pcm-info-answer a = result-back pcm_info_values pcm_info_of (λ r. refl) a

abbrev pub channel_map_answer : Says → Result ChannelMap Refusal
channel_map_answer = un_result channel_map_of

pub channel-map-answer : (a : Result ChannelMap Refusal) → channel_map_answer (says_channel_map a) ≡ a
channel-map-answer a = result-back channel_map_values channel_map_of (λ r. refl) a

abbrev pub transfer_answer : Says → Result Transfer Refusal
transfer_answer = un_result transfer_of

pub transfer-answer : (a : Result Transfer Refusal) → transfer_answer (says_transfer a) ≡ a
transfer-answer a = result-back transfer_values transfer_of (λ r. refl) a

abbrev pub transfer_status_answer : Says → Result TransferStatus Refusal
transfer_status_answer = un_result transfer_status_of

pub transfer-status-answer : (a : Result TransferStatus Refusal) → transfer_status_answer (says_transfer_status a) ≡ a
transfer-status-answer a = result-back transfer_status_values transfer_status_of (λ r. refl) a

abbrev pub event_answer : Says → Result Event Refusal
event_answer = un_result event_of

pub event-answer : (a : Result Event Refusal) → event_answer (says_event a) ≡ a
event-answer a = result-back event_values event_of (λ r. refl) a
