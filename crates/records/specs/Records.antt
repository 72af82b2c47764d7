-- The records: "Bytes", document 01. Of each: its row, its layout as a list of widths, its values in the row's order, and what its reader says.
-- Assumes nothing.
use Rattle.std.specs.Prelude.{List, [], ◌∷◌, ℕ, get_or, Result}
use Rattle.codes.specs.Says.{Says}
use Rattle.codes.specs.Answers.{says_result}
use Rattle.codes.specs.declared.answers.Refusal.{Refusal}
use Rattle.records.specs.declared.control.Query.{Query}
use Rattle.records.specs.declared.control.Remap.{Remap}
use Rattle.records.specs.declared.control.PcmCommand.{PcmCommand}
use Rattle.records.specs.declared.control.SetParameters.{SetParameters}
use Rattle.records.specs.declared.info.JackInfo.{JackInfo}
use Rattle.records.specs.declared.info.PcmInfo.{PcmInfo}
use Rattle.records.specs.declared.info.ChannelMap.{ChannelMap}
use Rattle.records.specs.declared.transfer.Transfer.{Transfer}
use Rattle.records.specs.declared.transfer.TransferStatus.{TransferStatus}
use Rattle.records.specs.declared.event.Event.{Event}
use Rattle.layout.specs.Layout.{write}

-- "query | 16 | code 4, start 4, count 4, record size 4"
abbrev pub query : List ℕ
query = 4 ∷ 4 ∷ 4 ∷ 4 ∷ []

abbrev pub query_values : Query → List ℕ
query_values r = r.code ∷ r.start ∷ r.count ∷ r.size ∷ []

abbrev pub says_query : Result Query Refusal → Says
says_query = says_result query_values

-- "remap | 16 | code 4, jack 4, association 4, sequence 4"
abbrev pub remap : List ℕ
remap = 4 ∷ 4 ∷ 4 ∷ 4 ∷ []

abbrev pub remap_values : Remap → List ℕ
remap_values r = r.code ∷ r.jack ∷ r.association ∷ r.sequence ∷ []

abbrev pub says_remap : Result Remap Refusal → Says
says_remap = says_result remap_values

-- "PCM command | 8 | code 4, stream 4"
abbrev pub pcm_command : List ℕ
pcm_command = 4 ∷ 4 ∷ []

abbrev pub pcm_command_values : PcmCommand → List ℕ
pcm_command_values r = r.code ∷ r.stream ∷ []

abbrev pub says_pcm_command : Result PcmCommand Refusal → Says
says_pcm_command = says_result pcm_command_values

-- "set parameters | 24 | code 4, stream 4, buffer 4, period 4, features 4, channels 1, format 1, rate 1, zero 1"
abbrev pub set_parameters : List ℕ
set_parameters = 4 ∷ 4 ∷ 4 ∷ 4 ∷ 4 ∷ 1 ∷ 1 ∷ 1 ∷ 1 ∷ []

abbrev pub set_parameters_values : SetParameters → List ℕ
set_parameters_values r = r.code ∷ r.stream ∷ r.buffer ∷ r.period ∷ r.features ∷ r.channels ∷ r.format ∷ r.rate ∷ r.zero ∷ []

abbrev pub says_set_parameters : Result SetParameters Refusal → Says
says_set_parameters = says_result set_parameters_values

-- "jack info | 24 | node 4, features 4, defconf 4, caps 4, connected 1, padding 7"; the padding as 4 + 2 + 1 (RowLaws: it is one of 7)
abbrev pub jack_info : List ℕ
jack_info = 4 ∷ 4 ∷ 4 ∷ 4 ∷ 1 ∷ 4 ∷ 2 ∷ 1 ∷ []

abbrev pub jack_info_values : JackInfo → List ℕ
jack_info_values r = r.node ∷ r.features ∷ r.defconf ∷ r.caps ∷ r.connected ∷ r.padding ∷ r.padding4 ∷ r.padding6 ∷ []

abbrev pub says_jack_info : Result JackInfo Refusal → Says
says_jack_info = says_result jack_info_values

-- "PCM info | 32 | node 4, features 4, formats 8, rates 8, direction 1, min 1, max 1, padding 5"; the padding as 4 + 1 (RowLaws: it is one of 5)
abbrev pub pcm_info : List ℕ
pcm_info = 4 ∷ 4 ∷ 8 ∷ 8 ∷ 1 ∷ 1 ∷ 1 ∷ 4 ∷ 1 ∷ []

abbrev pub pcm_info_values : PcmInfo → List ℕ
pcm_info_values r = r.node ∷ r.features ∷ r.formats ∷ r.rates ∷ r.direction ∷ r.min ∷ r.max ∷ r.padding ∷ r.padding4 ∷ []

abbrev pub says_pcm_info : Result PcmInfo Refusal → Says
says_pcm_info = says_result pcm_info_values

-- "channel map | 24 | node 4, direction 1, channels 1, positions 18"; the positions as 8 + 8 + 2 (RowLaws: they are one field of 18)
abbrev pub channel_map : List ℕ
channel_map = 4 ∷ 1 ∷ 1 ∷ 8 ∷ 8 ∷ 2 ∷ []

abbrev pub channel_map_values : ChannelMap → List ℕ
channel_map_values r = r.node ∷ r.direction ∷ r.channels ∷ r.positions ∷ r.positions8 ∷ r.positions16 ∷ []

abbrev pub says_channel_map : Result ChannelMap Refusal → Says
says_channel_map = says_result channel_map_values

-- "transfer | 4 + payload | stream 4"
abbrev pub transfer : List ℕ
transfer = 4 ∷ []

abbrev pub transfer_values : Transfer → List ℕ
transfer_values r = r.stream ∷ []

abbrev pub says_transfer : Result Transfer Refusal → Says
says_transfer = says_result transfer_values

-- "transfer status | 8 | status 4, latency 4"
abbrev pub transfer_status : List ℕ
transfer_status = 4 ∷ 4 ∷ []

abbrev pub transfer_status_values : TransferStatus → List ℕ
transfer_status_values r = r.status ∷ r.latency ∷ []

abbrev pub says_transfer_status : Result TransferStatus Refusal → Says
says_transfer_status = says_result transfer_status_values

-- "event | 8 | code 4, data 4"
abbrev pub event : List ℕ
event = 4 ∷ 4 ∷ []

abbrev pub event_values : Event → List ℕ
event_values r = r.code ∷ r.data ∷ []

abbrev pub says_event : Result Event Refusal → Says
says_event = says_result event_values

-- ---- the way back: from the numbers of a row to the record

abbrev pub query_of : List ℕ → Query
query_of vs = record { code = get_or vs 0 0; start = get_or vs 1 0; count = get_or vs 2 0; size = get_or vs 3 0 }

abbrev pub remap_of : List ℕ → Remap
remap_of vs = record { code = get_or vs 0 0; jack = get_or vs 1 0; association = get_or vs 2 0; sequence = get_or vs 3 0 }

abbrev pub pcm_command_of : List ℕ → PcmCommand
pcm_command_of vs = record { code = get_or vs 0 0; stream = get_or vs 1 0 }

abbrev pub set_parameters_of : List ℕ → SetParameters
set_parameters_of vs = record { code = get_or vs 0 0; stream = get_or vs 1 0; buffer = get_or vs 2 0; period = get_or vs 3 0; features = get_or vs 4 0; channels = get_or vs 5 0; format = get_or vs 6 0; rate = get_or vs 7 0; zero = get_or vs 8 0 }

abbrev pub jack_info_of : List ℕ → JackInfo
jack_info_of vs = record { node = get_or vs 0 0; features = get_or vs 1 0; defconf = get_or vs 2 0; caps = get_or vs 3 0; connected = get_or vs 4 0; padding = get_or vs 5 0; padding4 = get_or vs 6 0; padding6 = get_or vs 7 0 }

abbrev pub pcm_info_of : List ℕ → PcmInfo
pcm_info_of vs = record { node = get_or vs 0 0; features = get_or vs 1 0; formats = get_or vs 2 0; rates = get_or vs 3 0; direction = get_or vs 4 0; min = get_or vs 5 0; max = get_or vs 6 0; padding = get_or vs 7 0; padding4 = get_or vs 8 0 }

abbrev pub channel_map_of : List ℕ → ChannelMap
channel_map_of vs = record { node = get_or vs 0 0; direction = get_or vs 1 0; channels = get_or vs 2 0; positions = get_or vs 3 0; positions8 = get_or vs 4 0; positions16 = get_or vs 5 0 }

abbrev pub transfer_of : List ℕ → Transfer
transfer_of vs = record { stream = get_or vs 0 0 }

abbrev pub transfer_status_of : List ℕ → TransferStatus
transfer_status_of vs = record { status = get_or vs 0 0; latency = get_or vs 1 0 }

abbrev pub event_of : List ℕ → Event
event_of vs = record { code = get_or vs 0 0; «data» = get_or vs 1 0 }

-- ---- the bytes of an information record

abbrev pub jack_bytes : JackInfo → List ℕ
jack_bytes r = write jack_info (jack_info_values r)

abbrev pub pcm_bytes : PcmInfo → List ℕ
pcm_bytes r = write pcm_info (pcm_info_values r)

abbrev pub map_bytes : ChannelMap → List ℕ
map_bytes r = write channel_map (channel_map_values r)
