-- One transfer, one status: the stream's count grows by the payload's length, modulo 2^64. Under 4 bytes or a stream too high: 0x8001 and nothing changes.
-- Assumes nothing.
use Rattle.std.specs.Prelude.{ℕ, Ok, ◌+◌, ◌-◌, ◌%◌, ◌^◌, Bool, ◌&&◌, List, [], ◌++◌, length, drop, nat_le, nat_lt, slice_index, slice_set}
use Rattle.layout.specs.Layout.{size, read, write}
use Rattle.codes.specs.Says.{pick, guard}
use Rattle.codes.specs.declared.answers.Refusal.TheVariants.{InvalidParam, BadLength}
use Rattle.records.specs.Records.{transfer, transfer_status, transfer_status_values, transfer_of}
use Rattle.model.specs.Device.{within_of}
use Rattle.model.specs.Control.{Given, given, refusing}
use Rattle.model.specs.Types.{Counts, Device}

abbrev pub stream_of : List ℕ → ℕ
stream_of request = (transfer_of (read transfer request)).stream

-- "a transfer under 4 bytes or stream too high" is none
abbrev pub plays : Counts → List ℕ → Bool
plays n request = nat_le (size transfer) (length request) && nat_lt (stream_of request) n.streams

-- the payload: what follows the stream id, as a part of the request itself
abbrev pub payload_of : Device → List ℕ → List ℕ
payload_of d request = pick (plays d.counts request) (drop (size transfer) request) []

abbrev pub played_by : Device → ℕ → ℕ → Device
played_by d stream n =
    record {
      counts = d.counts;
      jacks = d.jacks;
      pcms = d.pcms;
      maps = d.maps;
      params = d.params;
      played = slice_set d.played stream ((slice_index d.played stream + n) % 2 ^ 64);
    }

abbrev pub status_by : Device → List ℕ → ℕ
status_by d request = pick (plays d.counts request) 0x8000 0x8001

abbrev pub device_after : Device → List ℕ → Device
device_after d request = pick (plays d.counts request) (played_by d (stream_of request) (length request - size transfer)) d

-- a status with no latency, at the front of the answer slice
abbrev pub status_in : ℕ → List ℕ → List ℕ
status_in status answer = write transfer_status (transfer_status_values (record { status = status; latency = 0 })) ++ drop (size transfer_status) answer

abbrev pub status_given : Device → ℕ → List ℕ → Given
status_given d status answer = given (record { device = d; said = Ok (size transfer_status) }) (status_in status answer)

-- the call: an answer slice of 8 bytes or more, else 10; a device with larger tables gets 1
unfoldable pub transfer_call : Device → List ℕ → List ℕ → Given
transfer_call d request answer =
    guard (nat_le (size transfer_status) (length answer)) (refusing d BadLength answer)
    (guard (within_of d.counts) (refusing d InvalidParam answer)
    (status_given (device_after d request) (status_by d request) answer))
