-- The calls on a model device that stands in a lent byte store: the call by value on the device that the store holds, and the device that it leaves,
-- written over it. A store under 16,427 bytes, or a result slice under 512, gets 10 and nothing is looked at.
-- Assumes nothing.
use Rattle.std.specs.Prelude.{ℕ, ◌-◌, ◌/◌, ◌%◌, Bool, ◌&&◌, List, [], ◌∷◌, ◌++◌, length, replicate, ◌==◌, nat_le, slice_index, slice_index_or}
use Rattle.std.proofs.lemmas.List.Edits.{sets}
use Rattle.layout.specs.Bytes.{le}
use Rattle.layout.specs.Layout.{size, write}
use Rattle.layout.specs.Rows.{rows_at, rows_bytes}
use Rattle.layout.specs.Lent.{Made, made, Shown, shown, result_size}
use Rattle.codes.specs.Says.{pick, guard}
use Rattle.records.specs.Records.{transfer, set_parameters, set_parameters_values, jack_info, pcm_info, channel_map, jack_info_of, pcm_info_of, channel_map_of}
use Rattle.tables.specs.Tables.{jack_at, pcm_at, map_at}
use Rattle.model_store.specs.Types.{Counts, Held, Device}
use Rattle.model.specs.Device.{most_jacks, most_streams, most_maps, nothing, new_device, within_of, stream_ok}
use Rattle.model.specs.Control.{control_of}
use Rattle.model.specs.Transfer.{plays, transfer_call}
use Rattle.model_store.specs.Store.{device_size, device_of, device_bytes}

-- what a control request comes to: its answer by its number, and what the store, the page and the result hold then
pub record Told : Type 0 where
  pub answer : ℕ
  pub store : List ℕ
  pub page : List ℕ
  pub result : List ℕ

abbrev pub told : ℕ → List ℕ → List ℕ → List ℕ → Told
told a s page r = record { answer = a; store = s; page = page; result = r }

-- and a transfer: the store and the answer slice
pub record Transferred : Type 0 where
  pub answer : ℕ
  pub store : List ℕ
  pub status : List ℕ

abbrev pub transferred : ℕ → List ℕ → List ℕ → Transferred
transferred a s status = record { answer = a; store = s; status = status }

-- ---- a new device, from three tables as they stand in an answer: 10 where one is no whole number of records, 1 where it has more than a page holds

abbrev pub counts_in : List ℕ → List ℕ → List ℕ → Counts
counts_in jacks pcms maps = record { jacks = length jacks / size jack_info; streams = length pcms / size pcm_info; maps = length maps / size channel_map }

abbrev pub rows_then : {A : Type 0} → (ℕ → List ℕ → A) → ℕ → ℕ → A → List ℕ → List A
rows_then f row most none bytes = rows_at f row 0 (length bytes / row) bytes ++ replicate (most - length bytes / row) none

abbrev pub device_in : List ℕ → List ℕ → List ℕ → Device
device_in jacks pcms maps =
    new_device (counts_in jacks pcms maps) (rows_then jack_at (size jack_info) most_jacks (jack_info_of []) jacks) (rows_then pcm_at (size pcm_info) most_streams (pcm_info_of []) pcms)
    (rows_then map_at (size channel_map) most_maps (channel_map_of []) maps)

abbrev pub whole_in : List ℕ → List ℕ → List ℕ → List ℕ → Bool
whole_in s jacks pcms maps = nat_le device_size (length s) && (length jacks % size jack_info == 0 && (length pcms % size pcm_info == 0 && length maps % size channel_map == 0))

unfoldable pub new_in : List ℕ → List ℕ → List ℕ → List ℕ → Made
new_in s jacks pcms maps =
    guard (whole_in s jacks pcms maps) (made 10 s)
    (guard (within_of (counts_in jacks pcms maps)) (made 1 s)
    (made 0 (sets s 0 (device_bytes (device_in jacks pcms maps)))))

-- ---- one control request, one answer in the page; the answer's length stands in the result, 8 bytes

-- both slices are long enough
abbrev pub roomy_in : List ℕ → List ℕ → Bool
roomy_in s r = nat_le device_size (length s) && nat_le result_size (length r)

unfoldable pub control_in : List ℕ → List ℕ → List ℕ → List ℕ → Told
control_in s request page r =
    let x = control_of (device_of s) request page in
    guard (roomy_in s r) (told 10 s page r)
    (told x.said.number (sets s 0 (device_bytes x.answered.device)) x.lent (sets r 0 (rows_bytes (le 8) x.said.values)))

-- ---- one transfer, one status in the answer slice

unfoldable pub transfer_in : List ℕ → List ℕ → List ℕ → Transferred
transfer_in s request answer =
    let x = transfer_call (device_of s) request answer in
    guard (nat_le device_size (length s)) (transferred 10 s answer)
    (transferred x.said.number (sets s 0 (device_bytes x.answered.device)) x.lent)

-- ---- looks: 1 for a device with larger counts, and for a stream too high

abbrev pub look_in : List ℕ → List ℕ → Bool → List ℕ → Shown
look_in s r ok bytes =
    guard (roomy_in s r) (shown 10 r)
    (guard ok (shown 1 r)
    (shown 0 (sets r 0 bytes)))

-- the payload as a part of the request: its offset 8, its length 8; of a request that plays nothing, 0 twice
abbrev pub part_bytes : ℕ → ℕ → List ℕ
part_bytes offset n = write (8 ∷ 8 ∷ []) (offset ∷ n ∷ [])

abbrev pub payload_bytes : Counts → List ℕ → List ℕ
payload_bytes n request = pick (plays n request) (part_bytes (size transfer) (length request - size transfer)) (part_bytes 0 0)

unfoldable pub payload_in : List ℕ → List ℕ → List ℕ → Shown
payload_in s request r = let n = (device_of s).counts in look_in s r (within_of n) (payload_bytes n request)

-- 1 in 8 bytes, then the 24 bytes; or 0 in 8 bytes
abbrev pub params_bytes : Held → List ℕ
params_bytes h = pick (h.known == 0) (le 8 0) (le 8 1 ++ write set_parameters (set_parameters_values h.set))

unfoldable pub params_in : List ℕ → ℕ → List ℕ → Shown
params_in s stream r = let d = device_of s in look_in s r (stream_ok d.counts stream) (params_bytes (slice_index_or d.params stream nothing))

unfoldable pub played_in : List ℕ → ℕ → List ℕ → Shown
played_in s stream r = let d = device_of s in look_in s r (stream_ok d.counts stream) (le 8 (slice_index d.played stream))
