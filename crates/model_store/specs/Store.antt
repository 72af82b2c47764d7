-- The model device as bytes in its owner's storage: counts, jacks, streams, maps, the parameters held, the bytes played; 16,427 in all.
-- Assumes nothing.
use Rattle.std.specs.Prelude.{ℕ, ◌+◌, List, [], ◌∷◌, ◌++◌}
use Rattle.layout.specs.Bytes.{le, num_at}
use Rattle.layout.specs.Layout.{size, write, read_at}
use Rattle.layout.specs.Rows.{rows_at, rows_bytes}
use Rattle.records.specs.Records.{jack_info, pcm_info, channel_map, set_parameters, set_parameters_values, set_parameters_of, jack_bytes, pcm_bytes, map_bytes}
use Rattle.tables.specs.Tables.{jack_at, pcm_at, map_at}
use Rattle.model_store.specs.Types.{Counts, Held, Device}
use Rattle.model.specs.Device.{most_jacks, most_streams, most_maps}

-- where each table stands, after the counts, and where the last one ends
abbrev pub jacks_place : ℕ
jacks_place = 12

abbrev pub pcms_place : ℕ
pcms_place = 4092

abbrev pub maps_place : ℕ
maps_place = 8156

abbrev pub params_place : ℕ
params_place = 12236

abbrev pub played_place : ℕ
played_place = 15411

abbrev pub device_size : ℕ
device_size = 16427

-- jacks 4, streams 4, maps 4
abbrev pub counts_row : List ℕ
counts_row = 4 ∷ 4 ∷ 4 ∷ []

abbrev pub counts_values : Counts → List ℕ
counts_values n = n.jacks ∷ n.streams ∷ n.maps ∷ []

abbrev pub counts_bytes : Counts → List ℕ
counts_bytes n = write counts_row (counts_values n)

abbrev pub counts_at : List ℕ → Counts
counts_at s = record { jacks = num_at 0 4 s; streams = num_at 4 4 s; maps = num_at 8 4 s }

-- the 24 bytes as received, known 1
abbrev pub held_size : ℕ
held_size = 25

abbrev pub held_bytes : Held → List ℕ
held_bytes h = write set_parameters (set_parameters_values h.set) ++ le 1 h.known

unfoldable pub held_at : ℕ → List ℕ → Held
held_at o s = record { known = num_at (o + size set_parameters) 1 s; set = set_parameters_of (read_at o set_parameters s) }

-- a count of bytes
abbrev pub word_size : ℕ
word_size = 8

unfoldable pub word_at : ℕ → List ℕ → ℕ
word_at o s = num_at o word_size s

-- THE DEVICE that a store holds, and the bytes of a device
unfoldable pub device_of : List ℕ → Device
device_of s =
    record {
      counts = counts_at s;
      jacks = rows_at jack_at (size jack_info) jacks_place most_jacks s;
      pcms = rows_at pcm_at (size pcm_info) pcms_place most_streams s;
      maps = rows_at map_at (size channel_map) maps_place most_maps s;
      params = rows_at held_at held_size params_place most_streams s;
      played = rows_at word_at word_size played_place most_streams s;
    }

unfoldable pub device_bytes : Device → List ℕ
device_bytes d =
    counts_bytes d.counts
    ++ (rows_bytes jack_bytes d.jacks
    ++ (rows_bytes pcm_bytes d.pcms ++ (rows_bytes map_bytes d.maps ++ (rows_bytes held_bytes d.params ++ rows_bytes (le word_size) d.played))))
