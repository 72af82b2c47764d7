-- The store of a device: written again it is as it was; one row changed is one row written; and what was written is read.
-- Assumes nothing.
use Rattle.std.specs.Prelude.{◌≡◌, ℕ, ◌+◌, ◌-◌, ◌*◌, ◌<◌, List, [], ◌++◌, length, slice_set}
use Rattle.std.proofs.Math.Path.{refl}
use Rattle.std.proofs.Common.{sym, ap, ◌∙◌, append_assoc, append-nil, length-append}
use Rattle.std.proofs.lemmas.List.Edits.{sets}
use Rattle.layout.specs.Bytes.{le, bytes_at, Bytes}
use Rattle.layout.specs.Layout.{size, write}
use Rattle.layout.specs.Rows.{rows_bytes}
use Rattle.layout.specs.BytesLaws.{length-le, le-num_at, bytes_at-add}
use Rattle.layout.specs.StoreLaws.{sets_same}
use Rattle.layout.specs.LayoutLaws.{length-write, write_read}
use Rattle.layout.specs.RowsLaws.{length-rows, rows_same}
use Rattle.records.specs.Records.{jack_info, jack_info_values, pcm_info, pcm_info_values, channel_map, channel_map_values, set_parameters, set_parameters_values, jack_bytes, pcm_bytes, map_bytes}
use Rattle.tables.specs.Tables.{jack_at, pcm_at, map_at}
use Rattle.model.specs.Device.{most_jacks, most_streams, most_maps, nothing}
use Rattle.model.specs.Control.{kept_by}
use Rattle.model_store.specs.Types.{JackInfo, PcmInfo, ChannelMap, Held, Device}
use Rattle.model_store.specs.Store.{jacks_place, pcms_place, maps_place, params_place, played_place, device_size, counts_row, counts_values, counts_bytes, held_size, word_size, held_bytes, held_at, word_at, device_of, device_bytes}
use Rattle.model_store.specs.TableLaws.{table-after, row-over}

-- ---- a record of each table has its size, and what was read, written again, is the bytes that stand there

pub jack-sized : (x : JackInfo) → length (jack_bytes x) ≡ size jack_info
jack-sized x = length-write jack_info (jack_info_values x)

pub pcm-sized : (x : PcmInfo) → length (pcm_bytes x) ≡ size pcm_info
pcm-sized x = length-write pcm_info (pcm_info_values x)

pub map-sized : (x : ChannelMap) → length (map_bytes x) ≡ size channel_map
map-sized x = length-write channel_map (channel_map_values x)

pub held-sized : (x : Held) → length (held_bytes x) ≡ held_size
held-sized x =
    length-append (write set_parameters (set_parameters_values x.set)) (le 1 x.known)
    ∙ (λ i. length-write set_parameters (set_parameters_values x.set) i + length-le 1 x.known i)

pub jack-same : (o : ℕ) (s : List ℕ) → Bytes s → jack_bytes (jack_at o s) ≡ bytes_at o (size jack_info) s
unfolding jack_at
jack-same o s b = write_read o jack_info s b

pub pcm-same : (o : ℕ) (s : List ℕ) → Bytes s → pcm_bytes (pcm_at o s) ≡ bytes_at o (size pcm_info) s
unfolding pcm_at
pcm-same o s b = write_read o pcm_info s b

pub map_same : (o : ℕ) (s : List ℕ) → Bytes s → map_bytes (map_at o s) ≡ bytes_at o (size channel_map) s
unfolding map_at
map_same o s b = write_read o channel_map s b

pub held_same : (o : ℕ) (s : List ℕ) → Bytes s → held_bytes (held_at o s) ≡ bytes_at o held_size s
unfolding held_at
held_same o s b = (λ i. write_read o set_parameters s b i ++ le-num_at (o + size set_parameters) 1 s b i) ∙ sym (bytes_at-add o (size set_parameters) 1 s)

pub word_same : (o : ℕ) (s : List ℕ) → Bytes s → le word_size (word_at o s) ≡ bytes_at o word_size s
unfolding word_at
word_same o s b = le-num_at o word_size s b

-- ---- THE STORE WRITTEN AGAIN: every byte stands for something, so none changes

bytes-joined : (s : List ℕ) → bytes_at 0 device_size s
    ≡ bytes_at 0 jacks_place s
    ++ (bytes_at jacks_place (pcms_place - jacks_place) s
    ++ (bytes_at pcms_place (maps_place - pcms_place) s ++ (bytes_at maps_place (params_place - maps_place) s ++ (bytes_at params_place (played_place - params_place) s ++ bytes_at played_place (device_size - played_place) s))))
bytes-joined s =
    bytes_at-add 0 jacks_place (device_size - jacks_place) s
    ∙ ap (λ (l : List ℕ). bytes_at 0 jacks_place s ++ l)
    (bytes_at-add jacks_place (pcms_place - jacks_place) (device_size - pcms_place) s
    ∙ ap (λ (l : List ℕ). bytes_at jacks_place (pcms_place - jacks_place) s ++ l)
    (bytes_at-add pcms_place (maps_place - pcms_place) (device_size - maps_place) s
    ∙ ap (λ (l : List ℕ). bytes_at pcms_place (maps_place - pcms_place) s ++ l)
    (bytes_at-add maps_place (params_place - maps_place) (device_size - params_place) s
    ∙ ap (λ (l : List ℕ). bytes_at maps_place (params_place - maps_place) s ++ l) (bytes_at-add params_place (played_place - params_place) (device_size - played_place) s))))

pub store_bytes : (s : List ℕ) → Bytes s → device_bytes (device_of s) ≡ bytes_at 0 device_size s
unfolding device_of device_bytes
store_bytes s b =
    (λ i.
    write_read 0 counts_row s b i
    ++ (rows_same jack_at jack_bytes (size jack_info) jack-same jacks_place most_jacks s b i
    ++ (rows_same pcm_at pcm_bytes (size pcm_info) pcm-same pcms_place most_streams s b i
    ++ (rows_same map_at map_bytes (size channel_map) map_same maps_place most_maps s b i ++ (rows_same held_at held_bytes held_size held_same params_place most_streams s b i ++ rows_same word_at (le word_size) word_size word_same played_place most_streams s b i)))))
    ∙ sym (bytes-joined s)

pub store_same : (s : List ℕ) → Bytes s → sets s 0 (device_bytes (device_of s)) ≡ s
store_same s b = ap (sets s 0) (store_bytes s b) ∙ sets_same s 0 device_size

-- ---- one row changed

-- each table has its length
pub record Sized (d : Device) : Type 0 where
  pub jacks : length d.jacks ≡ most_jacks
  pub pcms : length d.pcms ≡ most_streams
  pub maps : length d.maps ≡ most_maps
  pub params : length d.params ≡ most_streams
  pub played : length d.played ≡ most_streams

pub sized_of : (s : List ℕ) → Sized (device_of s)
unfolding device_of
sized_of s =
    record {
      jacks = length-rows jack_at (size jack_info) jacks_place most_jacks s;
      pcms = length-rows pcm_at (size pcm_info) pcms_place most_streams s;
      maps = length-rows map_at (size channel_map) maps_place most_maps s;
      params = length-rows held_at held_size params_place most_streams s;
      played = length-rows word_at word_size played_place most_streams s;
    }

-- all that stands before each table but the first
abbrev pub to_pcms : Device → List ℕ
to_pcms d = counts_bytes d.counts ++ rows_bytes jack_bytes d.jacks

abbrev pub to_maps : Device → List ℕ
to_maps d = to_pcms d ++ rows_bytes pcm_bytes d.pcms

abbrev pub to_params : Device → List ℕ
to_params d = to_maps d ++ rows_bytes map_bytes d.maps

abbrev pub to_played : Device → List ℕ
to_played d = to_params d ++ rows_bytes held_bytes d.params

-- all that stands from each table on but the first
abbrev pub from_played : Device → List ℕ
from_played d = rows_bytes (le word_size) d.played

abbrev pub from_params : Device → List ℕ
from_params d = rows_bytes held_bytes d.params ++ from_played d

abbrev pub from_maps : Device → List ℕ
from_maps d = rows_bytes map_bytes d.maps ++ from_params d

abbrev pub from_pcms : Device → List ℕ
from_pcms d = rows_bytes pcm_bytes d.pcms ++ from_maps d

-- the bytes of a device, apart at each table
module _ (d : Device) where
  pub at-jacks : device_bytes d ≡ counts_bytes d.counts ++ (rows_bytes jack_bytes d.jacks ++ from_pcms d)
  unfolding device_bytes
  at-jacks = refl

  pub at-pcms : device_bytes d ≡ to_pcms d ++ (rows_bytes pcm_bytes d.pcms ++ from_maps d)
  at-pcms = at-jacks ∙ simp append_assoc

  pub at-maps : device_bytes d ≡ to_maps d ++ (rows_bytes map_bytes d.maps ++ from_params d)
  at-maps = at-pcms ∙ simp append_assoc

  pub at-params : device_bytes d ≡ to_params d ++ (rows_bytes held_bytes d.params ++ from_played d)
  at-params = at-maps ∙ simp append_assoc

  pub at-played : device_bytes d ≡ to_played d ++ (rows_bytes (le word_size) d.played ++ [])
  at-played = at-params ∙ simp (append_assoc, append-nil)

  pub length-counts : length (counts_bytes d.counts) ≡ jacks_place
  length-counts = length-write counts_row (counts_values d.counts)

  module _ (z : Sized d) where
    pub length-to_pcms : length (to_pcms d) ≡ pcms_place
    length-to_pcms = table-after jack_bytes (size jack_info) jack-sized (counts_bytes d.counts) jacks_place most_jacks d.jacks length-counts z.jacks

    pub length-to_maps : length (to_maps d) ≡ maps_place
    length-to_maps = table-after pcm_bytes (size pcm_info) pcm-sized (to_pcms d) pcms_place most_streams d.pcms length-to_pcms z.pcms

    pub length-to_params : length (to_params d) ≡ params_place
    length-to_params = table-after map_bytes (size channel_map) map-sized (to_maps d) maps_place most_maps d.maps length-to_maps z.maps

    pub length-to_played : length (to_played d) ≡ played_place
    length-to_played = table-after held_bytes held_size held-sized (to_params d) params_place most_streams d.params length-to_params z.params

    pub length-device_bytes : length (device_bytes d) ≡ device_size
    length-device_bytes =
        ap length (at-played ∙ ap (λ (l : List ℕ). to_played d ++ l) (append-nil (rows_bytes (le word_size) d.played)))
        ∙ table-after (le word_size) word_size (length-le word_size) (to_played d) played_place most_streams d.played length-to_played z.played

-- a device with another count of bytes played
abbrev pub counted_by : Device → ℕ → ℕ → Device
counted_by d i v = record { counts = d.counts; jacks = d.jacks; pcms = d.pcms; maps = d.maps; params = d.params; played = slice_set d.played i v }

-- the parameters of stream i, over an encoded device
pub params-over : (s : List ℕ) (d : Device) (i : ℕ) (h : Held) → Sized d → i < most_streams → sets (sets s 0 (device_bytes d)) (params_place + i * held_size) (held_bytes h) ≡ sets s 0 (device_bytes (kept_by d i h))
params-over s d i h z k =
    ap (λ (r : List ℕ). sets (sets s 0 r) (params_place + i * held_size) (held_bytes h)) (at-params d)
    ∙ row-over held_bytes held_size held-sized s (to_params d) (from_played d) d.params i nothing h params_place (length-to_params d z) (rw z.params k)
    ∙ ap (sets s 0) (sym (at-params (kept_by d i h)))

-- the count of bytes that stream i played, over an encoded device
pub played-over : (s : List ℕ) (d : Device) (i v : ℕ) → Sized d → i < most_streams → sets (sets s 0 (device_bytes d)) (played_place + i * word_size) (le 8 v) ≡ sets s 0 (device_bytes (counted_by d i v))
played-over s d i v z k =
    ap (λ (r : List ℕ). sets (sets s 0 r) (played_place + i * word_size) (le 8 v)) (at-played d)
    ∙ row-over (le word_size) word_size (length-le word_size) s (to_played d) [] d.played i 0 v played_place (length-to_played d z) (rw z.played k)
    ∙ ap (sets s 0) (sym (at-played (counted_by d i v)))

-- the same on a store: what a call that changes one row leaves
module _ (s : List ℕ) (b : Bytes s) (i : ℕ) (k : i < most_streams) where
  pub params_alone : (h : Held) → sets s (params_place + i * held_size) (held_bytes h) ≡ sets s 0 (device_bytes (kept_by (device_of s) i h))
  params_alone h = ap (λ (t : List ℕ). sets t (params_place + i * held_size) (held_bytes h)) (sym (store_same s b)) ∙ params-over s (device_of s) i h (sized_of s) k

  pub played-alone : (v : ℕ) → sets s (played_place + i * word_size) (le 8 v) ≡ sets s 0 (device_bytes (counted_by (device_of s) i v))
  played-alone v = ap (λ (t : List ℕ). sets t (played_place + i * word_size) (le 8 v)) (sym (store_same s b)) ∙ played-over s (device_of s) i v (sized_of s) k
