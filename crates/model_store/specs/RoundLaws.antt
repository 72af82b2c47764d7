-- A device that is written in a store and read again is itself, if its numbers fit their fields and its tables have their lengths.
-- Assumes nothing.
use Rattle.std.specs.Prelude.{◌≡◌, ℕ, ◌+◌, ◌^◌, ◌<◌, ◌≤◌, List, [], ◌++◌, length, drop, slice_index}
use Rattle.std.proofs.Common.{sym, ap, ◌∙◌, append_assoc, append-nil, add-zero, arith}
use Rattle.std.proofs.lemmas.List.Edits.{sets, sets-eq}
use Rattle.layout.specs.Bytes.{le, un, bytes_at, num_at, Bytes}
use Rattle.layout.specs.Layout.{size, write, read_at, read, Fit}
use Rattle.layout.specs.Rows.{rows_at, rows_bytes}
use Rattle.layout.specs.BytesLaws.{length-le, un-le, num_at-below, bytes_at-all, bytes_at-append, bytes_at-own}
use Rattle.layout.specs.LayoutLaws.{length-write, read-write, read-own, read_fits}
use Rattle.records.specs.Records.{jack_info, jack_info_values, pcm_info, pcm_info_values, channel_map, channel_map_values, set_parameters, set_parameters_values, jack_info_of, pcm_info_of, channel_map_of, set_parameters_of, jack_bytes, pcm_bytes, map_bytes}
use Rattle.tables.specs.Tables.{jack_at, pcm_at, map_at}
use Rattle.tables.specs.TablesLaws.{jack-own, pcm-own, map-own}
use Rattle.model_store.specs.Types.{JackInfo, PcmInfo, ChannelMap, Held, Device}
use Rattle.model.specs.Device.{most_jacks, most_streams, most_maps}
use Rattle.model_store.specs.Store.{jacks_place, pcms_place, maps_place, params_place, played_place, device_size, counts_row, counts_values, counts_bytes, counts_at, held_size, word_size, held_bytes, held_at, word_at, device_of, device_bytes}
use Rattle.layout.specs.RowsLaws.{table-back}
use Rattle.layout.specs.All.{All}
use Rattle.layout.specs.AllLaws.{rows_ok}
use Rattle.model_store.specs.StoreLaws.{Sized, sized_of, jack-sized, pcm-sized, map-sized, held-sized, to_pcms, to_maps, to_params, to_played, from_pcms, from_maps, from_params, from_played, at-jacks, at-pcms, at-maps, at-params, at-played, length-counts, length-to_pcms, length-to_maps, length-to_params, length-to_played, length-device_bytes}

-- ---- a record of each table is read from its own bytes alone, and is what was written

read_all : (ws vs : List ℕ) → Fit ws vs → read ws (write ws vs) ≡ vs
read_all ws vs f = ap (read ws) (sym (append-nil (write ws vs))) ∙ read-write ws vs [] f

jack-back : (x : JackInfo) → Fit jack_info (jack_info_values x) → jack_at 0 (jack_bytes x) ≡ x
unfolding jack_at
jack-back x f = ap jack_info_of (read_all jack_info (jack_info_values x) f)

pcm-back : (x : PcmInfo) → Fit pcm_info (pcm_info_values x) → pcm_at 0 (pcm_bytes x) ≡ x
unfolding pcm_at
pcm-back x f = ap pcm_info_of (read_all pcm_info (pcm_info_values x) f)

map_back : (x : ChannelMap) → Fit channel_map (channel_map_values x) → map_at 0 (map_bytes x) ≡ x
unfolding map_at
map_back x f = ap channel_map_of (read_all channel_map (channel_map_values x) f)

-- the 24 bytes fit, and the byte after them
abbrev pub HeldOk : Held → Type 0
HeldOk h = Fit set_parameters (set_parameters_values h.set) × (h.known < 256)

held-own : (o : ℕ) (s : List ℕ) → held_at o s ≡ held_at 0 (bytes_at o held_size s)
unfolding held_at num_at
held-own o s =
    let e : read set_parameters (bytes_at o held_size s) ≡ read_at o set_parameters s =
    read-own 0 set_parameters (bytes_at o held_size s)
    ∙ ap (read set_parameters) (bytes_at-own 0 o (size set_parameters) held_size s (omega arith) ∙ ap (λ (k : ℕ). bytes_at k (size set_parameters) s) (add-zero o))
    ∙ sym (read-own o set_parameters s) in
    λ i. record { known = ap un (sym (bytes_at-own (size set_parameters) o 1 held_size s (omega arith))) i; set = set_parameters_of (sym e i) }

held_back : (x : Held) → HeldOk x → held_at 0 (held_bytes x) ≡ x
unfolding held_at num_at
held_back x f =
    let w = write set_parameters (set_parameters_values x.set) in
    let k = le 1 x.known in
    let n : bytes_at (size set_parameters) 1 (w ++ k) ≡ k =
    ap (λ (o : ℕ). bytes_at o 1 (w ++ k)) (sym (add-zero (length w) ∙ length-write set_parameters (set_parameters_values x.set)))
    ∙ bytes_at-append w k 0 1
    ∙ bytes_at-all k 1 (length-le 1 x.known) in
    λ i. record { known = (ap un n ∙ un-le 1 x.known f.1) i; set = set_parameters_of (read-write set_parameters (set_parameters_values x.set) k f.0 i) }

word-own : (o : ℕ) (s : List ℕ) → word_at o s ≡ word_at 0 (bytes_at o 8 s)
unfolding word_at num_at
word-own o s = ap un (sym (bytes_at-own 0 o 8 8 s (omega arith) ∙ ap (λ (k : ℕ). bytes_at k 8 s) (add-zero o)))

word_back : (x : ℕ) → x < 256 ^ 8 → word_at 0 (le 8 x) ≡ x
unfolding word_at num_at
word_back x f = ap un (bytes_at-all (le 8 x) 8 (length-le 8 x)) ∙ un-le 8 x f

-- ---- WRITTEN AND READ

pub record Fits (d : Device) : Type 0 where
  pub sized : Sized d
  pub counts : Fit counts_row (counts_values d.counts)
  pub jacks : All (λ (x : JackInfo). Fit jack_info (jack_info_values x)) d.jacks
  pub pcms : All (λ (x : PcmInfo). Fit pcm_info (pcm_info_values x)) d.pcms
  pub maps : All (λ (x : ChannelMap). Fit channel_map (channel_map_values x)) d.maps
  pub params : All HeldOk d.params
  pub played : All (λ (x : ℕ). x < 256 ^ 8) d.played

-- the device that a store holds fits
pub device-fits : (s : List ℕ) → Bytes s → Fits (device_of s)
unfolding device_of jack_at pcm_at map_at held_at word_at
device-fits s b =
    record {
      sized = sized_of s;
      counts = read_fits 0 counts_row s b;
      jacks = rows_ok (λ (x : JackInfo). Fit jack_info (jack_info_values x)) jack_at (size jack_info) (λ o t c. read_fits o jack_info t c) jacks_place most_jacks s b;
      pcms = rows_ok (λ (x : PcmInfo). Fit pcm_info (pcm_info_values x)) pcm_at (size pcm_info) (λ o t c. read_fits o pcm_info t c) pcms_place most_streams s b;
      maps = rows_ok (λ (x : ChannelMap). Fit channel_map (channel_map_values x)) map_at (size channel_map) (λ o t c. read_fits o channel_map t c) maps_place most_maps s b;
      params = rows_ok HeldOk held_at held_size (λ o t c. (read_fits o set_parameters t c, num_at-below (o + size set_parameters) 1 t c)) params_place most_streams s b;
      played = rows_ok (λ (x : ℕ). x < 256 ^ 8) word_at word_size (λ o t c. num_at-below o 8 t c) played_place most_streams s b;
    }

-- a table within a store, whatever follows the store
module _ {A : Type 0} (f : ℕ → List ℕ → A) (g : A → List ℕ) (size : ℕ) (own : (o : ℕ) (s : List ℕ) → f o s ≡ f 0 (bytes_at o size s))
    (sized : (x : A) → length (g x) ≡ size) (Ok : A → Type 0) (back : (x : A) → Ok x → f 0 (g x) ≡ x) where
  table-within : (w a b c : List ℕ) (xs : List A) (o n : ℕ) → w ≡ a ++ (rows_bytes g xs ++ b) → length a ≡ o → length xs ≡ n → All Ok xs → rows_at f size o n (w ++ c) ≡ xs
  table-within w a b c xs o n p e l ok =
      ap (λ (k : List ℕ). rows_at f size o n (k ++ c)) p ∙ ap (rows_at f size o n) (simp append_assoc) ∙ table-back f g size own sized Ok back a (b ++ c) xs o n e l ok

module _ (d : Device) (f : Fits d) (c : List ℕ) where
  counts-back : counts_at (device_bytes d ++ c) ≡ d.counts
  counts-back =
      let ws = counts_row in
      let vs = counts_values d.counts in
      let rest = rows_bytes jack_bytes d.jacks ++ from_pcms d in
      let e : read ws (device_bytes d ++ c) ≡ vs =
      ap (λ (l : List ℕ). read ws (l ++ c)) (at-jacks d) ∙ ap (read ws) (append_assoc (counts_bytes d.counts) rest c) ∙ read-write ws vs (rest ++ c) f.counts in
      λ i. record { jacks = slice_index (e i) 0; streams = slice_index (e i) 1; maps = slice_index (e i) 2 }

  device-back : device_of (device_bytes d ++ c) ≡ d
  unfolding device_of
  device-back =
      let w = device_bytes d in
      let z = f.sized in
      λ i. record {
        counts = counts-back i;
        jacks = table-within jack_at jack_bytes (size jack_info) jack-own jack-sized _ jack-back w (counts_bytes d.counts) (from_pcms d) c d.jacks jacks_place most_jacks (at-jacks d) (length-counts d) z.jacks f.jacks i;
        pcms = table-within pcm_at pcm_bytes (size pcm_info) pcm-own pcm-sized _ pcm-back w (to_pcms d) (from_maps d) c d.pcms pcms_place most_streams (at-pcms d) (length-to_pcms d z) z.pcms f.pcms i;
        maps = table-within map_at map_bytes (size channel_map) map-own map-sized _ map_back w (to_maps d) (from_params d) c d.maps maps_place most_maps (at-maps d) (length-to_maps d z) z.maps f.maps i;
        params = table-within held_at held_bytes held_size held-own held-sized _ held_back w (to_params d) (from_played d) c d.params params_place most_streams (at-params d) (length-to_params d z) z.params f.params i;
        played = table-within word_at (le word_size) word_size word-own (length-le word_size) _ word_back w (to_played d) [] c d.played played_place most_streams (at-played d) (length-to_played d z) z.played f.played i;
      }

pub store-back : (s : List ℕ) (d : Device) → Fits d → device_size ≤ length s → device_of (sets s 0 (device_bytes d)) ≡ d
store-back s d f h =
    let l = length-device_bytes d f.sized in
    ap device_of (sets-eq (device_bytes d) s 0 (omega arith)) ∙ device-back d f (drop (0 + length (device_bytes d)) s)
