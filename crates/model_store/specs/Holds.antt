-- The store of a model device, read again after a call, holds the device that the call by value leaves: every number fits its width, so nothing is cut off.
-- Assumes nothing.
use Rattle.std.specs.Prelude.{◌≡◌, ℕ, ◌+◌, ◌-◌, ◌/◌, ◌%◌, ◌^◌, ◌<◌, ◌≤◌, true, List, [], ◌∷◌, length, replicate, nat_le, slice_index, refl}
use Rattle.std.proofs.Common.{sym, ap, ◌∙◌, mod-lt, arith, length-set, length-append, leb-true, le-leb}
use Rattle.std.proofs.Math.Nat.{one-le-pow}
use Rattle.std.proofs.Math.Dec.{lit<}
use Rattle.std.proofs.lemmas.List.{length-replicate}
use Rattle.std.proofs.lemmas.List.Edits.{sets}
use Rattle.layout.specs.Bytes.{le, Bytes}
use Rattle.layout.specs.Layout.{size, read, write, Fit}
use Rattle.layout.specs.Lent.{Made, result_size}
use Rattle.layout.specs.Rows.{rows_at, rows_bytes}
use Rattle.layout.specs.BytesLaws.{bytes_le}
use Rattle.layout.specs.WrittenLaws.{bytes-append, bytes-write, bytes-rows, Again, over-again}
use Rattle.layout.specs.LayoutLaws.{read_fits}
use Rattle.layout.specs.RowsLaws.{length-rows}
use Rattle.layout.specs.All.{All}
use Rattle.layout.specs.AllLaws.{set-ok, append-ok, replicate-ok, rows_ok}
use Rattle.codes.specs.SaysLaws.{guarded-by, passes}
use Rattle.records.specs.Records.{transfer, jack_info, jack_info_values, pcm_info, pcm_info_values, channel_map, channel_map_values, set_parameters, set_parameters_values, jack_info_of, pcm_info_of, channel_map_of, set_parameters_of, jack_bytes, pcm_bytes, map_bytes}
use Rattle.tables.specs.Tables.{jack_at, pcm_at, map_at}
use Rattle.model_store.specs.Types.{JackInfo, PcmInfo, ChannelMap, Held, Device}
use Rattle.model.specs.Device.{most_jacks, most_streams, most_maps, nothing, within_of}
use Rattle.model.specs.DeviceLaws.{and_both, few-jacks, few-streams, few-maps}
use Rattle.model.specs.Control.{Given, answering, kept_by, control_of}
use Rattle.model.specs.Transfer.{stream_of, transfer_call}
use Rattle.model.specs.KeepLaws.{control-leaves, transfer-leaves}
use Rattle.model_store.specs.Store.{device_size, counts_row, counts_values, counts_bytes, word_size, held_bytes, device_of, device_bytes}
use Rattle.model_store.specs.Calls.{Told, Transferred, counts_in, rows_then, device_in, new_in, control_in, transfer_in}
use Rattle.model_store.specs.StoreLaws.{counted_by}
use Rattle.model_store.specs.RoundLaws.{HeldOk, Fits, device-fits, store-back}
use Rattle.model_store.specs.ControlLaws.{long}

-- ---- a device with one row changed

module _ (d : Device) (f : Fits d) (i : ℕ) where
  kept-fits : (h : Held) → HeldOk h → Fits (kept_by d i h)
  kept-fits h k =
      let z = f.sized in
      record {
        sized = record { jacks = z.jacks; pcms = z.pcms; maps = z.maps; params = length-set d.params i h ∙ z.params; played = z.played };
        counts = f.counts;
        jacks = f.jacks;
        pcms = f.pcms;
        maps = f.maps;
        params = set-ok HeldOk d.params i h f.params k;
        played = f.played;
      }

  counted-fits : (v : ℕ) → v < 256 ^ 8 → Fits (counted_by d i v)
  counted-fits v k =
      let z = f.sized in
      record {
        sized = record { jacks = z.jacks; pcms = z.pcms; maps = z.maps; params = z.params; played = length-set d.played i v ∙ z.played };
        counts = f.counts;
        jacks = f.jacks;
        pcms = f.pcms;
        maps = f.maps;
        params = f.params;
        played = set-ok (λ (x : ℕ). x < 256 ^ 8) d.played i v f.played k;
      }

-- ---- each call by value leaves a device that fits

module _ (d : Device) (f : Fits d) (request : List ℕ) where
  control-fits : (page : List ℕ) → Bytes request → Fits (control_of d request page).answered.device
  unfolding control_of answering
  control-fits page b =
      let p = set_parameters_of (read set_parameters request) in
      let set = kept-fits d f p.stream (record { known = 1; set = p }) (read_fits 0 set_parameters request b, lit< tt) in
      guarded-by (λ (x : Given). Fits x.answered.device) _ _ _
      (λ _. guarded-by (λ (x : Given). Fits x.answered.device) _ _ _ (λ _. control-leaves Fits request d f set) (λ _. f))
      (λ _. f)

  transfer-fits : (answer : List ℕ) → Fits (transfer_call d request answer).answered.device
  unfolding transfer_call
  transfer-fits answer =
      let i = stream_of request in
      let more = counted-fits d f i ((slice_index d.played i + (length request - size transfer)) % 2 ^ 64) (mod-lt _ (lit< tt)) in
      guarded-by (λ (x : Given). Fits x.answered.device) _ _ _
      (λ _. guarded-by (λ (x : Given). Fits x.answered.device) _ _ _ (λ _. transfer-leaves Fits request d f more) (λ _. f))
      (λ _. f)

-- ---- a new device fits

-- a record of zeros
zeros-fit : (ws : List ℕ) → Fit ws (replicate (length ws) 0)
zeros-fit [] = tt
zeros-fit (w ∷ ws) = (one-le-pow w 256 (lit< tt), zeros-fit ws)

-- a table as it came, and a record repeated after it
module _ {A : Type 0} (f : ℕ → List ℕ → A) (size most : ℕ) (none : A) (bytes : List ℕ) where
  then-sized : length bytes / size ≤ most → length (rows_then f size most none bytes) ≡ most
  then-sized h =
      let q = length bytes / size in
      length-append (rows_at f size 0 q bytes) (replicate (most - q) none) ∙ (λ i. length-rows f size 0 q bytes i + length-replicate (most - q) none i) ∙ omega arith

  then-every : (Ok : A → Type 0) → ((o : ℕ) (s : List ℕ) → Bytes s → Ok (f o s)) → Ok none → Bytes bytes → All Ok (rows_then f size most none bytes)
  then-every Ok ok z b =
      let q = length bytes / size in
      append-ok Ok (rows_at f size 0 q bytes) (replicate (most - q) none) (rows_ok Ok f size ok 0 q bytes b) (replicate-ok Ok (most - q) none z)

new-fits : (jacks pcms maps : List ℕ) → Bytes jacks → Bytes pcms → Bytes maps → within_of (counts_in jacks pcms maps) ≡ true → Fits (device_in jacks pcms maps)
unfolding jack_at pcm_at map_at
new-fits jacks pcms maps bj bp bm w =
    let n = counts_in jacks pcms maps in
    let hj = few-jacks n w in
    let hp = few-streams n w in
    let hm = few-maps n w in
    record {
      sized =
          record {
            jacks = then-sized jack_at (size jack_info) most_jacks (jack_info_of []) jacks hj;
            pcms = then-sized pcm_at (size pcm_info) most_streams (pcm_info_of []) pcms hp;
            maps = then-sized map_at (size channel_map) most_maps (channel_map_of []) maps hm;
            params = refl;
            played = refl;
          };
      counts = (omega arith, (omega arith, (omega arith, tt)));
      jacks = then-every jack_at (size jack_info) most_jacks (jack_info_of []) jacks (λ (x : JackInfo). Fit jack_info (jack_info_values x)) (λ o t c. read_fits o jack_info t c) (zeros-fit jack_info) bj;
      pcms = then-every pcm_at (size pcm_info) most_streams (pcm_info_of []) pcms (λ (x : PcmInfo). Fit pcm_info (pcm_info_values x)) (λ o t c. read_fits o pcm_info t c) (zeros-fit pcm_info) bp;
      maps = then-every map_at (size channel_map) most_maps (channel_map_of []) maps (λ (x : ChannelMap). Fit channel_map (channel_map_values x)) (λ o t c. read_fits o channel_map t c) (zeros-fit channel_map) bm;
      params = replicate-ok HeldOk most_streams nothing (zeros-fit set_parameters, lit< tt);
      played = replicate-ok (λ (x : ℕ). x < 256 ^ 8) most_streams 0 (lit< tt);
    }

-- ---- THE DEVICE THAT A CALL LEAVES IN A STORE is the one that the call by value leaves

pub control-holds : (s request page r : List ℕ) → Bytes s → Bytes request → device_size ≤ length s → result_size ≤ length r
    → device_of (control_in s request page r).store ≡ (control_of (device_of s) request page).answered.device
unfolding control_in
control-holds s request page r b c h k =
    ap (λ (t : Told). device_of t.store) (sym (passes _ _ _ (long s r h k) refl))
    ∙ store-back s (control_of (device_of s) request page).answered.device (control-fits (device_of s) (device-fits s b) request page c) h

pub transfer-holds : (s request answer : List ℕ) → Bytes s → device_size ≤ length s → device_of (transfer_in s request answer).store ≡ (transfer_call (device_of s) request answer).answered.device
unfolding transfer_in
transfer-holds s request answer b h =
    ap (λ (t : Transferred). device_of t.store) (sym (passes _ _ _ (le-leb device_size (length s) h) refl))
    ∙ store-back s (transfer_call (device_of s) request answer).answered.device (transfer-fits (device_of s) (device-fits s b) request answer) h

-- where a device is made
pub new-holds : (s jacks pcms maps : List ℕ) → Bytes jacks → Bytes pcms → Bytes maps → (new_in s jacks pcms maps).answer ≡ 0 → device_of (new_in s jacks pcms maps).store ≡ device_in jacks pcms maps
unfolding new_in
new-holds s jacks pcms maps bj bp bm =
    let P : Made → Type 0 = λ (x : Made). x.answer ≡ 0 → device_of x.store ≡ device_in jacks pcms maps in
    guarded-by P _ _ _
    (λ l. guarded-by P _ _ _
    (λ w _. store-back s (device_in jacks pcms maps) (new-fits jacks pcms maps bj bp bm w) (leb-true device_size (length s) (and_both (nat_le device_size (length s)) _ l).0))
    (λ _ e. absurd (omega arith)))
    (λ _ e. absurd (omega arith))

-- ---- what a call leaves is a store again

bytes-device : (d : Device) → Bytes (device_bytes d)
unfolding device_bytes
bytes-device d =
    bytes-append (counts_bytes d.counts) _ (bytes-write counts_row (counts_values d.counts))
    (bytes-append (rows_bytes jack_bytes d.jacks) _ (bytes-rows jack_bytes (λ x. bytes-write jack_info (jack_info_values x)) d.jacks)
    (bytes-append (rows_bytes pcm_bytes d.pcms) _ (bytes-rows pcm_bytes (λ x. bytes-write pcm_info (pcm_info_values x)) d.pcms)
    (bytes-append (rows_bytes map_bytes d.maps) _ (bytes-rows map_bytes (λ x. bytes-write channel_map (channel_map_values x)) d.maps)
    (bytes-append (rows_bytes held_bytes d.params) _
    (bytes-rows held_bytes (λ h. bytes-append (write set_parameters (set_parameters_values h.set)) (le 1 h.known) (bytes-write set_parameters (set_parameters_values h.set)) (bytes_le 1 h.known)) d.params)
    (bytes-rows (le word_size) (bytes_le word_size) d.played)))))

module _ (s : List ℕ) (b : Bytes s) where
  put-again : (d : Device) → Again s (sets s 0 (device_bytes d))
  put-again d = over-again s (device_bytes d) b (bytes-device d)

  pub control-again : (request page r : List ℕ) → Again s (control_in s request page r).store
  unfolding control_in
  control-again request page r = guarded-by (λ (t : Told). Again s t.store) _ _ _ (λ _. put-again _) (λ _. (b, refl))

  pub transfer-again : (request answer : List ℕ) → Again s (transfer_in s request answer).store
  unfolding transfer_in
  transfer-again request answer = guarded-by (λ (t : Transferred). Again s t.store) _ _ _ (λ _. put-again _) (λ _. (b, refl))

  pub new-again : (jacks pcms maps : List ℕ) → Again s (new_in s jacks pcms maps).store
  unfolding new_in
  new-again jacks pcms maps =
      guarded-by (λ (x : Made). Again s x.store) _ _ _ (λ _. guarded-by (λ (x : Made). Again s x.store) _ _ _ (λ _. put-again _) (λ _. (b, refl))) (λ _. (b, refl))
