-- A new device by place: a table is its bytes as they came and zeros, and all that follows the tables is zeros.
-- Assumes nothing.
use Rattle.std.specs.Prelude.{◌≡◌, ℕ, zero, suc, ◌+◌, ◌-◌, ◌*◌, ◌/◌, ◌%◌, ◌<◌, ◌≤◌, true, false, List, [], ◌++◌, length, replicate, ◌≢◌}
use Rattle.std.proofs.Math.Path.{refl, sym, ap}
use Rattle.std.proofs.Common.{◌∙◌, append_assoc, zero-add, add-zero, zero-mul, suc-mul, add_comm, mul_comm, mul-le-mul_right, div-add-mod', arith, length-append}
use Rattle.std.proofs.Math.Nat.{mul-sub}
use Rattle.std.proofs.lemmas.List.{length-replicate, replicate-append-replicate}
use Rattle.std.proofs.Math.Seq.{sets}
use borrow.Author.Tests.{le-leb, lt-leb, eq-eqb, ne_eqb}
use Rattle.layout.specs.Bytes.{le, bytes_at, Bytes, zeros}
use Rattle.layout.specs.Layout.{size}
use Rattle.layout.specs.Lent.{made}
use Rattle.layout.specs.Rows.{rows_at, rows_bytes}
use Rattle.layout.specs.BytesLaws.{bytes_at-all}
use Rattle.layout.specs.LayoutLaws.{length-write}
use Rattle.layout.specs.StoreLaws.{sets_then}
use Rattle.layout.specs.RowsLaws.{rows_bytes-append, rows_same}
use Rattle.codes.specs.SaysLaws.{passes, stops}
use Rattle.records.specs.Records.{jack_info, pcm_info, channel_map, jack_info_of, pcm_info_of, channel_map_of, jack_bytes, pcm_bytes, map_bytes}
use Rattle.tables.specs.Tables.{jack_at, pcm_at, map_at}
use Rattle.model.specs.Device.{most_jacks, most_streams, most_maps, nothing, within_of}
use Rattle.model.specs.DeviceLaws.{and-passes, and-stops, few-jacks, few-streams, few-maps}
use Rattle.model_store.specs.Types.{Counts}
use Rattle.model_store.specs.Store.{jacks_place, pcms_place, maps_place, params_place, played_place, device_size, counts_row, counts_values, counts_bytes, held_size, held_bytes, word_size, device_bytes}
use Rattle.model_store.specs.Calls.{counts_in, rows_then, device_in, whole_in, new_in}
use Rattle.model_store.specs.StoreLaws.{jack-same, pcm-same, map_same, at-jacks}
use Rattle.model_store.specs.Private.{jacks_room, pcms_room, maps_room, rest_room, padded, new_bytes}

-- ---- zeros, and a table of which the rest is zeros

length-zeros : (n : ℕ) → length (zeros n) ≡ n
unfolding zeros
length-zeros n = length-replicate n 0

zeros-add : (n m : ℕ) → zeros n ++ zeros m ≡ zeros (n + m)
unfolding zeros
zeros-add n m = replicate-append-replicate n m 0

length-padded : (room : ℕ) (rows : List ℕ) → length rows ≤ room → length (padded room rows) ≡ room
length-padded room rows h = length-append rows (zeros (room - length rows)) ∙ ap (λ (n : ℕ). length rows + n) (length-zeros (room - length rows)) ∙ omega arith

-- a copy, then zeros
pub filled : (s s₁ s₂ rows : List ℕ) (place room : ℕ) → s₁ ≡ sets s place (bytes_at 0 (length rows) rows) → s₂ ≡ sets s₁ (place + length rows) (zeros (room - length rows)) → s₂ ≡ sets s place (padded room rows)
filled s s₁ s₂ rows place room e f =
    f
    ∙ ap (λ (l : List ℕ). sets l (place + length rows) (zeros (room - length rows))) (e ∙ ap (sets s place) (bytes_at-all rows (length rows) refl))
    ∙ sets_then s place (place + length rows) rows (zeros (room - length rows)) refl

-- ---- the tables of a new device

-- whole records
whole : (size : ℕ) (rows : List ℕ) → length rows % size ≡ 0 → length rows ≡ length rows / size * size
whole size rows e = sym (div-add-mod' (length rows) size) ∙ ap (λ (n : ℕ). length rows / size * size + n) e ∙ add-zero (length rows / size * size)

room : (size most : ℕ) (rows : List ℕ) → length rows % size ≡ 0 → length rows / size ≤ most → length rows ≤ most * size
room size most rows e h = let k = mul-le-mul_right size h in omega (arith, whole size rows e)

left : (most q size : ℕ) → (most - q) * size ≡ most * size - q * size
left most q size = mul_comm (most - q) size ∙ mul-sub size most q ∙ (λ i. mul_comm size most i - mul_comm size q i)

module _ {A : Type 0} (g : A → List ℕ) (size : ℕ) (none : A) (z : g none ≡ zeros size) where
  none-zeros : (k : ℕ) → rows_bytes g (replicate k none) ≡ zeros (k * size)
  unfolding rows_bytes zeros
  none-zeros zero = sym (ap zeros (zero-mul size))
  none-zeros (suc k) = (λ i. z i ++ none-zeros k i) ∙ zeros-add size (k * size) ∙ ap zeros (add_comm size (k * size) ∙ sym (suc-mul k size))

  table-new : (f : ℕ → List ℕ → A) → ((o : ℕ) (s : List ℕ) → Bytes s → g (f o s) ≡ bytes_at o size s)
      → (most : ℕ) (rows : List ℕ) → Bytes rows → length rows % size ≡ 0 → rows_bytes g (rows_then f size most none rows) ≡ padded (most * size) rows
  table-new f same most rows b e =
      let q = length rows / size in
      let w = whole size rows e in
      rows_bytes-append g (rows_at f size 0 q rows) (replicate (most - q) none)
      ∙ (λ i.
      (rows_same f g size same 0 q rows b ∙ bytes_at-all rows (q * size) w) i
      ++ (none-zeros (most - q) ∙ ap zeros (left most q size ∙ ap (λ (n : ℕ). most * size - n) (sym w))) i)

jack-none : jack_bytes (jack_info_of []) ≡ zeros (size jack_info)
unfolding le zeros
jack-none = refl

pcm-none : pcm_bytes (pcm_info_of []) ≡ zeros (size pcm_info)
unfolding le zeros
pcm-none = refl

map-none : map_bytes (channel_map_of []) ≡ zeros (size channel_map)
unfolding le zeros
map-none = refl

held_none : held_bytes nothing ≡ zeros held_size
unfolding le zeros
held_none = refl

word_none : le word_size 0 ≡ zeros word_size
unfolding le zeros
word_none = refl

-- ---- the stores of a new device, one after the other

after : (s a b s₁ s₂ : List ℕ) (j : ℕ) → s₁ ≡ sets s 0 a → length a ≡ j → s₂ ≡ sets s₁ j b → s₂ ≡ sets s 0 (a ++ b)
after s a b s₁ s₂ j e k f = f ∙ ap (λ (l : List ℕ). sets l j b) e ∙ sets_then s 0 j a b (sym (zero-add (length a) ∙ k))

group : (c j p m z : List ℕ) → (((c ++ j) ++ p) ++ m) ++ z ≡ c ++ (j ++ (p ++ (m ++ z)))
group c j p m z = simp append_assoc

pub made_all : (s s₁ s₂ s₃ s₄ s₅ : List ℕ) (n : Counts) (jacks pcms maps : List ℕ) → length jacks ≤ jacks_room → length pcms ≤ pcms_room → length maps ≤ maps_room
    → s₁ ≡ sets s 0 (counts_bytes n) → s₂ ≡ sets s₁ jacks_place (padded jacks_room jacks) → s₃ ≡ sets s₂ pcms_place (padded pcms_room pcms) → s₄ ≡ sets s₃ maps_place (padded maps_room maps) → s₅ ≡ sets s₄ params_place (zeros rest_room)
    → s₅ ≡ sets s 0 (new_bytes n jacks pcms maps)
made_all s s₁ s₂ s₃ s₄ s₅ n jacks pcms maps hj hp hm e₁ e₂ e₃ e₄ e₅ =
    let c = counts_bytes n in
    let j = padded jacks_room jacks in
    let p = padded pcms_room pcms in
    let m = padded maps_room maps in
    let l₁ : length c ≡ jacks_place = length-write counts_row (counts_values n) in
    let l₂ : length (c ++ j) ≡ pcms_place = length-append c j ∙ (λ i. l₁ i + length-padded jacks_room jacks hj i) in
    let l₃ : length ((c ++ j) ++ p) ≡ maps_place = length-append (c ++ j) p ∙ (λ i. l₂ i + length-padded pcms_room pcms hp i) in
    let l₄ : length (((c ++ j) ++ p) ++ m) ≡ params_place = length-append ((c ++ j) ++ p) m ∙ (λ i. l₃ i + length-padded maps_room maps hm i) in
    let f₂ = after s c j s₁ s₂ jacks_place e₁ l₁ e₂ in
    let f₃ = after s (c ++ j) p s₂ s₃ pcms_place f₂ l₂ e₃ in
    let f₄ = after s ((c ++ j) ++ p) m s₃ s₄ maps_place f₃ l₃ e₄ in
    after s (((c ++ j) ++ p) ++ m) (zeros rest_room) s₄ s₅ params_place f₄ l₄ e₅ ∙ ap (sets s 0) (group c j p m (zeros rest_room))

-- ---- the call

module _ (s jacks pcms maps : List ℕ) where
  pub new-short : length s < device_size → made 10 s ≡ new_in s jacks pcms maps
  unfolding new_in
  new-short h = stops _ _ _ (and-stops _ _ (lt-leb device_size (length s) h)) refl

  module _ (l : device_size ≤ length s) where
    pub new-jacks : (length jacks % size jack_info ≢ 0) → made 10 s ≡ new_in s jacks pcms maps
    unfolding new_in
    new-jacks h = stops _ _ _ (and-passes _ _ (le-leb device_size (length s) l) ∙ and-stops _ _ (ne_eqb _ 0 h)) refl

    module _ (j : length jacks % size jack_info ≡ 0) where
      pub new-pcms : (length pcms % size pcm_info ≢ 0) → made 10 s ≡ new_in s jacks pcms maps
      unfolding new_in
      new-pcms h = stops _ _ _ (and-passes _ _ (le-leb device_size (length s) l) ∙ and-passes _ _ (eq-eqb _ 0 j) ∙ and-stops _ _ (ne_eqb _ 0 h)) refl

      module _ (p : length pcms % size pcm_info ≡ 0) where
        pub new-maps : (length maps % size channel_map ≢ 0) → made 10 s ≡ new_in s jacks pcms maps
        unfolding new_in
        new-maps h = stops _ _ _ (and-passes _ _ (le-leb device_size (length s) l) ∙ and-passes _ _ (eq-eqb _ 0 j) ∙ and-passes _ _ (eq-eqb _ 0 p) ∙ ne_eqb _ 0 h) refl

        module _ (m : length maps % size channel_map ≡ 0) where
          lengths-pass : whole_in s jacks pcms maps ≡ true
          lengths-pass = and-passes _ _ (le-leb device_size (length s) l) ∙ and-passes _ _ (eq-eqb _ 0 j) ∙ and-passes _ _ (eq-eqb _ 0 p) ∙ eq-eqb _ 0 m

          pub new-many : within_of (counts_in jacks pcms maps) ≡ false → made 1 s ≡ new_in s jacks pcms maps
          unfolding new_in
          new-many w = passes _ _ _ lengths-pass (stops _ _ _ w refl)

          module _ (w : within_of (counts_in jacks pcms maps) ≡ true) where
            -- the tables fit their rooms
            pub rooms : (length jacks ≤ jacks_room) × (length pcms ≤ pcms_room) × (length maps ≤ maps_room)
            rooms =
                let n = counts_in jacks pcms maps in
                (room (size jack_info) most_jacks jacks j (few-jacks n w), room (size pcm_info) most_streams pcms p (few-streams n w), room (size channel_map) most_maps maps m (few-maps n w))

            new-bytes : Bytes jacks → Bytes pcms → Bytes maps → device_bytes (device_in jacks pcms maps) ≡ new_bytes (counts_in jacks pcms maps) jacks pcms maps
            new-bytes bj bp bm =
                at-jacks (device_in jacks pcms maps)
                ∙ (λ i.
                counts_bytes (counts_in jacks pcms maps)
                ++ (table-new jack_bytes (size jack_info) (jack_info_of []) jack-none jack_at jack-same most_jacks jacks bj j i
                ++ (table-new pcm_bytes (size pcm_info) (pcm_info_of []) pcm-none pcm_at pcm-same most_streams pcms bp p i
                ++ (table-new map_bytes (size channel_map) (channel_map_of []) map-none map_at map_same most_maps maps bm m i
                ++ ((λ k. none-zeros held_bytes held_size nothing held_none most_streams k ++ none-zeros (le word_size) word_size 0 word_none most_streams k) ∙ zeros-add (played_place - params_place) (device_size - played_place)) i))))

            pub new-made : Bytes jacks → Bytes pcms → Bytes maps → (n : Counts) (after : List ℕ) → n ≡ counts_in jacks pcms maps
                → after ≡ sets s 0 (new_bytes n jacks pcms maps)
                → made 0 after ≡ new_in s jacks pcms maps
            unfolding new_in
            new-made bj bp bm n after e f =
                passes _ _ _ lengths-pass
                (passes _ _ _ w (ap (made 0) (f ∙ ap (λ (c : Counts). sets s 0 (new_bytes c jacks pcms maps)) e ∙ ap (sets s 0) (sym (new-bytes bj bp bm)))))
