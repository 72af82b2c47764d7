-- One request, answered from a store by place: what each call of the code comes to in the definitions of `model`.
-- Assumes nothing.
use Rattle.std.specs.Prelude.{◌≡◌, ℕ, ◌+◌, ◌*◌, ◌<◌, ◌≤◌, Bool, true, false, List, [], ◌∷◌, ◌++◌, length, ◌==◌, ◌≢◌, refl}
use Rattle.std.proofs.Common.{sym, ◌∙◌, subst, zero-add, le_trans, arith, length-append}
use Rattle.std.proofs.Math.Path.{ap}
use Rattle.std.proofs.lemmas.List.Edits.{sets}
use borrow.Author.Tests.{eq-eqb, ne_eqb, lt-ltb, le-ltb}
use Rattle.layout.specs.Bytes.{le, bytes_at, num_at, Bytes}
use Rattle.layout.specs.Layout.{size, read}
use Rattle.layout.specs.Rows.{rows_at}
use Rattle.layout.specs.BytesLaws.{length-le, length-bytes_at}
use Rattle.layout.specs.StoreLaws.{sets_then}
use Rattle.layout.specs.LayoutLaws.{write_read}
use Rattle.codes.specs.Says.{says, pick}
use Rattle.codes.specs.SaysLaws.{picks, skips, refused}
use Rattle.records.specs.Records.{query, pcm_command, set_parameters, jack_info, pcm_info, channel_map, query_of, set_parameters_of, jack_bytes, pcm_bytes, map_bytes}
use Rattle.tables.specs.Tables.{jack_at, pcm_at, map_at}
use Rattle.model_store.specs.Types.{RJackInfo, RPcmInfo, RChmapInfo, Counts, Held, Device}
use Rattle.model.specs.Device.{most_jacks, most_streams, most_maps, within_of}
use Rattle.model.specs.DeviceLaws.{and-passes, and-stops, few-jacks, few-streams, few-maps}
use Rattle.model.specs.Control.{Outcome, Laid, bad, ok, query_fits, asked_says, rows_in, table, kept_by, setting_of, command_of, answer_by}
use Rattle.model.specs.PageLaws.{front}
use Rattle.model.specs.ControlLaws.{asked, a-range, query-fits, range-fits}
use Rattle.model_store.specs.Store.{jacks_place, pcms_place, maps_place, params_place, counts_at, held_size, held_bytes, device_of}
use Rattle.model_store.specs.TableLaws.{range-below, part_same}
use Rattle.model_store.specs.StoreLaws.{jack-same, pcm-same, map_same, store_same, params_alone}
use Rattle.model_store.specs.Private.{range_bytes, Gave}

pub gave : {o o' : Outcome} {s page : List ℕ} {n : ℕ} {after shown : List ℕ} → o ≡ o' → Gave o' s page n after shown → Gave o s page n after shown
gave e g = rw e g

-- the device stays as it was
pub unchanged : (s : List ℕ) → Bytes s → {page : List ℕ} {n : ℕ} {shown : List ℕ} (o : Outcome) (b : List ℕ) → o ≡ record { device = device_of s; bytes = b } → Laid b page n shown → Gave o s page n s shown
unchanged s h o b e l = rw e (record { told = l.0; device = sym (store_same s h); written = l.1 })

-- ---- a query of n records, row bytes each

module _ (request : List ℕ) (row n : ℕ) where
  -- its bytes are within the table's
  pub range-room : (start count : ℕ) → says 0 (start ∷ count ∷ []) ≡ asked_says request row n → start * row + count * row ≤ n * row
  range-room start count e = range-below start count n row (range-fits request row n start count e)

  module _ (place : ℕ) (s page after : List ℕ) where
    pub range-bad : (k : ℕ) → says 1 [] ≡ asked_says request row n → Laid (le 4 0x8001) page k after → Laid (range_bytes request row n place s) page k after
    range-bad k e l =
        let q = asked request row n in
        let p : range_bytes request row n place s ≡ le 4 0x8001 = skips _ _ _ (refused (query_fits request row n) 0 (q.start ∷ q.count ∷ []) e) in
        subst (λ (b : List ℕ). Laid b page k after) (sym p) l

    pub range-laid : (start count : ℕ) → says 0 (start ∷ count ∷ []) ≡ asked_says request row n → 4 + count * row ≤ length page
        → (p : List ℕ) → p ≡ sets page 0 (le 4 0x8000) → after ≡ sets p 4 (bytes_at (place + start * row) (count * row) s)
        → Laid (range_bytes request row n place s) page (4 + count * row) after
    range-laid start count r h p e f =
        let q = a-range request row n start count r in
        let b = bytes_at (place + start * row) (count * row) s in
        let same : range_bytes request row n place s ≡ le 4 0x8000 ++ b = picks _ _ _ q.0 ∙ (λ i. le 4 0x8000 ++ bytes_at (place + sym q.1 i * row) (sym q.2 i * row) s) in
        let m : length (le 4 0x8000 ++ b) ≡ 4 + count * row = length-append (le 4 0x8000) b ∙ (λ i. length-le 4 0x8000 i + length-bytes_at (place + start * row) (count * row) s i) in
        subst (λ (x : List ℕ). Laid x page (4 + count * row) after) (sym same)
        (sym m, f ∙ ap (λ (z : List ℕ). sets z 4 b) e ∙ sets_then page 0 4 (le 4 0x8000) b (sym (zero-add (length (le 4 0x8000)) ∙ length-le 4 0x8000)) ∙ front page (le 4 0x8000 ++ b) (rw m h))

-- ONE LAW FOR THE THREE TABLES, over what reads a record, what writes one, its size, and the table's place and room
table-place : {A : Type 0} (f : ℕ → List ℕ → A) (g : A → List ℕ) (row place room : ℕ) → ((o : ℕ) (s : List ℕ) → Bytes s → g (f o s) ≡ bytes_at o row s)
    → (s : List ℕ) → Bytes s → (request : List ℕ) (n : ℕ) (d : Device) → n ≤ room
    → table g request row n (rows_at f row place room s) d ≡ record { device = d; bytes = range_bytes request row n place s }
table-place f g row place room same s b request n d h = by (query_fits request row n) refl
  where
    by : (t : Bool) → query_fits request row n ≡ t
        → (let q = query_of (read query request) in
        pick t (record { device = d; bytes = rows_in g q.start q.count (rows_at f row place room s) }) (bad d)
        ≡ record { device = d; bytes = pick t (le 4 0x8000 ++ bytes_at (place + q.start * row) (q.count * row) s) (le 4 0x8001) })
    by true e =
        let q = query_of (read query request) in
        ap (λ (l : List ℕ). record { device = d; bytes = le 4 0x8000 ++ l }) (part_same f g row same place room q.start q.count s b (le_trans (query-fits request row n e) h))
    by false e = refl

module _ (s : List ℕ) (b : Bytes s) (n : Counts) (e : n ≡ counts_at s) (w : within_of n ≡ true) (request : List ℕ) where
  pub jacks-place : answer_by RJackInfo request (device_of s) ≡ record { device = device_of s; bytes = range_bytes request (size jack_info) n.jacks jacks_place s }
  unfolding device_of
  jacks-place =
      ap (λ (c : Counts). table jack_bytes request (size jack_info) c.jacks (device_of s).jacks (device_of s)) (sym e)
      ∙ table-place jack_at jack_bytes (size jack_info) jacks_place most_jacks jack-same s b request n.jacks (device_of s) (few-jacks n w)

  pub pcms-place : answer_by RPcmInfo request (device_of s) ≡ record { device = device_of s; bytes = range_bytes request (size pcm_info) n.streams pcms_place s }
  unfolding device_of
  pcms-place =
      ap (λ (c : Counts). table pcm_bytes request (size pcm_info) c.streams (device_of s).pcms (device_of s)) (sym e)
      ∙ table-place pcm_at pcm_bytes (size pcm_info) pcms_place most_streams pcm-same s b request n.streams (device_of s) (few-streams n w)

  pub maps-place : answer_by RChmapInfo request (device_of s) ≡ record { device = device_of s; bytes = range_bytes request (size channel_map) n.maps maps_place s }
  unfolding device_of
  maps-place =
      ap (λ (c : Counts). table map_bytes request (size channel_map) c.maps (device_of s).maps (device_of s)) (sym e)
      ∙ table-place map_at map_bytes (size channel_map) maps_place most_maps map_same s b request n.maps (device_of s) (few-maps n w)

-- ---- commands

pub command-place : (s request : List ℕ) → command_of request (device_of s) ≡ record { device = device_of s; bytes = pick (length request == size pcm_command) (le 4 0x8000) (le 4 0x8001) }
command-place s request = by (length request == size pcm_command)
  where
    by : (t : Bool) → pick t (ok (device_of s)) (bad (device_of s)) ≡ record { device = device_of s; bytes = pick t (le 4 0x8000) (le 4 0x8001) }
    by true = refl
    by false = refl

-- ---- set parameters

module _ (s request : List ℕ) (n : ℕ) (e : n ≡ (counts_at s).streams) where
  pub setting-length : (length request ≢ size set_parameters) → setting_of request (device_of s) ≡ bad (device_of s)
  setting-length h = skips _ _ _ (and-stops _ _ (ne_eqb _ (size set_parameters) h))

  pub setting-stream : (i : ℕ) → i ≡ num_at 4 4 request → length request ≡ size set_parameters → n ≤ i → setting_of request (device_of s) ≡ bad (device_of s)
  unfolding device_of
  setting-stream i p l h = skips _ _ _ (and-passes _ _ (eq-eqb _ (size set_parameters) l) ∙ le-ltb (num_at 4 4 request) (num_at 4 4 s) (omega arith))

  setting-takes : (i : ℕ) → i ≡ num_at 4 4 request → length request ≡ size set_parameters → i < n → setting_of request (device_of s) ≡ ok (kept_by (device_of s) i (record { known = 1; set = set_parameters_of (read set_parameters request) }))
  unfolding device_of
  setting-takes i p l h =
      picks _ _ _ (and-passes _ _ (eq-eqb _ (size set_parameters) l) ∙ lt-ltb (num_at 4 4 request) (num_at 4 4 s) (omega arith))
      ∙ ap (λ (j : ℕ). ok (kept_by (device_of s) j (record { known = 1; set = set_parameters_of (read set_parameters request) }))) (sym p)

  -- the request's own bytes, and a byte that says that there are parameters
  pub setting-keeps : (i : ℕ) (s₁ s₂ page shown : List ℕ) (k : ℕ) → Bytes s → Bytes request → i ≡ num_at 4 4 request → length request ≡ size set_parameters → i < n → n ≤ most_streams
      → s₁ ≡ sets s (params_place + i * held_size) (bytes_at 0 (size set_parameters) request) → s₂ ≡ sets s₁ (params_place + i * held_size + size set_parameters) (le 1 1) → Laid (le 4 0x8000) page k shown
      → Gave (setting_of request (device_of s)) s page k s₂ shown
  setting-keeps i s₁ s₂ page shown k b r p l h m e₁ e₂ t =
      let x : Held = record { known = 1; set = set_parameters_of (read set_parameters request) } in
      let at = params_place + i * held_size in
      let put : s₂ ≡ sets s at (held_bytes x) =
      e₂
      ∙ ap (λ (z : List ℕ). sets z (at + size set_parameters) (le 1 1)) e₁
      ∙ sets_then s at (at + size set_parameters) (bytes_at 0 (size set_parameters) request) (le 1 1) (ap (λ (z : ℕ). at + z) (sym (length-bytes_at 0 (size set_parameters) request)))
      ∙ ap (λ (z : List ℕ). sets s at (z ++ le 1 1)) (sym (write_read 0 set_parameters request r)) in
      gave (setting-takes i p l h) (record { told = t.0; device = put ∙ params_alone s b i (omega arith) x; written = t.1 })
