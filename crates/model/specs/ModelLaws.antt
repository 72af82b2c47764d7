-- What a driver gets from the model: its queries are answered with the tables and these read back, the parameters that it sets are held, and what it
-- plays is counted and shown. Each `Fit` holds of every value of a Rattle struct: each field is a machine number of its width.
-- Assumes nothing.
use Rattle.std.specs.Prelude.{◌≡◌, ℕ, Ok, ◌+◌, ◌-◌, ◌*◌, ◌%◌, ◌^◌, ◌<◌, ◌≤◌, true, List, [], ◌∷◌, ◌++◌, length, take, ◌≢◌, nat_lt, slice_index, slice_index_or, refl}
use Rattle.std.proofs.Common.{sym, ap, ◌∙◌, append-nil, zero-add, arith, lit<, length-append, ext_get_or, get_or-take, get_or-set_same, get_or-set_other, length-take-le, drop_at, le-leb, lt-ltb, eq-eqb}
use Rattle.layout.specs.Lent.{page_size}
use Rattle.layout.specs.Bytes.{le}
use Rattle.layout.specs.Layout.{size, write, read_at, read, Fit}
use Rattle.layout.specs.Rows.{rows_at}
use Rattle.layout.specs.BytesLaws.{length-le}
use Rattle.layout.specs.LayoutLaws.{length-write, read-write}
use Rattle.layout.specs.RowsLaws.{length-rows, rows-at}
use Rattle.codes.specs.Says.{says, pick}
use Rattle.codes.specs.SaysLaws.{picks, passes}
use Rattle.codes.specs.Requests.{request_code}
use Rattle.model.specs.Types.{RequestCode, RJackInfo, RPcmInfo, RPcmSetParams, RChmapInfo, SetParameters, Device}
use Rattle.records.specs.Records.{query, pcm_command, set_parameters, set_parameters_values, jack_info, jack_info_values, pcm_info, pcm_info_values, channel_map, channel_map_values, transfer, transfer_status, jack_info_of, pcm_info_of, channel_map_of}
use Rattle.records.specs.SliceLaws.{read-long}
use Rattle.model.specs.Device.{most_jacks, most_streams, most_maps, within_of, nothing, stream_ok, held_says, params_says, played_says}
use Rattle.model.specs.Control.{given, laid, answering, ok, asked_says, rows_in, table, kept_by, command_of, answer_by, outcome_of, control_of}
use Rattle.model.specs.Transfer.{stream_of, plays, payload_of, played_by, status_by, device_after, status_given, transfer_call}
use Rattle.model.specs.DeviceLaws.{and-passes, few-jacks, few-streams, few-maps}
use Rattle.model.specs.PageLaws.{length-rows_in, row_back}
use Rattle.model.specs.ControlLaws.{asked_by, table-rows, setting-by, outcome-code}

-- ---- the calls, on a page or an answer slice of the right length

pub control-answers : (d : Device) (s page : List ℕ) → length page ≡ page_size → within_of d.counts ≡ true
    → control_of d s page ≡ given (record { device = (outcome_of s d).device; said = Ok (length (outcome_of s d).bytes) }) (laid (outcome_of s d).bytes page)
unfolding control_of answering
control-answers d s page h w = sym (passes _ _ _ (eq-eqb (length page) page_size h) (passes _ _ _ w refl))

pub transfer-answers : (d : Device) (s answer : List ℕ) → size transfer_status ≤ length answer → within_of d.counts ≡ true → transfer_call d s answer ≡ status_given (device_after d s) (status_by d s) answer
unfolding transfer_call
transfer-answers d s answer h w = sym (passes _ _ _ (le-leb (size transfer_status) (length answer) h) (passes _ _ _ w refl))

-- ---- requests as they are sent

read-sent : (ws vs : List ℕ) → Fit ws vs → read ws (write ws vs) ≡ vs
read-sent ws vs f = ap (read ws) (sym (append-nil (write ws vs))) ∙ read-write ws vs [] f

-- a query of n records from 0 on
abbrev pub asks : ℕ → ℕ → ℕ → List ℕ
asks code n size = write query (code ∷ 0 ∷ n ∷ size ∷ [])

-- ---- THE TABLES: the answer to a query of a whole table, and its records

-- of a table of n records of A with layout ws, the request c, and the device d
pub record Answers {A : Type 0} (c : RequestCode) (ws : List ℕ) (values : A → List ℕ) (of : List ℕ → A) (n : ℕ) (rows : List A) (d : Device) : Type 0 where
  pub answer : outcome_of (asks (request_code c) n (size ws)) d ≡ record { device = d; bytes = rows_in (λ (x : A). write ws (values x)) 0 n rows }
  pub long : length (rows_in (λ (x : A). write ws (values x)) 0 n rows) ≡ 4 + n * size ws
  pub fits : 4 + n * size ws ≤ page_size
  -- record i stands at 4 + i × size, whatever follows the answer
  pub at : (i : ℕ) (z : A) (rest : List ℕ) → i < n → Fit ws (values (slice_index_or rows i z)) → of (read_at (4 + i * size ws) ws (rows_in (λ (x : A). write ws (values x)) 0 n rows ++ rest)) ≡ slice_index_or rows i z
  -- all of them
  pub back : (z : A) (rest : List ℕ) → ((i : ℕ) → i < n → Fit ws (values (slice_index_or rows i z)))
      → rows_at (λ (o : ℕ) (s : List ℕ). of (read_at o ws s)) (size ws) 4 n (rows_in (λ (x : A). write ws (values x)) 0 n rows ++ rest) ≡ take n rows

module _ {A : Type 0} (c : RequestCode) (ws : List ℕ) (values : A → List ℕ) (of : List ℕ → A) (n : ℕ) (rows : List A) (d : Device) where
  asked-whole : ((s : List ℕ) → answer_by c s d ≡ table (λ (x : A). write ws (values x)) s (size ws) n rows d) → Fit query (request_code c ∷ 0 ∷ n ∷ size ws ∷ [])
      → outcome_of (asks (request_code c) n (size ws)) d ≡ record { device = d; bytes = rows_in (λ (x : A). write ws (values x)) 0 n rows }
  asked-whole by f =
      let g : A → List ℕ = λ x. write ws (values x) in
      let vs = request_code c ∷ 0 ∷ n ∷ size ws ∷ [] in
      let s = write query vs in
      let l : length s ≡ size query = length-write query vs in
      let r = read-sent query vs f in
      let q : asked_says s (size ws) n ≡ says 0 (0 ∷ n ∷ []) =
      asked_by s (size ws) n (record { code = request_code c; start = 0; count = n; size = size ws }) l (sym (read-long query s (omega arith) ∙ ap (says 0) r))
      ∙ picks _ _ _ (and-passes _ _ (eq-eqb (size ws) (size ws) refl) ∙ le-leb (0 + n) n (omega arith)) in
      outcome-code s d c (omega arith) (ap (λ (k : List ℕ). slice_index k 0) r) ∙ by s ∙ table-rows s (size ws) n g rows d 0 n (sym q)

  module _ (leads : (x : A) → of (values x) ≡ x) (h : n ≤ length rows) where
    record-at : (i : ℕ) (z : A) (rest : List ℕ) → i < n → Fit ws (values (slice_index_or rows i z)) → of (read_at (4 + i * size ws) ws (rows_in (λ (x : A). write ws (values x)) 0 n rows ++ rest)) ≡ slice_index_or rows i z
    record-at i z rest k f =
        let e = zero-add i in
        ap of (row_back ws values rows 0 n (omega arith) i z rest k (rw e f) ∙ ap (λ (j : ℕ). values (slice_index_or rows j z)) e) ∙ leads (slice_index_or rows i z)

    answers : outcome_of (asks (request_code c) n (size ws)) d ≡ record { device = d; bytes = rows_in (λ (x : A). write ws (values x)) 0 n rows } → 4 + n * size ws ≤ page_size → Answers c ws values of n rows d
    answers e m =
        record {
          answer = e;
          long = length-rows_in ws values rows 0 n (omega arith);
          fits = m;
          at = record-at;
          back = λ z rest f.
              let s = rows_in (λ (x : A). write ws (values x)) 0 n rows ++ rest in
              let one : ℕ → List ℕ → A = λ o t. of (read_at o ws t) in
              let l : length (rows_at one (size ws) 4 n s) ≡ n = length-rows one (size ws) 4 n s in
              ext_get_or z (rows_at one (size ws) 4 n s) (take n rows) (l ∙ sym (length-take-le n rows h))
              (λ i k.
              let j : i < n = rw l at k in
              rows-at one (size ws) 4 n i s z j ∙ record-at i z rest j (f i j) ∙ sym (get_or-take n rows i z j));
        }

module _ (d : Device) (w : within_of d.counts ≡ true) where
  pub jacks-answers : length d.jacks ≡ most_jacks → Answers RJackInfo jack_info jack_info_values jack_info_of d.counts.jacks d.jacks d
  jacks-answers l =
      let n = d.counts.jacks in
      let h = few-jacks d.counts w in
      answers RJackInfo jack_info jack_info_values jack_info_of n d.jacks d (λ x. refl) (omega arith)
      (asked-whole RJackInfo jack_info jack_info_values jack_info_of n d.jacks d (λ s. refl) (lit< tt, (lit< tt, (omega arith, (lit< tt, tt)))))
      (omega arith)

  pub pcms-answers : length d.pcms ≡ most_streams → Answers RPcmInfo pcm_info pcm_info_values pcm_info_of d.counts.streams d.pcms d
  pcms-answers l =
      let n = d.counts.streams in
      let h = few-streams d.counts w in
      answers RPcmInfo pcm_info pcm_info_values pcm_info_of n d.pcms d (λ x. refl) (omega arith)
      (asked-whole RPcmInfo pcm_info pcm_info_values pcm_info_of n d.pcms d (λ s. refl) (lit< tt, (lit< tt, (omega arith, (lit< tt, tt)))))
      (omega arith)

  pub maps-answers : length d.maps ≡ most_maps → Answers RChmapInfo channel_map channel_map_values channel_map_of d.counts.maps d.maps d
  maps-answers l =
      let n = d.counts.maps in
      let h = few-maps d.counts w in
      answers RChmapInfo channel_map channel_map_values channel_map_of n d.maps d (λ x. refl) (omega arith)
      (asked-whole RChmapInfo channel_map channel_map_values channel_map_of n d.maps d (λ s. refl) (lit< tt, (lit< tt, (omega arith, (lit< tt, tt)))))
      (omega arith)

-- ---- parameters

pub setting-answer : (d : Device) (p : SetParameters) → Fit set_parameters (set_parameters_values p) → p.code ≡ 0x0101 → p.stream < d.counts.streams
    → outcome_of (write set_parameters (set_parameters_values p)) d ≡ ok (kept_by d p.stream (record { known = 1; set = p }))
setting-answer d p f e h =
    let s = write set_parameters (set_parameters_values p) in
    let l : length s ≡ size set_parameters = length-write set_parameters (set_parameters_values p) in
    let r = read-sent set_parameters (set_parameters_values p) f in
    outcome-code s d RPcmSetParams (omega arith) (ap (λ (k : List ℕ). slice_index k 0) r ∙ e)
    ∙ setting-by s d p l (sym (read-long set_parameters s (omega arith) ∙ ap (says 0) r))
    ∙ picks _ _ _ (lt-ltb p.stream d.counts.streams h)

module _ (d : Device) (i : ℕ) (p : SetParameters) where
  -- they are held, and those of another stream stay
  pub setting-held : within_of d.counts ≡ true → length d.params ≡ most_streams → i < d.counts.streams → params_says (kept_by d i (record { known = 1; set = p })) i ≡ says 0 (set_parameters_values p)
  setting-held w l h =
      let k = few-streams d.counts w in
      picks _ _ _ (and-passes _ _ w ∙ lt-ltb i d.counts.streams h) ∙ ap held_says (get_or-set_same d.params i (record { known = 1; set = p }) nothing (omega arith))

  pub setting-others : (j : ℕ) → (j ≢ i) → params_says (kept_by d i (record { known = 1; set = p })) j ≡ params_says d j
  setting-others j n = ap (λ x. pick (stream_ok d.counts j) (held_says x) (says 1 [])) (get_or-set_other d.params i j (record { known = 1; set = p }) nothing n)

-- the four commands
pub command-answer : (d : Device) (c : RequestCode) (stream : ℕ) → ((s : List ℕ) → answer_by c s d ≡ command_of s d) → Fit pcm_command (request_code c ∷ stream ∷ [])
    → outcome_of (write pcm_command (request_code c ∷ stream ∷ [])) d ≡ ok d
command-answer d c stream by f =
    let vs = request_code c ∷ stream ∷ [] in
    let s = write pcm_command vs in
    let l : length s ≡ size pcm_command = length-write pcm_command vs in
    outcome-code s d c (omega arith) (ap (λ (k : List ℕ). slice_index k 0) (read-sent pcm_command vs f)) ∙ by s ∙ picks _ _ _ (eq-eqb (length s) (size pcm_command) l)

-- ---- a transfer: the stream id, then the payload

module _ (d : Device) (stream : ℕ) (payload : List ℕ) (fits : stream < 256 ^ 4) (h : stream < d.counts.streams) where
  sent : length (le 4 stream ++ payload) ≡ 4 + length payload
  sent = length-append (le 4 stream) payload ∙ ap (λ (n : ℕ). n + length payload) (length-le 4 stream)

  names : stream_of (le 4 stream ++ payload) ≡ stream
  names = ap (λ (k : List ℕ). slice_index k 0) (ap (λ (b : List ℕ). read transfer (b ++ payload)) (sym (append-nil (le 4 stream))) ∙ read-write transfer (stream ∷ []) payload (fits, tt))

  pub it-plays : plays d.counts (le 4 stream ++ payload) ≡ true
  it-plays = let n = sent in and-passes _ _ (le-leb 4 (length (le 4 stream ++ payload)) (omega arith)) ∙ ap (λ (i : ℕ). nat_lt i d.counts.streams) names ∙ lt-ltb stream d.counts.streams h

  pub played-ok : status_by d (le 4 stream ++ payload) ≡ 0x8000
  played-ok = picks _ _ _ it-plays

  pub payload-shown : payload_of d (le 4 stream ++ payload) ≡ payload
  payload-shown = picks _ _ _ it-plays ∙ drop_at (le 4 stream) payload 4 (length-le 4 stream)

  pub played-after : device_after d (le 4 stream ++ payload) ≡ played_by d stream (length payload)
  played-after =
      let n : length (le 4 stream ++ payload) - 4 ≡ length payload = omega (arith, sent) in
      picks _ _ _ it-plays ∙ (λ i. played_by d (names i) (n i))

  -- the count grows by the payload's length, modulo 2^64
  pub played-count : within_of d.counts ≡ true → length d.played ≡ most_streams
      → played_says (device_after d (le 4 stream ++ payload)) stream ≡ says 0 ((slice_index d.played stream + length payload) % 2 ^ 64 ∷ [])
  played-count w l =
      let k = few-streams d.counts w in
      let v = (slice_index d.played stream + length payload) % 2 ^ 64 in
      ap (λ (x : Device). played_says x stream) played-after
      ∙ picks _ _ _ (and-passes _ _ w ∙ lt-ltb stream d.counts.streams h)
      ∙ ap (λ (x : ℕ). says 0 (x ∷ [])) (get_or-set_same d.played stream v 0 (omega arith))
