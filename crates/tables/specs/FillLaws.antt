-- Filling bytes is filling the decoded table: the laws of `copied_in`, over place, record size and reader, and the three tables of the flat store.
-- Assumes nothing.
use Rattle.std.specs.Prelude.{◌≡◌, refl, Bool, true, false, ◌&&◌, List, ℕ, ◌+◌, ◌*◌, ◌≤◌, ◌<◌, length, drop, get_or}
use Rattle.std.proofs.Common.{sym, ap, ◌∙◌, mul-le-mul_right, arith, le-leb}
use Rattle.std.proofs.Math.Dec.{leb}
use Rattle.std.proofs.Math.ListN.{get_or-append}
use Rattle.std.proofs.lemmas.List.Edits.{sets}
use Rattle.std.proofs.Math.Seq.{length-sets}
use Rattle.layout.specs.Bytes.{bytes_at}
use Rattle.layout.specs.Rows.{rows_at}
use Rattle.layout.specs.BytesLaws.{length-bytes_at}
use Rattle.layout.specs.StoreLaws.{bytes_at-after, bytes_at-before}
use Rattle.layout.specs.RowsLaws.{length-rows, rows-at, rows_alike}
use Rattle.layout.specs.TableLaws.{rows-copied}
use Rattle.codes.specs.Says.{pick}
use Rattle.tables.specs.Tables.{fits, filled, refilled, jack_at, pcm_at, map_at, jacks_place, pcms_place, maps_place, tables_bytes, jacks_in, pcms_in, maps_in, copied_in}
use Rattle.tables.specs.TablesLaws.{fits-facts, jack-own, pcm-own, map-own}

-- ---- the three ways of the code

module _ (o bytes n : ℕ) (page t : List ℕ) where
  abbrev v : List ℕ
  v = bytes_at 4 (n * bytes) page

  chosen : (a b : Bool) → fits page n bytes ≡ a → leb (o + n * bytes) (length t) ≡ b → copied_in o bytes n page t ≡ pick (a && b) (sets t o v) t
  unfolding copied_in
  chosen a b e h = λ i. pick (e i && h i) (sets t o v) t

  pub copied-unheld : fits page n bytes ≡ false → t ≡ copied_in o bytes n page t
  copied-unheld e = sym (chosen false _ e refl)

  pub copied-no-room : fits page n bytes ≡ true → leb (o + n * bytes) (length t) ≡ false → t ≡ copied_in o bytes n page t
  copied-no-room e h = sym (chosen true false e h)

  pub copied_all : {x : List ℕ} → fits page n bytes ≡ true → leb (o + n * bytes) (length t) ≡ true → x ≡ sets t o v → x ≡ copied_in o bytes n page t
  copied_all e h p = p ∙ sym (chosen true true e h)

  -- ---- what a fill leaves

  length-by : (b : Bool) → length (pick b (sets t o v) t) ≡ length t
  length-by true = length-sets t o v
  length-by false = refl

  pub copied-length : length (copied_in o bytes n page t) ≡ length t
  unfolding copied_in
  copied-length = length-by (fits page n bytes && leb (o + n * bytes) (length t))

  before-by : (b : Bool) (p c : ℕ) → p + c ≤ o → bytes_at p c (pick b (sets t o v) t) ≡ bytes_at p c t
  before-by true p c h = bytes_at-before v t o p c h
  before-by false p c h = refl

  -- the bytes before the table
  pub copied-before : (p c : ℕ) → p + c ≤ o → bytes_at p c (copied_in o bytes n page t) ≡ bytes_at p c t
  unfolding copied_in
  copied-before = before-by (fits page n bytes && leb (o + n * bytes) (length t))

  module _ (m : ℕ) (few : fits page n bytes ≡ true → n ≤ m) where
    after-by : (a b : Bool) → (a ≡ true → n ≤ m) → (p c : ℕ) → o + m * bytes ≤ p → bytes_at p c (pick (a && b) (sets t o v) t) ≡ bytes_at p c t
    after-by true true f p c h = bytes_at-after v t o p c (omega (arith, length-bytes_at 4 (n * bytes) page, mul-le-mul_right bytes (f refl)))
    after-by true false f p c h = refl
    after-by false b f p c h = refl

    -- and those past it
    pub copied-after : (p c : ℕ) → o + m * bytes ≤ p → bytes_at p c (copied_in o bytes n page t) ≡ bytes_at p c t
    unfolding copied_in
    copied-after = after-by (fits page n bytes) (leb (o + n * bytes) (length t)) few

    module _ {A : Type 0} (f : ℕ → List ℕ → A) (own : (o : ℕ) (s : List ℕ) → f o s ≡ f 0 (bytes_at o bytes s)) (room : o + m * bytes ≤ length t) where
      filled-by : (a : Bool) → (a ≡ true → n ≤ m) → rows_at f bytes o m (pick (a && leb (o + n * bytes) (length t)) (sets t o v) t) ≡ pick a (filled f bytes page n (rows_at f bytes o m t)) (rows_at f bytes o m t)
      filled-by true h =
          ap (λ (b : Bool). rows_at f bytes o m (pick b (sets t o v) t)) (le-leb (o + n * bytes) (length t) (omega (arith, mul-le-mul_right bytes (h refl))))
          ∙ rows-copied f bytes own o m n 4 t page (h refl) room
      filled-by false h = refl

      -- THE TABLE ITSELF, decoded, is the decoded table filled from the page
      pub copied-rows : rows_at f bytes o m (copied_in o bytes n page t) ≡ refilled f bytes page n (rows_at f bytes o m t)
      unfolding copied_in
      copied-rows = filled-by (fits page n bytes) few

-- of a filled table record i is the page's, at 4 + i × size
pub filled_at : {A : Type 0} (f : ℕ → List ℕ → A) (size : ℕ) (page : List ℕ) (n : ℕ) (old : List A) (i : ℕ) (d : A) → i < n → get_or (filled f size page n old) i d ≡ f (4 + i * size) page
filled_at f size page n old i d h =
    let l : length (rows_at f size 4 n page) ≡ n = length-rows f size 4 n page in
    get_or-append (rows_at f size 4 n page) (drop n old) d i (omega arith) ∙ rows-at f size 4 n i page d h

-- ---- the three tables: one is filled, the other two are as they were

module _ (n : ℕ) (page t : List ℕ) where
  -- a page holds no more records than their table
  few-24 : fits page n 24 ≡ true → n ≤ 170
  few-24 g = omega (arith, fits-facts page n 24 g)

  few-32 : fits page n 32 ≡ true → n ≤ 127
  few-32 g = omega (arith, fits-facts page n 32 g)

  pub jacks-filled : length t ≡ tables_bytes → jacks_in (copied_in jacks_place 24 n page t) ≡ refilled jack_at 24 page n (jacks_in t)
  jacks-filled l = copied-rows jacks_place 24 n page t 170 few-24 jack_at jack-own (omega arith)

  pub jacks-leave-pcms : pcms_in (copied_in jacks_place 24 n page t) ≡ pcms_in t
  jacks-leave-pcms = rows_alike pcm_at 32 pcm-own pcms_place pcms_place 127 (copied_in jacks_place 24 n page t) t (copied-after jacks_place 24 n page t 170 few-24 pcms_place 4064 (omega arith))

  pub jacks-leave-maps : maps_in (copied_in jacks_place 24 n page t) ≡ maps_in t
  jacks-leave-maps = rows_alike map_at 24 map-own maps_place maps_place 170 (copied_in jacks_place 24 n page t) t (copied-after jacks_place 24 n page t 170 few-24 maps_place 4080 (omega arith))

  pub pcms-leave-jacks : jacks_in (copied_in pcms_place 32 n page t) ≡ jacks_in t
  pcms-leave-jacks = rows_alike jack_at 24 jack-own jacks_place jacks_place 170 (copied_in pcms_place 32 n page t) t (copied-before pcms_place 32 n page t jacks_place 4080 (omega arith))

  pub pcms-filled : length t ≡ tables_bytes → pcms_in (copied_in pcms_place 32 n page t) ≡ refilled pcm_at 32 page n (pcms_in t)
  pcms-filled l = copied-rows pcms_place 32 n page t 127 few-32 pcm_at pcm-own (omega arith)

  pub pcms-leave-maps : maps_in (copied_in pcms_place 32 n page t) ≡ maps_in t
  pcms-leave-maps = rows_alike map_at 24 map-own maps_place maps_place 170 (copied_in pcms_place 32 n page t) t (copied-after pcms_place 32 n page t 127 few-32 maps_place 4080 (omega arith))

  pub maps-leave-jacks : jacks_in (copied_in maps_place 24 n page t) ≡ jacks_in t
  maps-leave-jacks = rows_alike jack_at 24 jack-own jacks_place jacks_place 170 (copied_in maps_place 24 n page t) t (copied-before maps_place 24 n page t jacks_place 4080 (omega arith))

  pub maps-leave-pcms : pcms_in (copied_in maps_place 24 n page t) ≡ pcms_in t
  maps-leave-pcms = rows_alike pcm_at 32 pcm-own pcms_place pcms_place 127 (copied_in maps_place 24 n page t) t (copied-before maps_place 24 n page t pcms_place 4064 (omega arith))

  pub maps-filled : length t ≡ tables_bytes → maps_in (copied_in maps_place 24 n page t) ≡ refilled map_at 24 page n (maps_in t)
  maps-filled l = copied-rows maps_place 24 n page t 170 few-24 map_at map-own (omega arith)
