-- The effect on the bytes, after the core was stored, leaves the state that the effect by value leaves.
-- Assumes nothing.
use Rattle.std.specs.Prelude.{◌≡◌, ℕ, ◌+◌, ◌*◌, ◌<◌, ◌≤◌, Bool, true, false, ◌&&◌, List, [], ◌∷◌, length, nat_le, nat_lt, slice_set, refl}
use Rattle.std.proofs.Common.{sym, ◌∙◌, append-nil, arith, mul-le-mul_right, mul-one, ltb-true, ltb-false, lt-ltb, le-ltb, le-leb}
use Rattle.std.proofs.Math.Path.{ap}
use Rattle.std.proofs.Math.Numerals.{towards_numerals}
use Rattle.std.proofs.Math.ListN.{length-set}
use Rattle.std.proofs.Math.Seq.{sets, set_out, length-sets}
use Rattle.layout.specs.Bytes.{le, bytes_at, Bytes}
use Rattle.layout.specs.Layout.{write}
use Rattle.layout.specs.Rows.{rows_bytes}
use Rattle.layout.specs.BytesLaws.{length-bytes_at}
use Rattle.layout.specs.RowsLaws.{length-rows}
use Rattle.layout.specs.ChainLaws.{Stored, stored}
use Rattle.codes.specs.Says.{pick}
use Rattle.codes.specs.SaysLaws.{picks, skips}
use Rattle.tables.specs.Tables.{fits, jacks_place, pcms_place, maps_place, tables_bytes, copied_in}
use Rattle.tables.specs.TablesLaws.{fits-facts}
use Rattle.tables.specs.FillLaws.{copied-length, copied-after}
use Rattle.exchange.specs.Tables.{moved, sound_after}
use Rattle.state_store.specs.Types.{Core, Params, Sound, Effect, Nothing, FillJacks, FillStreams, FillMaps, Store, Move}
use Rattle.state_store.specs.Places.{head_size, params_place, lives_place, tokens_place, state_size}
use Rattle.state_store.specs.Store.{head_row, head_values, head_of, params_row, params_bytes, params_at, life_bytes, life_at, sound_of, sound_bytes}
use Rattle.state_store.specs.TableLaws.{Alike, alike-on, alike-after, kept, part-stored, table-set}
use Rattle.state_store.specs.OverLaws.{head_bytes, head-alike, Sized, sized_of, tables-apart, params_in, tokens_in, ends, params_same, life-same, params-sized, life-sized, tables-kept, params-kept, lives-kept, tokens-kept, kept-from-params, core-over}
use Rattle.state_store.specs.Effect.{lived_in, effect_in}

-- ---- parameters, stored field by field

pub params-stored : (s s₁ s₂ s₃ s₄ s₅ s₆ s₇ : List ℕ) (o : ℕ) (p : Params)
    → s₁ ≡ sets s o (le 1 p.known) → s₂ ≡ sets s₁ (o + 1) (le 1 p.channels) → s₃ ≡ sets s₂ (o + 2) (le 1 p.format) → s₄ ≡ sets s₃ (o + 3) (le 1 p.rate)
    → s₅ ≡ sets s₄ (o + 4) (le 4 p.buffer) → s₆ ≡ sets s₅ (o + 8) (le 4 p.period) → s₇ ≡ sets s₆ (o + 12) (le 4 p.features) → s₇ ≡ sets s o (params_bytes p)
params-stored s s₁ s₂ s₃ s₄ s₅ s₆ s₇ o p e₁ e₂ e₃ e₄ e₅ e₆ e₇ =
    stored s₇ s o params_row (p.known ∷ p.channels ∷ p.format ∷ p.rate ∷ p.buffer ∷ p.period ∷ p.features ∷ [])
    (Stored.put e₁
    (Stored.put {m = s₂} e₂
    (Stored.put {m = s₃} (simp towards_numerals e₃)
    (Stored.put {m = s₄} (simp towards_numerals e₄)
    (Stored.put {m = s₅} (simp towards_numerals e₅)
    (Stored.put {m = s₆} (simp towards_numerals e₆)
    (Stored.put {m = s₇} (simp towards_numerals e₇) Stored.end)))))))

-- ---- a table that is filled from a page, over its place and its records' size

module _ (o bytes m n : ℕ) (page u s : List ℕ) (a : Alike head_size u s) (long : state_size ≤ length u) (room : o + m * bytes ≤ tables_bytes) (few : fits page n bytes ≡ true → n ≤ m) where
  -- in the tables of the store, or in the store itself
  tables-filled : sets u head_size (copied_in o bytes n page (bytes_at head_size tables_bytes s)) ≡ copied_in (head_size + o) bytes n page u
  unfolding copied_in
  tables-filled = by (fits page n bytes) few
    where
      t : List ℕ
      t = bytes_at head_size tables_bytes s

      v : List ℕ
      v = bytes_at 4 (n * bytes) page

      by : (g : Bool) → (g ≡ true → n ≤ m)
          → sets u head_size (pick (g && nat_le (o + n * bytes) (length t)) (sets t o v) t) ≡ pick (g && nat_le (head_size + o + n * bytes) (length u)) (sets u (head_size + o) v) u
      by true h =
          let q : o + n * bytes ≤ tables_bytes = omega (arith, mul-le-mul_right bytes (h refl)) in
          ap (λ (b : Bool). sets u head_size (pick b (sets t o v) t)) (le-leb (o + n * bytes) (length t) (omega (arith, length-bytes_at head_size tables_bytes s)))
          ∙ part-stored head_size tables_bytes o u s v a (omega (arith, length-bytes_at 4 (n * bytes) page))
          ∙ ap (λ (b : Bool). pick b (sets u (head_size + o) v) u) (sym (le-leb (head_size + o + n * bytes) (length u) (omega arith)))
      by false h = kept head_size tables_bytes u s a

  -- past the tables the store is as it was
  filled-alike : Alike params_place (copied_in (head_size + o) bytes n page u) s
  filled-alike p c h = copied-after (head_size + o) bytes n page u m few p c (omega arith) ∙ a p c (omega arith)

-- ---- where a stream is in its lifecycle: one that there is, under the guard

module _ (guard : Bool) (stream life : ℕ) (s : List ℕ) where
  pub lived-off : guard ≡ false → s ≡ lived_in guard stream life s
  lived-off e = sym (skips guard _ s e)

  pub lived-out : guard ≡ true → 127 ≤ stream → s ≡ lived_in guard stream life s
  lived-out e h = sym (picks guard _ s e ∙ skips (nat_lt stream 127) _ s (le-ltb stream 127 h))

  pub lived-in : {x : List ℕ} → guard ≡ true → stream < 127 → x ≡ sets s (lives_place + stream) (le 1 life) → x ≡ lived_in guard stream life s
  lived-in e h p = p ∙ ap (sets s (lives_place + stream)) (sym (append-nil (le 1 life))) ∙ sym (picks guard _ s e ∙ picks (nat_lt stream 127) _ s (lt-ltb stream 127 h))

-- ---- where a stream is in its lifecycle, over a store that has the lifecycles as they were

lives-alone : (u s : List ℕ) → Bytes s → Alike lives_place u s → (guard : Bool) (stream life : ℕ) → sets u lives_place (rows_bytes life_bytes (moved guard (sound_of s).lives stream life)) ≡ lived_in guard stream life u
unfolding sound_of
lives-alone u s b a false stream life = lives-kept s b u a
lives-alone u s b a true stream life = by (nat_lt stream 127) (ltb-true stream 127) (ltb-false stream 127)
  where
    by : (t : Bool) → (t ≡ true → stream < 127) → (t ≡ false → 127 ≤ stream)
        → sets u lives_place (rows_bytes life_bytes (slice_set (sound_of s).lives stream life)) ≡ pick t (sets u (lives_place + stream) (life_bytes life)) u
    by true h k =
        table-set life_at life_bytes 1 life-same lives_place 127 u s b a stream life (life-sized life) (h refl)
        ∙ ap (λ (n : ℕ). sets u (lives_place + n) (life_bytes life)) (mul-one stream)
    by false h k =
        ap (λ (l : List ℕ). sets u lives_place (rows_bytes life_bytes l)) (set_out (sound_of s).lives stream life (omega (arith, k refl, length-rows life_at 1 lives_place 127 s)))
        ∙ lives-kept s b u a

moved_length : (guard : Bool) (lives : List ℕ) (stream life : ℕ) → length (moved guard lives stream life) ≡ length lives
moved_length true lives stream life = length-set lives stream life
moved_length false lives stream life = refl

-- past the lifecycles the store is as it was
lived-alike : (u s : List ℕ) → Alike lives_place u s → (guard : Bool) (stream life : ℕ) → Alike tokens_place (lived_in guard stream life u) s
lived-alike u s a false stream life = alike-on lives_place tokens_place u s a (omega arith)
lived-alike u s a true stream life = by (nat_lt stream 127) (ltb-true stream 127)
  where
    by : (t : Bool) → (t ≡ true → stream < 127) → Alike tokens_place (pick t (sets u (lives_place + stream) (life_bytes life)) u) s
    by true h = alike-after lives_place (lives_place + stream) tokens_place u s (life_bytes life) a (omega arith) (omega (arith, life-sized life, h refl))
    by false h = alike-on lives_place tokens_place u s a (omega arith)

lives-over : (u s : List ℕ) → Bytes s → Alike lives_place u s → (guard : Bool) (stream life : ℕ)
    → sets (sets u lives_place (rows_bytes life_bytes (moved guard (sound_of s).lives stream life))) tokens_place (tokens_in s) ≡ lived_in guard stream life u
lives-over u s b a guard stream life =
    ap (λ (l : List ℕ). sets l tokens_place (tokens_in s)) (lives-alone u s b a guard stream life)
    ∙ tokens-kept s b (lived_in guard stream life u) (lived-alike u s a guard stream life)

-- ---- THE LAW, for each effect

module _ (s page : List ℕ) (c : Core) (b : Bytes s) (p : Bytes page) where
  abbrev store : List ℕ
  store = sets s 0 (head_bytes c)

  -- a page holds no more records than their table
  few-24 : (n : ℕ) → fits page n 24 ≡ true → n ≤ 170
  few-24 n g = omega (arith, fits-facts page n 24 g)

  few-32 : (n : ℕ) → fits page n 32 ≡ true → n ≤ 127
  few-32 n g = omega (arith, fits-facts page n 32 g)

  -- the tables before what changes
  before-params : (m : List ℕ) → sets (sets store head_size (sound_of s).tables) params_place m ≡ sets store params_place m
  before-params m = ap (λ (l : List ℕ). sets l params_place m) (tables-kept s b store (head-alike s c))

  fill-over : (o bytes m n : ℕ) → state_size ≤ length s → o + m * bytes ≤ tables_bytes → (fits page n bytes ≡ true → n ≤ m)
      → sets s 0 (sound_bytes (record { core = c; tables = copied_in o bytes n page (sound_of s).tables; params = (sound_of s).params; lives = (sound_of s).lives; pending = (sound_of s).pending }))
      ≡ copied_in (head_size + o) bytes n page store
  unfolding sound_of
  fill-over o bytes m n long room few =
      let z = sized_of s c in
      let k : state_size ≤ length store = omega (arith, length-sets s 0 (head_bytes c)) in
      let x : Sound = record { core = c; tables = copied_in o bytes n page (sound_of s).tables; params = (sound_of s).params; lives = (sound_of s).lives; pending = (sound_of s).pending } in
      tables-apart s x (record { tables = copied-length o bytes n page (sound_of s).tables ∙ z.tables; params = z.params; lives = z.lives })
      ∙ ap (λ (l : List ℕ). ends s (sets l params_place (params_in s))) (tables-filled o bytes m n page store s (head-alike s c) k room few)
      ∙ kept-from-params s b (copied_in (head_size + o) bytes n page store) (filled-alike o bytes m n page store s (head-alike s c) k room few)

  params-over : (stream : ℕ) (to : Params) → sets s 0 (sound_bytes (sound_after (Store stream to) c (sound_of s) page)) ≡ effect_in c.guard (Store stream to) page store
  unfolding sound_of
  params-over stream to =
      tables-apart s (sound_after (Store stream to) c (sound_of s) page) (sized-params (sized_of s c))
      ∙ ap (λ (l : List ℕ). sets (sets l lives_place (rows_bytes life_bytes (moved c.guard (sound_of s).lives stream 0))) tokens_place (tokens_in s))
      (before-params (rows_bytes params_bytes (slice_set (sound_of s).params stream to)) ∙ by (nat_lt stream 127) (ltb-true stream 127) (ltb-false stream 127))
      ∙ lives-over (pick (nat_lt stream 127) (sets store (params_place + stream * 16) (params_bytes to)) store) s b (past (nat_lt stream 127) (ltb-true stream 127)) c.guard stream 0
    where
      sized-params : Sized (sound_after Nothing c (sound_of s) []) → Sized (sound_after (Store stream to) c (sound_of s) page)
      sized-params z = record { tables = z.tables; params = length-set (sound_of s).params stream to ∙ z.params; lives = moved_length c.guard (sound_of s).lives stream 0 ∙ z.lives }

      a : Alike params_place store s
      a = alike-on head_size params_place store s (head-alike s c) (omega arith)

      past : (t : Bool) → (t ≡ true → stream < 127) → Alike lives_place (pick t (sets store (params_place + stream * 16) (params_bytes to)) store) s
      past true h = alike-after params_place (params_place + stream * 16) lives_place store s (params_bytes to) a (omega arith) (omega (arith, params-sized to, h refl))
      past false h = alike-on params_place lives_place store s a (omega arith)

      by : (t : Bool) → (t ≡ true → stream < 127) → (t ≡ false → 127 ≤ stream)
          → sets store params_place (rows_bytes params_bytes (slice_set (sound_of s).params stream to)) ≡ pick t (sets store (params_place + stream * 16) (params_bytes to)) store
      by true h k = table-set params_at params_bytes 16 params_same params_place 127 store s b a stream to (params-sized to) (h refl)
      by false h k =
          ap (λ (l : List Params). sets store params_place (rows_bytes params_bytes l))
          (set_out (sound_of s).params stream to (omega (arith, k refl, length-rows params_at 16 params_place 127 s)))
          ∙ params-kept s b store a

module _ (s page : List ℕ) (c : Core) (b : Bytes s) (p : Bytes page) where
  move-over : (stream life : ℕ) → sets s 0 (sound_bytes (sound_after (Move stream life) c (sound_of s) page)) ≡ effect_in c.guard (Move stream life) page (sets s 0 (head_bytes c))
  move-over stream life =
      let u = sets s 0 (head_bytes c) in
      let z = sized_of s c in
      let a : Alike params_place u s = alike-on head_size params_place u s (head-alike s c) (omega arith) in
      let v = rows_bytes life_bytes (moved c.guard (sound_of s).lives stream life) in
      tables-apart s (sound_after (Move stream life) c (sound_of s) page) (record { tables = z.tables; params = z.params; lives = moved_length c.guard (sound_of s).lives stream life ∙ z.lives })
      ∙ ap (λ (l : List ℕ). sets (sets l lives_place v) tokens_place (tokens_in s)) (before-params s page c b p (params_in s) ∙ params-kept s b u a)
      ∙ lives-over u s b (alike-on params_place lives_place u s a (omega arith)) c.guard stream life

-- THE EFFECT ON THE BYTES is the effect by value: on a store with the plan's core, it leaves the state that `sound_after` says
pub effect-over : (s page : List ℕ) (c : Core) (e : Effect) → Bytes s → Bytes page → state_size ≤ length s
    → effect_in c.guard e page (sets s 0 (write head_row (head_values (head_of c)))) ≡ sets s 0 (sound_bytes (sound_after e c (sound_of s) page))
effect-over s page c Nothing b p l = core-over s c b
effect-over s page c (FillJacks n) b p l = sym (fill-over s page c b p jacks_place 24 170 n l (omega arith) (few-24 s page c b p n))
effect-over s page c (FillStreams n) b p l = sym (fill-over s page c b p pcms_place 32 127 n l (omega arith) (few-32 s page c b p n))
effect-over s page c (FillMaps n) b p l = sym (fill-over s page c b p maps_place 24 170 n l (omega arith) (few-24 s page c b p n))
effect-over s page c (Store stream to) b p l = sym (params-over s page c b p stream to)
effect-over s page c (Move stream life) b p l = sym (move-over s page c b p stream life)
