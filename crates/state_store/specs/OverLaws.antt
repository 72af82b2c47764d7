-- A state written over the store that it was read from: what it has in common with the store is not stored again.
-- Assumes nothing.
use Rattle.std.specs.Prelude.{◌≡◌, ℕ, ◌+◌, ◌*◌, List, [], ◌∷◌, ◌++◌, length}
use Rattle.std.proofs.Common.{sym, ap, ◌∙◌, arith}
use Rattle.std.proofs.Math.Numerals.{towards_numerals}
use Rattle.std.proofs.lemmas.List.Edits.{sets}
use Rattle.layout.specs.Bytes.{bytes_at, Bytes}
use Rattle.layout.specs.Layout.{write}
use Rattle.layout.specs.Rows.{rows_bytes}
use Rattle.layout.specs.BytesLaws.{length-bytes_at}
use Rattle.layout.specs.LayoutLaws.{length-write, write_read}
use Rattle.layout.specs.StoreLaws.{sets_then}
use Rattle.layout.specs.RowsLaws.{length-rows, length-rows_bytes}
use Rattle.tables.specs.Tables.{tables_bytes}
use Rattle.exchange.specs.Tables.{sound_after}
use Rattle.state_store.specs.Types.{Params, Core, Sound, Token, Nothing}
use Rattle.state_store.specs.Places.{head_size, params_place, lives_place, tokens_place}
use Rattle.state_store.specs.Store.{head_row, head_values, head_of, params_row, params_bytes, params_at, life_row, life_bytes, life_at, token_row, token_bytes, token_in, sound_of, sound_bytes}
use Rattle.state_store.specs.TableLaws.{Alike, alike_self, alike-on, alike-after, kept, table_kept}

-- ---- of each record: its size, and that what was read, written again, is the bytes that stand there

pub params-sized : (p : Params) → length (params_bytes p) ≡ 16
params-sized p = length-write params_row (p.known ∷ p.channels ∷ p.format ∷ p.rate ∷ p.buffer ∷ p.period ∷ p.features ∷ [])

pub life-sized : (l : ℕ) → length (life_bytes l) ≡ 1
life-sized l = length-write life_row (l ∷ [])

pub token-sized : (t : Token) → length (token_bytes t) ≡ 8
token-sized t = length-write token_row (t.state ∷ t.status ∷ [])

pub params_same : (o : ℕ) (s : List ℕ) → Bytes s → params_bytes (params_at o s) ≡ bytes_at o 16 s
unfolding params_at
params_same o s b = simp towards_numerals at (write_read o params_row s b)

pub life-same : (o : ℕ) (s : List ℕ) → Bytes s → life_bytes (life_at o s) ≡ bytes_at o 1 s
unfolding life_at
life-same o s b = write_read o life_row s b

pub token-same : (o : ℕ) (s : List ℕ) → Bytes s → token_bytes (token_in o s) ≡ bytes_at o 8 s
unfolding token_in
token-same o s b = write_read o token_row s b

-- ---- the core

abbrev pub head_bytes : Core → List ℕ
head_bytes c = write head_row (head_values (head_of c))

pub head-sized : (c : Core) → length (head_bytes c) ≡ head_size
head-sized c = length-write head_row (head_values (head_of c))

-- a store with the core new, from the tables on
pub head-alike : (s : List ℕ) (c : Core) → Alike head_size (sets s 0 (head_bytes c)) s
head-alike s c = alike-after 0 0 head_size s s (head_bytes c) (alike_self 0 s) (omega arith) (omega (arith, head-sized c))

-- ---- a state with parts of the right lengths is written core first, then each part at its place

pub record Sized (x : Sound) : Type 0 where
  pub tables : length x.tables ≡ tables_bytes
  pub params : length x.params ≡ 127
  pub lives : length x.lives ≡ 127

pub tables-apart : (s : List ℕ) (x : Sound) → Sized x
    → sets s 0 (sound_bytes x) ≡ sets (sets (sets (sets (sets s 0 (head_bytes x.core)) head_size x.tables) params_place (rows_bytes params_bytes x.params)) lives_place (rows_bytes life_bytes x.lives)) tokens_place (rows_bytes token_bytes x.pending.tokens)
unfolding sound_bytes
tables-apart s x z =
    let h = head_bytes x.core in
    let t = x.tables in
    let q = rows_bytes params_bytes x.params in
    let v = rows_bytes life_bytes x.lives in
    let w = rows_bytes token_bytes x.pending.tokens in
    let lq : length q ≡ 2032 = length-rows_bytes params_bytes 16 params-sized x.params ∙ ap (λ (k : ℕ). k * 16) z.params in
    let lv : length v ≡ 127 = length-rows_bytes life_bytes 1 life-sized x.lives ∙ ap (λ (k : ℕ). k * 1) z.lives in
    let u = sets s 0 h in
    sym
    (sets_then (sets (sets u head_size t) params_place q) lives_place tokens_place v w (sym (ap (λ (k : ℕ). lives_place + k) lv))
    ∙ sets_then (sets u head_size t) params_place lives_place q (v ++ w) (sym (ap (λ (k : ℕ). params_place + k) lq))
    ∙ sets_then u head_size params_place t (q ++ (v ++ w)) (sym (ap (λ (k : ℕ). head_size + k) z.tables))
    ∙ sets_then s 0 head_size h (t ++ (q ++ (v ++ w))) (sym (ap (λ (k : ℕ). 0 + k) (head-sized x.core))))

pub sized_of : (s : List ℕ) (c : Core) → Sized (sound_after Nothing c (sound_of s) [])
unfolding sound_of
sized_of s c = record { tables = length-bytes_at head_size tables_bytes s; params = length-rows params_at 16 params_place 127 s; lives = length-rows life_at 1 lives_place 127 s }

-- ---- each part of the store as it was, and all from one place on

abbrev pub params_in : List ℕ → List ℕ
params_in s = rows_bytes params_bytes (sound_of s).params

abbrev pub lives_in : List ℕ → List ℕ
lives_in s = rows_bytes life_bytes (sound_of s).lives

abbrev pub tokens_in : List ℕ → List ℕ
tokens_in s = rows_bytes token_bytes (sound_of s).pending.tokens

-- the lifecycles and the tokens of s, stored in u
abbrev pub ends : List ℕ → List ℕ → List ℕ
ends s u = sets (sets u lives_place (lives_in s)) tokens_place (tokens_in s)

module _ (s : List ℕ) (b : Bytes s) (u : List ℕ) where
  pub tables-kept : Alike head_size u s → sets u head_size (sound_of s).tables ≡ u
  unfolding sound_of
  tables-kept = kept head_size tables_bytes u s

  pub params-kept : Alike params_place u s → sets u params_place (params_in s) ≡ u
  unfolding sound_of
  params-kept = table_kept params_at params_bytes 16 params_same params_place 127 u s b

  pub lives-kept : Alike lives_place u s → sets u lives_place (lives_in s) ≡ u
  unfolding sound_of
  lives-kept = table_kept life_at life_bytes 1 life-same lives_place 127 u s b

  pub tokens-kept : Alike tokens_place u s → sets u tokens_place (tokens_in s) ≡ u
  unfolding sound_of
  tokens-kept = table_kept token_in token_bytes 8 token-same tokens_place 32 u s b

  pub kept-from-lives : Alike lives_place u s → ends s u ≡ u
  kept-from-lives a =
      ap (λ (l : List ℕ). sets l tokens_place (tokens_in s)) (lives-kept a)
      ∙ tokens-kept (alike-on lives_place tokens_place u s a (omega arith))

  pub kept-from-params : Alike params_place u s → ends s (sets u params_place (params_in s)) ≡ u
  kept-from-params a =
      ap (ends s) (params-kept a)
      ∙ kept-from-lives (alike-on params_place lives_place u s a (omega arith))

  pub kept-from-tables : Alike head_size u s → ends s (sets (sets u head_size (sound_of s).tables) params_place (params_in s)) ≡ u
  kept-from-tables a =
      ap (λ (l : List ℕ). ends s (sets l params_place (params_in s))) (tables-kept a)
      ∙ kept-from-params (alike-on head_size params_place u s a (omega arith))

-- THE CORE ALONE: its 64 bytes, stored, leave the state with that core and with the tables as they were
pub core-over : (s : List ℕ) (c : Core) → Bytes s → sets s 0 (write head_row (head_values (head_of c))) ≡ sets s 0 (sound_bytes (sound_after Nothing c (sound_of s) []))
core-over s c b = sym (tables-apart s (sound_after Nothing c (sound_of s) []) (sized_of s c) ∙ kept-from-tables s b (sets s 0 (head_bytes c)) (head-alike s c))
