-- The state that a store holds, and the store that holds a state.
-- Assumes nothing.
use Rattle.std.specs.Prelude.{◌≡◌, ℕ, ◌+◌, ◌*◌, ◌≤◌, true, List, [], ◌∷◌, ◌++◌, length, drop, slice_index, refl}
use Rattle.std.proofs.Common.{sym, ◌∙◌, append_assoc, append-nil, zero-add, add-zero}
use Rattle.std.proofs.Math.Path.{ap}
use Rattle.std.proofs.Math.Numerals.{towards_numerals}
use Rattle.std.proofs.Math.ListN.{length-append}
use Rattle.std.proofs.lemmas.List.Edits.{sets, sets-eq}
use Rattle.layout.specs.Bytes.{bytes_at, Bytes}
use Rattle.layout.specs.Layout.{size, write, read_at, Fit}
use Rattle.layout.specs.BytesLaws.{bytes_at-append, bytes_at-front}
use Rattle.layout.specs.LayoutLaws.{length-write, read-write, write_read, read-own}
use Rattle.layout.specs.Rows.{rows_at, rows_bytes}
use Rattle.layout.specs.RowsLaws.{length-rows_bytes, table-back}
use Rattle.layout.specs.All.{All}
use Rattle.layout.specs.StoreLaws.{sets_same}
use Rattle.tables.specs.Tables.{tables_bytes}
use Rattle.state_store.specs.Places.{head_size, params_place, lives_place, tokens_place, state_size}
use Rattle.state_store.specs.Store.{head_row, head_values, head_from, head_at, head_of, core_of, whole, params_row, params_at, params_bytes, life_row, life_at, life_bytes, token_row, token_in, token_bytes, sound_of, sound_bytes}
use Rattle.state_store.specs.FlatLaws.{core-back, core-same}
use Rattle.state_store.specs.OverLaws.{params-sized, life-sized, token-sized, head_bytes, head-sized, core-over}
use Rattle.state_store.specs.Types.{Params, Sound, Token, Head}

-- ---- WHAT WAS READ, WRITTEN AGAIN, leaves a store that is whole

head-again : (s : List ℕ) → Bytes s → whole s ≡ true → head_bytes (core_of (head_at s)) ≡ bytes_at 0 head_size s
unfolding head_at
head-again s b w = ap (λ (h : Head). write head_row (head_values h)) (core-same (head_at s) w) ∙ write_read 0 head_row s b

pub core_at : (s : List ℕ) → (sound_of s).core ≡ core_of (head_at s)
unfolding sound_of
core_at s = refl

-- its core alone
pub head-kept : (s : List ℕ) → Bytes s → whole s ≡ true → sets s 0 (head_bytes (sound_of s).core) ≡ s
head-kept s b w = ap (sets s 0) (ap head_bytes (core_at s) ∙ head-again s b w) ∙ sets_same s 0 head_size

pub store_same : (s : List ℕ) → Bytes s → whole s ≡ true → sets s 0 (sound_bytes (sound_of s)) ≡ s
store_same s b w =
    sym (core-over s (sound_of s).core b) ∙ head-kept s b w

-- ---- WHAT WAS WRITTEN IS READ BACK

pub head-back : (h : Head) (r : List ℕ) → Fit head_row (head_values h) → head_at (write head_row (head_values h) ++ r) ≡ h
unfolding head_at
head-back h r f = ap head_from (read-write head_row (head_values h) r f)

-- a table, over the layout of its records
abbrev pub AllFit : {A : Type 0} → List ℕ → (A → List ℕ) → List A → Type 0
AllFit {A} ws values = All (λ (x : A). Fit ws (values x))

module _ {A : Type 0} (ws : List ℕ) (values : A → List ℕ) (of : List ℕ → A) (is : (x : A) → of (values x) ≡ x) (f : ℕ → List ℕ → A)
    (reads : (o : ℕ) (s : List ℕ) → f o s ≡ of (read_at o ws s)) where
  abbrev g : A → List ℕ
  g x = write ws (values x)

  own : (o : ℕ) (s : List ℕ) → f o s ≡ f 0 (bytes_at o (size ws) s)
  own o s = reads o s ∙ ap of (read-own o ws s) ∙ sym (reads 0 (bytes_at o (size ws) s))

  sized : (x : A) → length (g x) ≡ size ws
  sized x = length-write ws (values x)

  back : (x : A) → Fit ws (values x) → f 0 (g x) ≡ x
  back x h = reads 0 (g x) ∙ ap of (ap (read_at 0 ws) (sym (append-nil (g x))) ∙ read-write ws (values x) [] h) ∙ is x

  table_of : (a c : List ℕ) (xs : List A) (o n : ℕ) → length a ≡ o → length xs ≡ n → AllFit ws values xs → rows_at f (size ws) o n (a ++ (rows_bytes g xs ++ c)) ≡ xs
  table_of = table-back f g (size ws) own sized (λ (x : A). Fit ws (values x)) back

-- ---- the three tables of rows

abbrev pub params_values : Params → List ℕ
params_values p = p.known ∷ p.channels ∷ p.format ∷ p.rate ∷ p.buffer ∷ p.period ∷ p.features ∷ []

abbrev params_from : List ℕ → Params
params_from vs = record { known = slice_index vs 0; channels = slice_index vs 1; format = slice_index vs 2; rate = slice_index vs 3; buffer = slice_index vs 4; period = slice_index vs 5; features = slice_index vs 6 }

params-reads : (o : ℕ) (s : List ℕ) → params_at o s ≡ params_from (read_at o params_row s)
unfolding params_at
params-reads o s = simp towards_numerals

abbrev pub life_values : ℕ → List ℕ
life_values l = l ∷ []

life-reads : (o : ℕ) (s : List ℕ) → life_at o s ≡ slice_index (read_at o life_row s) 0
unfolding life_at
life-reads o s = refl

abbrev pub token_values : Token → List ℕ
token_values t = t.state ∷ t.status ∷ []

abbrev token_from : List ℕ → Token
token_from vs = record { state = slice_index vs 0; status = slice_index vs 1 }

token-reads : (o : ℕ) (s : List ℕ) → token_in o s ≡ token_from (read_at o token_row s)
unfolding token_in
token-reads o s = refl

-- five runs and what follows, cut before each
module _ (h t q v w : List ℕ) where
  abbrev five : List ℕ
  five = h ++ (t ++ (q ++ (v ++ w)))

  whole-cut : five ≡ (((h ++ t) ++ q) ++ v) ++ w
  whole-cut = simp append_assoc

  module _ (c : List ℕ) where
    first-cut : five ++ c ≡ h ++ (t ++ (q ++ (v ++ (w ++ c))))
    first-cut = simp append_assoc

    second-cut : five ++ c ≡ (h ++ t) ++ (q ++ (v ++ (w ++ c)))
    second-cut = simp append_assoc

    third-cut : five ++ c ≡ ((h ++ t) ++ q) ++ (v ++ (w ++ c))
    third-cut = simp append_assoc

    fourth-cut : five ++ c ≡ (((h ++ t) ++ q) ++ v) ++ (w ++ c)
    fourth-cut = simp append_assoc

-- a state with parts of the right lengths, each number of which fits its width
pub record Fits (x : Sound) : Type 0 where
  pub core : Fit head_row (head_values (head_of x.core))
  pub params : AllFit params_row params_values x.params
  pub lives : AllFit life_row life_values x.lives
  pub tokens : AllFit token_row token_values x.pending.tokens
  pub tables-12224 : length x.tables ≡ tables_bytes
  pub params-127 : length x.params ≡ 127
  pub lives-127 : length x.lives ≡ 127
  pub tokens-32 : length x.pending.tokens ≡ 32

module _ (x : Sound) (f : Fits x) where
  abbrev h : List ℕ
  h = head_bytes x.core

  abbrev t : List ℕ
  t = x.tables

  abbrev q : List ℕ
  q = rows_bytes params_bytes x.params

  abbrev v : List ℕ
  v = rows_bytes life_bytes x.lives

  abbrev w : List ℕ
  w = rows_bytes token_bytes x.pending.tokens

  lq : length q ≡ 2032
  lq = length-rows_bytes params_bytes 16 params-sized x.params ∙ ap (λ (k : ℕ). k * 16) f.params-127

  lv : length v ≡ 127
  lv = length-rows_bytes life_bytes 1 life-sized x.lives ∙ ap (λ (k : ℕ). k * 1) f.lives-127

  lw : length w ≡ 256
  lw = length-rows_bytes token_bytes 8 token-sized x.pending.tokens ∙ ap (λ (k : ℕ). k * 8) f.tokens-32

  to-params : length (h ++ t) ≡ params_place
  to-params = length-append h t ∙ (λ i. head-sized x.core i + f.tables-12224 i)

  to-lives : length ((h ++ t) ++ q) ≡ lives_place
  to-lives = length-append (h ++ t) q ∙ (λ i. to-params i + lq i)

  to-tokens : length (((h ++ t) ++ q) ++ v) ≡ tokens_place
  to-tokens = length-append ((h ++ t) ++ q) v ∙ (λ i. to-lives i + lv i)

  to_end : length (sound_bytes x) ≡ state_size
  unfolding sound_bytes
  to_end = ap length (whole-cut h t q v w) ∙ length-append (((h ++ t) ++ q) ++ v) w ∙ (λ i. to-tokens i + lw i)

  module _ (c : List ℕ) where
    core-in : core_of (head_at (sound_bytes x ++ c)) ≡ x.core
    unfolding sound_bytes
    core-in =
        ap (λ (l : List ℕ). core_of (head_at l)) (first-cut h t q v w c)
        ∙ ap core_of (head-back (head_of x.core) (t ++ (q ++ (v ++ (w ++ c)))) f.core)
        ∙ core-back x.core

    tables-in : bytes_at head_size tables_bytes (sound_bytes x ++ c) ≡ x.tables
    unfolding sound_bytes
    tables-in =
        let r = q ++ (v ++ (w ++ c)) in
        ap (bytes_at head_size tables_bytes) (first-cut h t q v w c)
        ∙ (λ i. bytes_at (sym (add-zero (length h) ∙ head-sized x.core) i) (sym f.tables-12224 i) (h ++ (t ++ r)))
        ∙ bytes_at-append h (t ++ r) 0 (length t)
        ∙ bytes_at-front t r

    params_in : rows_at params_at 16 params_place 127 (sound_bytes x ++ c) ≡ x.params
    unfolding sound_bytes
    params_in =
        ap (rows_at params_at 16 params_place 127) (second-cut h t q v w c)
        ∙ table_of params_row params_values params_from (λ r. refl) params_at params-reads (h ++ t) (v ++ (w ++ c)) x.params params_place 127 to-params f.params-127 f.params

    lives-in : rows_at life_at 1 lives_place 127 (sound_bytes x ++ c) ≡ x.lives
    unfolding sound_bytes
    lives-in =
        ap (rows_at life_at 1 lives_place 127) (third-cut h t q v w c)
        ∙ table_of life_row life_values (λ vs. slice_index vs 0) (λ r. refl) life_at life-reads ((h ++ t) ++ q) (w ++ c) x.lives lives_place 127 to-lives f.lives-127 f.lives

    tokens-in : rows_at token_in 8 tokens_place 32 (sound_bytes x ++ c) ≡ x.pending.tokens
    unfolding sound_bytes
    tokens-in =
        ap (rows_at token_in 8 tokens_place 32) (fourth-cut h t q v w c)
        ∙ table_of token_row token_values token_from (λ r. refl) token_in token-reads (((h ++ t) ++ q) ++ v) c x.pending.tokens tokens_place 32 to-tokens f.tokens-32 f.tokens

    sound_back : sound_of (sound_bytes x ++ c) ≡ x
    unfolding sound_of
    sound_back = λ i. record { core = core-in i; tables = tables-in i; params = params_in i; lives = lives-in i; pending = record { tokens = tokens-in i } }

pub store-back : (s : List ℕ) (x : Sound) → Fits x → state_size ≤ length s → sound_of (sets s 0 (sound_bytes x)) ≡ x
store-back s x f l =
    let e : 0 + length (sound_bytes x) ≡ state_size = zero-add (length (sound_bytes x)) ∙ to_end x f in
    ap sound_of (sets-eq (sound_bytes x) s 0 (rw e l)) ∙ sound_back x f (drop (0 + length (sound_bytes x)) s)
