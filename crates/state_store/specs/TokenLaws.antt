-- The tokens of a store, by place: all are read, one is stored, and what that leaves; and what is told of them.
-- Assumes nothing.
use Rattle.std.specs.Prelude.{◌≡◌, ℕ, suc, ◌+◌, ◌*◌, ◌<◌, ◌≤◌, Bool, true, false, List, [], ◌∷◌, ◌++◌, length, take, nat_lt, slice_set, None, Result, Ok, Err}
use Rattle.std.proofs.Math.Path.{refl, sym, ap}
use Rattle.std.proofs.Common.{◌∙◌, append-nil, add-one, arith, take_all, take-suc, take-suc-set, ltb-true, ltb-false, le-leb}
use Rattle.std.proofs.lemmas.Bool.{false≢true, lt-leb}
use Rattle.std.proofs.Math.Seq.{sets, set_out}
use Rattle.layout.specs.Bytes.{le, Bytes}
use Rattle.layout.specs.Rows.{rows_at, rows_bytes}
use Rattle.layout.specs.RowsLaws.{length-rows, rows-at, rows_take}
use Rattle.layout.specs.ChainLaws.{Stored, stored}
use Rattle.layout.specs.Lent.{Made, made, Shown, shown}
use Rattle.codes.specs.Says as answers
use Rattle.codes.specs.Says.{pick, guard}
use Rattle.codes.specs.SaysLaws.{picks, passes, stops}
use Rattle.pending.specs.Table.{free_token, token_at, put, judged_at, mark_token, mark_of, finish_token, finish_of, count_in, seen_token, says_seen}
use Rattle.pending.specs.CallLaws.{seen_none, seen-there}
use Rattle.turns.specs.Script.{reading_of}
use Rattle.turns.specs.Types.{completion}
use Rattle.sound_core.specs.Consistent.{consistent_of}
use Rattle.exchange.specs.State.{configured_of}
use Rattle.exchange.specs.Submit.{with_pending, end_by, token_seen}
use Rattle.exchange.specs.SubmitLaws as step
use Rattle.state_store.specs.Types.{Core, Token, Pending, Seen, InvalidParam, TokenTold, Refusal}
use Rattle.state_store.specs.Places.{head_size, params_place, lives_place, tokens_place, state_size}
use Rattle.state_store.specs.Store.{token_row, token_in, token_bytes, whole, head_at, core_of, sound_of, sound_bytes, state_after}
use Rattle.state_store.specs.Calls.{lengths}
use Rattle.state_store.specs.Tokens.{outcome_word, end_left, mark_in, finish_in, pending_in, seen_in}
use Rattle.state_store.specs.Steps.{count_by, token_over, shown_of}
use Rattle.state_store.specs.TableLaws.{alike_self, table-set}
use Rattle.state_store.specs.OverLaws.{token-sized, token-same, sized_of, tables-apart, params_in, lives_in, tables-kept, params-kept, lives-kept, tokens-kept}
use Rattle.state_store.specs.StoreLaws.{core_at, head-kept}
use Rattle.state_store.specs.RefusedLaws.{state-kept, not-whole}

-- ---- reading all of them, a token at a time

abbrev pub First : List ℕ → ℕ → List Token → Type 0
First s k tokens = take k tokens ≡ rows_at token_in 8 tokens_place k s

pub first-none : (s : List ℕ) (tokens : List Token) → First s 0 tokens
unfolding rows_at
first-none s tokens = refl

row_more : (s : List ℕ) (k : ℕ) → rows_at token_in 8 tokens_place (suc k) s ≡ rows_at token_in 8 tokens_place k s ++ (token_in (tokens_place + k * 8) s ∷ [])
row_more s k =
    let l = rows_at token_in 8 tokens_place (suc k) s in
    let n = length-rows token_in 8 tokens_place (suc k) s in
    sym (take_all (suc k) l (omega (arith, n)))
    ∙ take-suc l k free_token (omega (arith, n))
    ∙ (λ i. rows_take token_in 8 tokens_place (suc k) k s (omega arith) i ++ (rows-at token_in 8 tokens_place (suc k) k s free_token (omega arith) i ∷ []))

first_more : (s : List ℕ) (k : ℕ) (tokens : List Token) (t : Token) → k < length tokens → First s k tokens → t ≡ token_in (tokens_place + k * 8) s → First s (k + 1) (slice_set tokens k t)
first_more s k tokens t h e p =
    ap (λ (n : ℕ). take n (slice_set tokens k t)) (add-one k)
    ∙ take-suc-set tokens k t h
    ∙ (λ i. e i ++ (p i ∷ []))
    ∙ sym (row_more s k)
    ∙ ap (λ (n : ℕ). rows_at token_in 8 tokens_place n s) (sym (add-one k))

pub first_next : (s : List ℕ) (k : ℕ) (tokens : List Token) (t : Token) → k < length tokens → k < 32 → First s k tokens → t ≡ token_at (sound_of s).pending k → First s (k + 1) (slice_set tokens k t)
unfolding sound_of
first_next s k tokens t h l e p = first_more s k tokens t h e (p ∙ rows-at token_in 8 tokens_place 32 k s free_token l)

pub first-all : (s : List ℕ) (k : ℕ) (tokens : List Token) → k ≡ 32 → length tokens ≡ 32 → First s k tokens → tokens ≡ (sound_of s).pending.tokens
unfolding sound_of
first-all s k tokens q h e = sym (take_all k tokens (omega (arith, q, h))) ∙ e ∙ ap (λ (n : ℕ). rows_at token_in 8 tokens_place n s) q

-- ---- one token, stored

pub token-stored : (s s₁ s₂ : List ℕ) (o : ℕ) (t : Token) → s₁ ≡ sets s o (le 4 t.state) → s₂ ≡ sets s₁ (o + 4) (le 4 t.status) → s₂ ≡ sets s o (token_bytes t)
token-stored s s₁ s₂ o t e₁ e₂ = stored s₂ s o token_row (t.state ∷ t.status ∷ []) (Stored.put e₁ (Stored.put {m = s₂} e₂ Stored.end))

module _ (s : List ℕ) (b : Bytes s) where
  -- every table before the tokens, as it was
  before-tokens : sets (sets (sets s head_size (sound_of s).tables) params_place (params_in s)) lives_place (lives_in s) ≡ s
  before-tokens =
      ap (λ (l : List ℕ). sets (sets l params_place (params_in s)) lives_place (lives_in s)) (tables-kept s b s (alike_self head_size s))
      ∙ ap (λ (l : List ℕ). sets l lives_place (lives_in s)) (params-kept s b s (alike_self params_place s))
      ∙ lives-kept s b s (alike_self lives_place s)

  module _ (k : ℕ) (t : Token) where
    abbrev tokens : List ℕ
    tokens = rows_bytes token_bytes (slice_set (sound_of s).pending.tokens k t)

    one_token : sets s tokens_place tokens ≡ token_over s k t
    unfolding sound_of
    one_token = by (nat_lt k 32) (ltb-true k 32) (ltb-false k 32)
      where
        by : (u : Bool) → (u ≡ true → k < 32) → (u ≡ false → 32 ≤ k) → sets s tokens_place tokens ≡ pick u (sets s (tokens_place + k * 8) (token_bytes t)) s
        by true h l = table-set token_in token_bytes 8 token-same tokens_place 32 s s b (alike_self tokens_place s) k t (token-sized t) (h refl)
        by false h l =
            ap (λ (x : List Token). sets s tokens_place (rows_bytes token_bytes x)) (set_out (sound_of s).pending.tokens k t (omega (arith, l refl, length-rows token_in 8 tokens_place 32 s)))
            ∙ tokens-kept s b s (alike_self tokens_place s)

    -- A TOKEN ALONE: its 8 bytes, stored in a store that is whole, leave the state with that token
    pub token-over : whole s ≡ true → token_over s k t ≡ sets s 0 (sound_bytes (with_pending (sound_of s) (put (sound_of s).pending k t)))
    token-over w =
        let z = sized_of s (sound_of s).core in
        sym
        (tables-apart s (with_pending (sound_of s) (put (sound_of s).pending k t)) (record { tables = z.tables; params = z.params; lives = z.lives })
        ∙ ap (λ (l : List ℕ). sets (sets (sets (sets l head_size (sound_of s).tables) params_place (params_in s)) lives_place (lives_in s)) tokens_place tokens) (head-kept s b w)
        ∙ ap (λ (l : List ℕ). sets l tokens_place tokens) before-tokens
        ∙ one_token)

-- a state that passes the test stands in a store that is whole
pub sound-whole : (s : List ℕ) → consistent_of (sound_of s).core ≡ true → whole s ≡ true
sound-whole s h = by (whole s) refl
  where
    by : (w : Bool) → whole s ≡ w → w ≡ true
    by true e = refl
    by false e = absurd (false≢true (sym (not-whole s e) ∙ h))

pub unchanged : (s : List ℕ) → Bytes s → state_after s (sound_of s) ≡ s
unchanged s b = state-kept s [] [] b (whole s) refl

pub token-after : (s : List ℕ) → Bytes s → consistent_of (sound_of s).core ≡ true → (k : ℕ) (t : Token) → token_over s k t ≡ state_after s (with_pending (sound_of s) (put (sound_of s).pending k t))
token-after s b h k t = let w = sound-whole s h in token-over s b k t w ∙ sym (picks (whole s) (sets s 0 (sound_bytes (with_pending (sound_of s) (put (sound_of s).pending k t)))) s w)

-- ---- numbers in a result

pub two-told : (r r₁ r₂ : List ℕ) (a b : ℕ) → r₁ ≡ sets r 0 (le 8 a) → r₂ ≡ sets r₁ 8 (le 8 b) → shown 0 r₂ ≡ shown 0 (sets r 0 (rows_bytes (le 8) (a ∷ b ∷ [])))
unfolding rows_bytes
two-told r r₁ r₂ a b e₁ e₂ = ap (shown 0) (stored r₂ r 0 (8 ∷ 8 ∷ []) (a ∷ b ∷ []) (Stored.put e₁ (Stored.put {m = r₂} e₂ Stored.end)))

pub none_told : (r : List ℕ) → shown 1 r ≡ shown_of r (answers.says 1 [])
unfolding rows_bytes
none_told r = refl

-- ---- a completion reading, and finishing

module _ (s : List ℕ) where
  abbrev settled_at : ℕ → TokenTold → Made
  settled_at k t = made (outcome_word t.said) (token_over s k t.token)

  settled : Bytes s → consistent_of (sound_of s).core ≡ true → (k : ℕ) (t : TokenTold) → settled_at k t ≡ end_left s (end_by (sound_of s) (judged_at (sound_of s).pending k t))
  settled b h k t = ap (made (outcome_word t.said)) (token-after s b h k t.token)

  at-core : {c : Core} {u : Bool} → c ≡ core_of (head_at s) → consistent_of c ≡ u → consistent_of (sound_of s).core ≡ u
  at-core e h = ap consistent_of (core_at s ∙ sym e) ∙ h

  module _ (kind token status : ℕ) where
    pub mark-short : length s < state_size → made 10 s ≡ mark_in s kind token status
    unfolding mark_in
    mark-short h = stops _ _ _ (lt-leb state_size (length s) h) refl

    module _ (b : Bytes s) (l : state_size ≤ length s) {c : Core} (d : c ≡ core_of (head_at s)) where
      pub mark-barred : consistent_of c ≡ false → made 1 s ≡ mark_in s kind token status
      unfolding mark_in
      mark-barred h = passes _ _ _ (le-leb state_size (length s) l) (ap (made 1) (sym (unchanged s b)) ∙ ap (end_left s) (step.mark-barred (sound_of s) (reading_of kind token status) (at-core d h)))

      pub mark-quiet : consistent_of c ≡ true → reading_of kind token status ≡ None → made 0 s ≡ mark_in s kind token status
      unfolding mark_in
      mark-quiet h e = passes _ _ _ (le-leb state_size (length s) l) (ap (made 0) (sym (unchanged s b)) ∙ ap (end_left s) (step.mark-quiet (sound_of s) (reading_of kind token status) (at-core d h) e))

      pub mark-told : (k word : ℕ) (t : TokenTold) (x : Made) → consistent_of c ≡ true → reading_of kind token status ≡ completion k word → t ≡ mark_token (token_at (sound_of s).pending k) word
          → x ≡ settled_at k t → x ≡ mark_in s kind token status
      unfolding mark_in
      mark-told k word t x h e p q =
          passes _ _ _ (le-leb state_size (length s) l)
          (q ∙ ap (settled_at k) p ∙ settled b (at-core d h) k (mark_token (token_at (sound_of s).pending k) word)
          ∙ ap (end_left s) (step.mark-told (sound_of s) (reading_of kind token status) k word (mark_of (sound_of s).pending k word) (end_by (sound_of s) (mark_of (sound_of s).pending k word)) (at-core d h) e refl refl))

  module _ (token : ℕ) where
    pub finish-short : length s < state_size → made 10 s ≡ finish_in s token
    unfolding finish_in
    finish-short h = stops _ _ _ (lt-leb state_size (length s) h) refl

    module _ (b : Bytes s) (l : state_size ≤ length s) {c : Core} (d : c ≡ core_of (head_at s)) where
      pub finish-barred : consistent_of c ≡ false → made 1 s ≡ finish_in s token
      unfolding finish_in
      finish-barred h = passes _ _ _ (le-leb state_size (length s) l) (ap (made 1) (sym (unchanged s b)) ∙ ap (end_left s) (step.finish-barred (sound_of s) token (at-core d h)))

      pub finish-told : (t : TokenTold) (x : Made) → consistent_of c ≡ true → t ≡ finish_token (token_at (sound_of s).pending token) → x ≡ settled_at token t → x ≡ finish_in s token
      unfolding finish_in
      finish-told t x h p q =
          passes _ _ _ (le-leb state_size (length s) l)
          (q ∙ ap (settled_at token) p ∙ settled b (at-core d h) token (finish_token (token_at (sound_of s).pending token))
          ∙ ap (end_left s) (step.finish-told (sound_of s) token (finish_of (sound_of s).pending token) (end_by (sound_of s) (finish_of (sound_of s).pending token)) (at-core d h) refl refl))

  -- ---- what is pending

  module _ (r : List ℕ) where
    one-by : (t : Bool) (n : ℕ) → guard t (shown 1 r) (shown 0 (sets r 0 (le 8 n))) ≡ shown_of r (guard t (answers.says 1 []) (answers.says 0 (n ∷ [])))
    unfolding guard rows_bytes
    one-by true n = ap (λ (l : List ℕ). shown 0 (sets r 0 l)) (sym (append-nil (le 8 n)))
    one-by false n = refl

    pub pending-unread : lengths s r ≡ false → shown 10 r ≡ pending_in s r
    unfolding pending_in
    pending-unread e = stops _ _ _ e refl

    pub pending-told : {c : Core} {n : ℕ} {p : Pending} → lengths s r ≡ true → c ≡ core_of (head_at s) → p ≡ (sound_of s).pending → n ≡ count_in p → count_by c n r ≡ pending_in s r
    unfolding pending_in
    pending-told {c} {n} l d p q =
        passes _ _ _ l
        (one-by (consistent_of c) n
        ∙ (λ i. shown_of r (configured_of ((d ∙ sym (core_at s)) i) ((q ∙ ap count_in p) i))))

    module _ (token : ℕ) where
      pub seen-unread : lengths s r ≡ false → shown 10 r ≡ seen_in s token r
      unfolding seen_in
      seen-unread e = stops _ _ _ e refl

      module _ (l : lengths s r ≡ true) {c : Core} (d : c ≡ core_of (head_at s)) where
        seen_as : (x : Result Seen Refusal) → x ≡ token_seen (sound_of s) token → shown_of r (says_seen x) ≡ seen_in s token r
        unfolding seen_in
        seen_as x e = passes _ _ _ l (ap (λ (y : Result Seen Refusal). shown_of r (says_seen y)) e)

        pub seen-barred : consistent_of c ≡ false → shown 1 r ≡ seen_in s token r
        seen-barred h = none_told r ∙ seen_as (Err InvalidParam) (step.seen-barred (sound_of s) token (at-core d h))

        pub seen-past : consistent_of c ≡ true → 32 ≤ token → shown 1 r ≡ seen_in s token r
        seen-past h e = none_told r ∙ seen_as (Err InvalidParam) (step.seen-told (sound_of s) token (Err InvalidParam) (at-core d h) (seen_none (sound_of s).pending token e))

        pub seen-told : (t : Token) (x : Seen) (y : Shown) → consistent_of c ≡ true → token < 32 → t ≡ token_at (sound_of s).pending token → x ≡ seen_token t → y ≡ shown_of r (says_seen (Ok x)) → y ≡ seen_in s token r
        seen-told t x y h e p q z = z ∙ seen_as (Ok x) (step.seen-told (sound_of s) token (Ok x) (at-core d h) (seen-there (sound_of s).pending token t x e p q))
