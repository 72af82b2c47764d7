-- The parts of a store that are lent to a look are the state's own; parameters i stand at their place + i × 16, and past the last stream there is 0.
-- Assumes nothing.
use Rattle.std.specs.Prelude.{◌≡◌, ℕ, zero, suc, ◌+◌, ◌*◌, ◌<◌, ◌≤◌, List, ◌∷◌, length, take, drop, slice_index_or, refl}
use Rattle.std.proofs.Math.Path.{sym}
use Rattle.std.proofs.Common.{ap, ap₂, ◌∙◌, add-one, arith}
use Rattle.std.proofs.Math.ListN.{get_or-eq_default}
use Rattle.layout.specs.Bytes.{bytes_at}
use Rattle.layout.specs.Rows.{rows_at}
use Rattle.layout.specs.BytesLaws.{bytes_at-part, num_at-one}
use Rattle.layout.specs.RowsLaws.{length-rows, rows-at}
use Rattle.tables.specs.Tables.{tables_bytes}
use Rattle.pending.specs.Table.{free_token, token_at}
use Rattle.sound_core.specs.State.{unset}
use Rattle.exchange.specs.State.{params_of}
use Rattle.state_store.specs.Types.{Params, Token}
use Rattle.state_store.specs.Places.{head_size, params_place, lives_place, tokens_place, state_size}
use Rattle.state_store.specs.Store.{params_at, life_at, token_in, sound_of}

rows_out : {A : Type 0} (f : ℕ → List ℕ → A) (size o n i : ℕ) (s : List ℕ) (d : A) → n ≤ i → slice_index_or (rows_at f size o n s) i d ≡ d
rows_out f size o n i s d h = get_or-eq_default (rows_at f size o n s) d (omega (arith, length-rows f size o n s))

-- lifecycles, a byte each, are their bytes
lives-bytes : (o n : ℕ) (s : List ℕ) → rows_at life_at 1 o n s ≡ bytes_at o n s
unfolding rows_at life_at bytes_at
lives-bytes o zero s = refl
lives-bytes o (suc n) s = ap₂ (λ (x : ℕ) (l : List ℕ). x ∷ l) (num_at-one o s) (lives-bytes (o + 1) n s ∙ ap (λ (k : ℕ). bytes_at k n s) (add-one o))

module _ (s : List ℕ) (long : state_size ≤ length s) where
  pub tables-part : take tables_bytes (drop head_size s) ≡ (sound_of s).tables
  unfolding sound_of
  tables-part = sym (bytes_at-part head_size tables_bytes s (omega arith))

  pub lives-part : take 127 (drop lives_place s) ≡ (sound_of s).lives
  unfolding sound_of
  lives-part = sym (lives-bytes lives_place 127 s ∙ bytes_at-part lives_place 127 s (omega arith))

module _ (s : List ℕ) (i : ℕ) where
  pub params_in : (p : Params) → i < 127 → p ≡ params_at (params_place + i * 16) s → p ≡ params_of (sound_of s) i
  unfolding sound_of
  params_in p h e = e ∙ sym (rows-at params_at 16 params_place 127 i s unset h)

  pub params-out : 127 ≤ i → params_of (sound_of s) i ≡ unset
  unfolding sound_of
  params-out h = rows_out params_at 16 params_place 127 i s unset h

  pub token-in : (t : Token) → i < 32 → t ≡ token_in (tokens_place + i * 8) s → t ≡ token_at (sound_of s).pending i
  unfolding sound_of
  token-in t h e = e ∙ sym (rows-at token_in 8 tokens_place 32 i s free_token h)

  pub token-out : 32 ≤ i → token_at (sound_of s).pending i ≡ free_token
  unfolding sound_of
  token-out h = rows_out token_in 8 tokens_place 32 i s free_token h
