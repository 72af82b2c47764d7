-- What the calls come to, by cases of the token that was looked at.
-- Assumes nothing.
use Rattle.std.specs.Prelude.{ℕ, ◌+◌, ◌≤◌, ◌<◌, ◌≡◌, true, leb, eqb, Result, Ok, Err}
use Rattle.std.proofs.Math.Path.{refl}
use Rattle.std.proofs.Common.{ap, sym, ◌∙◌, subst, lt-ltb, le-ltb, le-leb, eq-eqb, ne_eqb}
use Rattle.std.proofs.Math.Bool.{not}
use Rattle.std.proofs.lemmas.List.{set-get_or}
use Rattle.std.proofs.lemmas.Bool.{lt-leb}
use Rattle.codes.specs.SaysLaws.{passes, stops, guarded-by}
use Rattle.pending.specs.Types.{Refusal, InvalidParam, BadLength, WrongToken, Full, NotYet, Token, Pending, Seen, Told, Judged}
use Rattle.pending.specs.declared.table.Seen.TheVariants as seen
use Rattle.pending.specs.Table.{free_token, marked, token_at, pending_at, waits_at, put, told, mark_token, end_of, finish_token, seen_token, judged_at, mark_of, finish_of, seen_of}
use Rattle.pending.specs.Places.{size_of, spot_by}

-- ---- one token

module _ (t : Token) where
  pub mark-wrong : (status : ℕ) → (t.state ≡ 1 → ⊥) → told t (Err WrongToken) ≡ mark_token t status
  unfolding mark_token
  mark-wrong status h = stops _ _ (told (marked status) (Ok tt)) (ne_eqb _ _ h) refl

  pub mark-done : (status : ℕ) → t.state ≡ 1 → told (marked status) (Ok tt) ≡ mark_token t status
  unfolding mark_token
  mark-done status h = passes _ (told t (Err WrongToken)) _ (eq-eqb _ _ h) refl

  some : (t.state ≡ 0 → ⊥) → not (eqb t.state 0) ≡ true
  some h = ap not (ne_eqb _ _ h)

  pub finish-wrong : t.state ≡ 0 → told t (Err WrongToken) ≡ finish_token t
  unfolding finish_token
  finish-wrong h = stops _ _ _ (ap not (eq-eqb _ _ h)) refl

  pub finish-early : (t.state ≡ 0 → ⊥) → t.state ≡ 1 → told t (Err NotYet) ≡ finish_token t
  unfolding finish_token
  finish-early h w = passes _ (told t (Err WrongToken)) _ (some h) (stops _ _ (told free_token (end_of t.status)) (ap not (eq-eqb _ _ w)) refl)

  pub finish-done : (x : Result (Unit {0}) Refusal) → (t.state ≡ 0 → ⊥) → (t.state ≡ 1 → ⊥) → x ≡ end_of t.status → told free_token x ≡ finish_token t
  unfolding finish_token
  finish-done x h w y = passes _ (told t (Err WrongToken)) _ (some h) (passes _ (told t (Err NotYet)) _ (ap not (ne_eqb _ _ w)) (ap (told free_token) y))

  pub seen-free : t.state ≡ 0 → seen.Free ≡ seen_token t
  unfolding seen_token
  seen-free h = stops _ _ _ (ap not (eq-eqb _ _ h)) refl

  pub seen-waits : (t.state ≡ 0 → ⊥) → t.state ≡ 1 → seen.Waits ≡ seen_token t
  unfolding seen_token
  seen-waits h w = passes _ seen.Free _ (some h) (stops _ _ (seen.Marked t.status) (ap not (eq-eqb _ _ w)) refl)

  pub seen-marked : (t.state ≡ 0 → ⊥) → (t.state ≡ 1 → ⊥) → seen.Marked t.status ≡ seen_token t
  unfolding seen_token
  seen-marked h w = passes _ seen.Free _ (some h) (passes _ seen.Waits _ (ap not (ne_eqb _ _ w)) refl)

pub seen_none : (p : Pending) (k : ℕ) → 32 ≤ k → Err InvalidParam ≡ seen_of p k
unfolding seen_of
seen_none p k h = stops _ _ (Ok (seen_token (token_at p k))) (le-ltb _ _ h) refl

pub seen-there : (p : Pending) (k : ℕ) (t : Token) (x : Seen) → k < 32 → t ≡ token_at p k → x ≡ seen_token t → Ok x ≡ seen_of p k
unfolding seen_of
seen-there p k t x h e y = passes _ (Err InvalidParam) _ (lt-ltb _ _ h) (ap Ok (y ∙ ap seen_token e))

-- ---- a table: what is refused leaves it

pub left : (p : Pending) (k : ℕ) (x : Result (Unit {0}) Refusal) → judged_at p k (told (token_at p k) x) ≡ record { table = p; said = x }
left p k x = λ i. record { table = record { tokens = set-get_or p.tokens k free_token i }; said = x }

-- what holds at each end of a completion, and of finishing, holds of what it comes to
module _ (P : Judged → Type 0) (p : Pending) (k : ℕ) where
  stays : (x : Result (Unit {0}) Refusal) → P (record { table = p; said = x }) → P (judged_at p k (told (token_at p k) x))
  stays x h = subst P (sym (left p k x)) h

  pub mark-by : (status : ℕ) → (waits_at p k ≡ true → P (record { table = put p k (marked status); said = Ok tt })) → P (record { table = p; said = Err WrongToken }) → P (mark_of p k status)
  unfolding mark_token
  mark-by status f g = guarded-by (λ (t : Told). P (judged_at p k t)) _ _ _ f (λ _. stays (Err WrongToken) g)

  pub finish-by : (pending_at p k ≡ true → P (record { table = put p k free_token; said = end_of (token_at p k).status })) → P (record { table = p; said = Err WrongToken }) → P (record { table = p; said = Err NotYet }) → P (finish_of p k)
  unfolding finish_token
  finish-by f g n =
      guarded-by (λ (t : Told). P (judged_at p k t)) _ _ _
      (λ e. guarded-by (λ (t : Told). P (judged_at p k t)) _ _ _ (λ _. f e) (λ _. stays (Err NotYet) n)) (λ _. stays (Err WrongToken) g)

-- ---- the place

module _ (places k n len period size : ℕ) (e : size ≡ size_of len places) where
  abbrev is : Result ℕ Refusal → Type 0
  is x = x ≡ spot_by places k n len period Err Ok

  pub spot-odd : (n ≡ period → ⊥) → is (Err InvalidParam)
  spot-odd h = stops _ _ _ (ne_eqb _ _ h) refl

  pub spot-short : n ≡ period → size < period + 4 → is (Err BadLength)
  spot-short h s = passes _ (Err InvalidParam) _ (eq-eqb _ _ h) (stops _ _ _ (ap (leb (period + 4)) (sym e) ∙ lt-leb _ _ s) refl)

  roomy : period + 4 ≤ size → leb (period + 4) (size_of len places) ≡ true
  roomy s = ap (leb (period + 4)) (sym e) ∙ le-leb _ _ s

  pub spot-full : n ≡ period → period + 4 ≤ size → places ≤ k → is (Err Full)
  spot-full h s f = passes _ (Err InvalidParam) _ (eq-eqb _ _ h) (passes _ (Err BadLength) _ (roomy s) (stops _ _ (Ok k) (le-ltb _ _ f) refl))

  pub spot-place : n ≡ period → period + 4 ≤ size → k < places → is (Ok k)
  spot-place h s f = passes _ (Err InvalidParam) _ (eq-eqb _ _ h) (passes _ (Err BadLength) _ (roomy s) (passes _ (Err Full) _ (lt-ltb _ _ f) refl))
