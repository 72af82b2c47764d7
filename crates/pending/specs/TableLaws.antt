-- One place of the table: what a change of it says of it, and of the others.
-- Assumes nothing.
use Rattle.std.specs.Prelude.{ℕ, ◌≤◌, ◌<◌, ◌≡◌, refl, Bool, true, false, not, ltb, eqb, length}
use Rattle.std.proofs.Common.{arith, ap, sym, ◌∙◌, get_or-set_same, get_or-set_other, ltb-true, ltb-false, eqb-true}
use Rattle.std.proofs.lemmas.Bool.{false≢true, eqb-false}
use Rattle.std.proofs.Math.ListN.{get_or-eq_default}
use Rattle.codes.specs.Says.{pick}
use Rattle.pending.specs.Table.{free_token, token_at, pending_at, put, bound_of}
use Rattle.pending.specs.Types.{Token, Pending}

few-by : (places : ℕ) (b : Bool) → ltb places 32 ≡ b → (pick b places 32 ≤ 32) × (pick b places 32 ≤ places)
few-by places true e = let h : places < 32 = ltb-true _ _ e in (omega arith, omega arith)
few-by places false e = let h : 32 ≤ places = ltb-false _ _ e in (omega arith, omega arith)

pub few : (places : ℕ) → (bound_of places ≤ 32) × (bound_of places ≤ places)
few places = few-by places (ltb places 32) refl

bound_by : (places : ℕ) (b : Bool) → ltb places 32 ≡ b → places ≤ 32 → pick b places 32 ≡ places
bound_by places true e h = refl
bound_by places false e h = let l : 32 ≤ places = ltb-false _ _ e in omega arith

-- where the table has a token for each
pub bound-is : (places : ℕ) → places ≤ 32 → bound_of places ≡ places
bound-is places h = bound_by places (ltb places 32) refl h

pub put_same : (p : Pending) (k : ℕ) (t : Token) → k < length p.tokens → token_at (put p k t) k ≡ t
put_same p k t l = get_or-set_same p.tokens k t free_token l

pub put_other : (p : Pending) (j k : ℕ) (t : Token) → (k ≡ j → ⊥) → token_at (put p j t) k ≡ token_at p k
put_other p j k t n = get_or-set_other p.tokens j k t free_token n

-- putting at j a token that is pending or not says so of j, and nothing of the others
pub put-notes : (p : Pending) (j k : ℕ) (t : Token) (s : Bool) → j < length p.tokens → not (eqb t.state 0) ≡ s → (b : Bool) → eqb j k ≡ b → pending_at (put p j t) k ≡ pick b s (pending_at p k)
put-notes p j k t s l e true q =
    let z : j ≡ k = eqb-true j k q in
    ap (λ (i : ℕ). pending_at (put p j t) i) (sym z) ∙ ap (λ (x : Token). not (eqb x.state 0)) (put_same p j t l) ∙ e
put-notes p j k t s l e false q = ap (λ (x : Token). not (eqb x.state 0)) (put_other p j k t (λ z. eqb-false j k q (sym z)))

in-by : (p : Pending) (k : ℕ) (b : Bool) → ltb k (length p.tokens) ≡ b → pending_at p k ≡ true → k < length p.tokens
in-by p k true e h = ltb-true _ _ e
in-by p k false e h = absurd (false≢true (sym (ap (λ (t : Token). not (eqb t.state 0)) (get_or-eq_default p.tokens free_token (ltb-false _ _ e))) ∙ h))

-- what is pending stands in the table
pub pending-in : (p : Pending) (k : ℕ) → pending_at p k ≡ true → k < length p.tokens
pending-in p k = in-by p k (ltb k (length p.tokens)) refl

waits-by : (n : ℕ) → eqb n 1 ≡ true → not (eqb n 0) ≡ true
waits-by n e = ap (λ (m : ℕ). not (eqb m 0)) (eqb-true n 1 e)

-- what waits is pending
pub waits-pending : (p : Pending) (k : ℕ) → eqb (token_at p k).state 1 ≡ true → pending_at p k ≡ true
waits-pending p k = waits-by (token_at p k).state
