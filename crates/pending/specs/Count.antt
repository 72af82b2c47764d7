-- "15 Full, exactly if 16 are pending", by the count; and nothing is pending exactly if the count is 0.
-- Assumes nothing.
use Rattle.std.specs.Prelude.{ℕ, zero, suc, ◌+◌, ◌≤◌, ◌<◌, ◌≡◌, refl, Bool, true, false, not, List, [], ◌∷◌, ltb, eqb, length, get_or, take, drop}
use Rattle.std.proofs.Common.{arith, ap, sym, ◌∙◌, get_or-take, get_or-drop, length-take-le}
use Rattle.std.proofs.lemmas.Bool.{false≢true}
use borrow.Author.Tests.{eq-eqb, eqb-true, ltb-true, ltb-false}
use Rattle.codes.specs.Says.{pick}
use Rattle.codes.specs.SaysLaws.{guarded-by}
use Rattle.pending.specs.Types.{Token, Pending, Judged}
use Rattle.pending.specs.Table.{free_token, waits, marked, pending_at, put, weight_of, count_of, count_in, none_in, bound_of, lowest_in, mark_of, finish_of}
use Rattle.pending.specs.TableLaws.{few, put_other, waits-pending}
use Rattle.pending.specs.LowestLaws.{light, count_most}
use Rattle.pending.specs.CallLaws.{mark-by, finish-by}
use Rattle.pending.specs.Full.{NoRoom, full-then, full-if}
use Rattle.pending.specs.Ledger.{Op, submits, completes, finishes, After, taken_after, does, table_after}

-- ---- a list of tokens

abbrev taken_in : List Token → ℕ → Bool
taken_in l k = not (eqb (get_or l k free_token).state 0)

-- 1 where it is pending
abbrev one : Bool → ℕ
one free = pick free 0 1

weighs : (b : Bool) → not b ≡ true → one b ≡ 1
weighs true e = absurd (false≢true e)
weighs false e = refl

weighs-not : (b : Bool) → not b ≡ false → one b ≡ 0
weighs-not true e = refl
weighs-not false e = absurd (false≢true (sym e))

count-all : (l : List Token) → ((k : ℕ) → k < length l → taken_in l k ≡ true) → count_of l ≡ length l
count-all [] h = refl
count-all (t ∷ ts) h =
    let w : weight_of t ≡ 1 = weighs (eqb t.state 0) (h 0 (omega arith)) in
    let r = count-all ts (λ k i. h (suc k) (omega arith)) in
    omega arith

count_none : (l : List Token) → ((k : ℕ) → k < length l → taken_in l k ≡ false) → count_of l ≡ 0
count_none [] h = refl
count_none (t ∷ ts) h =
    let w : weight_of t ≡ 0 = weighs-not (eqb t.state 0) (h 0 (omega arith)) in
    let r = count_none ts (λ k i. h (suc k) (omega arith)) in
    omega arith

heavy : (b : Bool) → one b ≡ 1 → not b ≡ true
heavy true e = absurd (omega arith)
heavy false e = refl

all-count : (l : List Token) → count_of l ≡ length l → (k : ℕ) → k < length l → taken_in l k ≡ true
all-count [] e k h = absurd (omega arith)
all-count (t ∷ ts) e zero h = let m = count_most ts in let w = light (eqb t.state 0) in let x : weight_of t ≡ 1 = omega arith in heavy (eqb t.state 0) x
all-count (t ∷ ts) e (suc k) h = let m = count_most ts in let w = light (eqb t.state 0) in all-count ts (omega arith) k (omega arith)

empty : (b : Bool) → one b ≡ 0 → not b ≡ false
empty true e = refl
empty false e = absurd (omega arith)

none-count : (l : List Token) → count_of l ≡ 0 → (k : ℕ) → taken_in l k ≡ false
none-count [] e k = refl
none-count (t ∷ ts) e zero = let x : weight_of t ≡ 0 = omega arith in empty (eqb t.state 0) x
none-count (t ∷ ts) e (suc k) = none-count ts (omega arith) k

count_cut : (n : ℕ) (l : List Token) → count_of l ≡ count_of (take n l) + count_of (drop n l)
count_cut zero l = omega arith
count_cut (suc n) [] = refl
count_cut (suc n) (t ∷ ts) = let r = count_cut n ts in omega arith

-- ---- THE THEOREMS

-- nothing is pending, exactly if no token is
pub none_then : (p : Pending) → none_in p ≡ true → (k : ℕ) → pending_at p k ≡ false
none_then p e k = none-count p.tokens (eqb-true _ _ e) k

pub none-if : (p : Pending) → ((k : ℕ) → pending_at p k ≡ false) → none_in p ≡ true
none-if p h = eq-eqb _ _ (count_none p.tokens (λ k _. h k))

-- tokens that there is no place for
abbrev pub AboveFree : ℕ → Pending → Type 0
AboveFree n p = (k : ℕ) → n ≤ k → pending_at p k ≡ false

module _ (p : Pending) (places : ℕ) (size : length p.tokens ≡ 32) (above : AboveFree (bound_of places) p) where
  abbrev first : List Token
  first = take (bound_of places) p.tokens

  long : length first ≡ bound_of places
  long = length-take-le (bound_of places) p.tokens (let f = (few places).0 in omega arith)

  rest-none : count_of (drop (bound_of places) p.tokens) ≡ 0
  rest-none =
      count_none (drop (bound_of places) p.tokens)
      (λ k _. ap (λ (t : Token). not (eqb t.state 0)) (get_or-drop (bound_of places) p.tokens k free_token) ∙ above (bound_of places + k) (omega arith))

  counted : count_in p ≡ count_of first
  counted = let c = count_cut (bound_of places) p.tokens in let r = rest-none in omega arith

  same : (k : ℕ) → k < bound_of places → taken_in first k ≡ pending_at p k
  same k h = ap (λ (t : Token). not (eqb t.state 0)) (get_or-take (bound_of places) p.tokens k free_token h)

  -- no more are pending than there are places
  pub few-pending : count_in p ≤ bound_of places
  few-pending = let c = counted in let m = count_most first in let l = long in omega arith

  -- "15 Full, exactly if 16 are pending"
  pub full-count : NoRoom p places → count_in p ≡ bound_of places
  full-count e = counted ∙ count-all first (λ k h. let l = long in let i : k < bound_of places = omega arith in same k i ∙ full-then p places e k i) ∙ long

  pub count-full : count_in p ≡ bound_of places → NoRoom p places
  count-full e = full-if p places (λ k h. let l = long in sym (same k h) ∙ all-count first (sym counted ∙ e ∙ sym long) k (omega arith))

-- over any sequence with so many places or fewer, tokens that there is no place for stay free
abbrev pub Within : ℕ → List Op → Type 0
Within n [] = Unit {0}
Within n (submits places ∷ os) = (places ≤ n) × Within n os
Within n (completes token status ∷ os) = Within n os
Within n (finishes token ∷ os) = Within n os

module _ (n : ℕ) (p : Pending) (above : AboveFree n p) where
  abbrev pub Above : Pending → Type 0
  Above q = AboveFree n q

  pub other : (j : ℕ) (t : Token) → j < n → Above (put p j t)
  other j t h k i = ap (λ (x : Token). not (eqb x.state 0)) (put_other p j k t (λ e. omega arith)) ∙ above k i

  below_by : (j : ℕ) (b : Bool) → ltb j n ≡ b → pending_at p j ≡ true → j < n
  below_by j true e h = ltb-true _ _ e
  below_by j false e h = absurd (false≢true (sym (above j (ltb-false _ _ e)) ∙ h))

  below : (j : ℕ) → pending_at p j ≡ true → j < n
  below j = below_by j (ltb j n) refl

  submits-above : (places : ℕ) → places ≤ n → Above (taken_after p places).table
  unfolding taken_after
  submits-above places l =
      guarded-by (λ (t : After). Above t.table) _ _ _
      (λ e. let h : lowest_in p places < bound_of places = ltb-true _ _ e in let f = few places in other (lowest_in p places) waits (omega arith)) (λ _. above)

  pub completes-above : (token status : ℕ) → Above (mark_of p token status).table
  completes-above token status = mark-by (λ (m : Judged). Above m.table) p token status (λ e. other token (marked status) (below token (waits-pending p token e))) above

  pub finishes-above : (token : ℕ) → Above (finish_of p token).table
  finishes-above token = finish-by (λ (m : Judged). Above m.table) p token (λ e. other token free_token (below token e)) above above

pub above-free : (n : ℕ) (p : Pending) (ops : List Op) → Within n ops → AboveFree n p → AboveFree n (table_after p ops)
above-free n p [] w above = above
above-free n p (submits places ∷ os) w above = above-free n (does p (submits places)).table os w.1 (submits-above n p above places w.0)
above-free n p (completes token status ∷ os) w above = above-free n (does p (completes token status)).table os w (completes-above n p above token status)
above-free n p (finishes token ∷ os) w above = above-free n (does p (finishes token)).table os w (finishes-above n p above token)
