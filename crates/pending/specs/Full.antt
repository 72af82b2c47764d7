-- "the lowest free of 16 equal places": the token given is free and every lower one is pending. "15 Full, exactly if 16 are pending."
-- Assumes nothing.
use Rattle.std.specs.Prelude.{ℕ, zero, suc, ◌≤◌, ◌<◌, ◌≡◌, refl, Bool, true, false, List, [], ◌∷◌, ltb, length, get_or, take}
use native.Mathlib.Omega.{arith}
use Rattle.std.proofs.Math.Path.{ap}
use Rattle.std.proofs.Common.{sym, ◌∙◌, get_or-take, ltb-true, ltb-false}
use Rattle.std.proofs.Math.Bool.{not}
use Rattle.std.proofs.lemmas.Bool.{false≢true}
use Rattle.std.proofs.Math.Dec.{eqb}
use Rattle.std.proofs.Math.ListN.{length-take}
use Rattle.codes.specs.Says.{pick, guard}
use Rattle.pending.specs.Types.{Token, Pending}
use Rattle.pending.specs.Table.{free_token, new_pending, token_at, pending_at, bound_of, lowest_of, lowest_in}
use Rattle.pending.specs.Ledger.{submits, taken_after, table_after}

-- ---- a list of tokens

below_by : (t : Token) (ts : List Token) (j : ℕ) (b : Bool) → eqb t.state 0 ≡ b → j < pick b 0 (suc (lowest_of ts)) → ((i : ℕ) → i < lowest_of ts → eqb (get_or ts i free_token).state 0 ≡ false)
    → eqb (get_or (t ∷ ts) j free_token).state 0 ≡ false
below_by t ts j true e h k = absurd (omega arith)
below_by t ts zero false e h k = e
below_by t ts (suc j) false e h k = k j (omega arith)

list-below : (ts : List Token) (j : ℕ) → j < lowest_of ts → eqb (get_or ts j free_token).state 0 ≡ false
list-below [] j h = absurd (omega arith)
list-below (t ∷ ts) j h = below_by t ts j (eqb t.state 0) refl h (λ i. list-below ts i)

at-by : (t : Token) (ts : List Token) (b : Bool) → eqb t.state 0 ≡ b → eqb (get_or ts (lowest_of ts) free_token).state 0 ≡ true → eqb (get_or (t ∷ ts) (pick b 0 (suc (lowest_of ts))) free_token).state 0 ≡ true
at-by t ts true e k = e
at-by t ts false e k = k

list-free : (ts : List Token) → eqb (get_or ts (lowest_of ts) free_token).state 0 ≡ true
list-free [] = refl
list-free (t ∷ ts) = at-by t ts (eqb t.state 0) refl (list-free ts)

most-by : (b : Bool) (m n : ℕ) → m ≤ n → pick b 0 (suc m) ≤ suc n
most-by true m n h = omega arith
most-by false m n h = omega arith

list-most : (ts : List Token) → lowest_of ts ≤ length ts
list-most [] = omega arith
list-most (t ∷ ts) = most-by (eqb t.state 0) _ _ (list-most ts)

-- none is free where every one is pending
module _ (p : Pending) (places : ℕ) where
  abbrev first : List Token
  first = take (bound_of places) p.tokens

  same : (k : ℕ) → k < bound_of places → get_or first k free_token ≡ token_at p k
  same k h = get_or-take (bound_of places) p.tokens k free_token h

  -- every lower token is pending
  pub lowest-below : (j : ℕ) → j < lowest_in p places → pending_at p j ≡ true
  unfolding lowest_in
  lowest-below j h =
      let m = list-most first in
      let n = length-take (bound_of places) p.tokens in
      let i : j < bound_of places = omega arith in
      ap not (sym (ap (λ (t : Token). eqb t.state 0) (same j i)) ∙ list-below first j h)

  -- and the token given is not
  pub lowest-free : lowest_in p places < bound_of places → pending_at p (lowest_in p places) ≡ false
  unfolding lowest_in
  lowest-free h = ap not (sym (ap (λ (t : Token). eqb t.state 0) (same (lowest_of first) h)) ∙ list-free first)

  abbrev pub AllPending : Type 0
  AllPending = (k : ℕ) → k < bound_of places → pending_at p k ≡ true

  -- there is no room
  abbrev pub NoRoom : Type 0
  NoRoom = ltb (lowest_in p places) (bound_of places) ≡ false

  full_by : (b : Bool) → ltb (lowest_in p places) (bound_of places) ≡ b → AllPending → b ≡ false
  full_by true e all = absurd (false≢true (sym (lowest-free (ltb-true _ _ e)) ∙ all (lowest_in p places) (ltb-true _ _ e)))
  full_by false e all = refl

  -- THE THEOREM: there is none exactly if every place is taken
  pub full-then : NoRoom → AllPending
  full-then e k h = let n : bound_of places ≤ lowest_in p places = ltb-false _ _ e in lowest-below k (omega arith)

  pub full-if : AllPending → NoRoom
  full-if = full_by _ refl

-- ---- an instance: of two places with the first taken, the second is given; with both taken, none
pub instance-of-it : (lowest_in (table_after new_pending (submits 2 ∷ [])) 2 ≡ 1) × NoRoom (table_after new_pending (submits 2 ∷ submits 2 ∷ [])) 2
unfolding taken_after lowest_in guard
instance-of-it = (refl, refl)
