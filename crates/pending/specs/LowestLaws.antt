-- The lowest free place, and the count, as the library's search and sum say them.
-- Assumes nothing.
use Rattle.std.specs.Prelude.{ℕ, suc, ◌+◌, ◌≤◌, ◌≡◌, refl, Bool, true, false, List, [], ◌∷◌, ltb, eqb, length, take, cond, Option, Some, None, unwrap_or}
use native.Mathlib.Omega.{arith}
use Rattle.std.proofs.Common.{ap, sym, ◌∙◌, length-take-le, ltb-false}
use Rattle.std.proofs.lemmas.List.Recursion.{is_position_or_len, is_sum_by}
use Rattle.std.proofs.lemmas.List.Sums.{prefix_len-le-length}
use Rattle.std.specs.List.{position_or_len, sum_by}
use Rattle.std.proofs.Math.Bool.{not}
use Rattle.codes.specs.Says.{pick}
use Rattle.pending.specs.Table.{bound_of, weight_of, count_of, lowest_of, lowest_in}
use Rattle.pending.specs.TableLaws.{few}
use Rattle.pending.specs.Types.{Token, Pending}

abbrev pub is_free : Token → Bool
is_free t = eqb t.state 0

pick-cond : (b : Bool) (n : ℕ) → pick b 0 (suc n) ≡ cond b 0 (1 + n)
pick-cond true n = refl
pick-cond false n = omega arith

pub lowest-first : (l : List Token) → lowest_of l ≡ position_or_len is_free l
lowest-first = is_position_or_len lowest_of is_free refl (λ t ts. pick-cond (is_free t) (lowest_of ts))

-- what the search found, or as many as there were
module _ (l : List Token) where
  abbrev at : ℕ
  at = position_or_len is_free l

  or-all : (b : Bool) → ltb at (length l) ≡ b → unwrap_or (cond b (Some at) None) (length l) ≡ at
  or-all true e = refl
  or-all false e =
      let m : at ≤ length l = prefix_len-le-length (λ t. not (is_free t)) l in
      let n : length l ≤ at = ltb-false _ _ e in
      omega arith

pub searched : (p : Pending) (places n : ℕ) (r : Option ℕ) → n ≡ bound_of places → length p.tokens ≡ 32
    → r ≡ cond (ltb (position_or_len is_free (take n p.tokens)) (length (take n p.tokens))) (Some (position_or_len is_free (take n p.tokens))) None → unwrap_or r n ≡ lowest_in p places
unfolding lowest_in
searched p places n r e size found =
    let l = take n p.tokens in
    let f = (few places).0 in
    let long : length l ≡ n = length-take-le n p.tokens (omega arith) in
    ap (λ (o : Option ℕ). unwrap_or o n) found
    ∙ ap (unwrap_or (cond (ltb (at l) (length l)) (Some (at l)) None)) (sym long)
    ∙ or-all l (ltb (at l) (length l)) refl
    ∙ sym (lowest-first l)
    ∙ ap (λ (m : ℕ). lowest_of (take m p.tokens)) e

-- ---- counting

pub counts : (l : List Token) → count_of l ≡ sum_by weight_of l
counts = is_sum_by count_of weight_of refl (λ t ts. refl)

pub light : (b : Bool) → pick b 0 1 ≤ 1
light true = omega arith
light false = omega arith

pub count_most : (l : List Token) → count_of l ≤ length l
count_most [] = omega arith
count_most (t ∷ ts) = let w = light (eqb t.state 0) in let r = count_most ts in omega arith
