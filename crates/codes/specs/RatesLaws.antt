-- The table of rates: its rule, and what a search in it comes to.
-- Assumes nothing.
use Rattle.std.specs.Prelude.{◌≡◌, refl, Bool, true, false, cond, List, ℕ, suc, ◌+◌, ◌<◌, eqb, ltb, length, get_or, Some, None, unwrap_or, is_some}
use Rattle.std.specs.List.{position, position_or_len}
use Rattle.std.proofs.Common.{sym, ap, ◌∙◌, arith, lit<, eqb-true}
use Rattle.std.proofs.lemmas.Bool.{false≢true}
use Rattle.std.proofs.lemmas.List.Recursion.{is_position_or_len}
use Rattle.codes.specs.Says.{pick}
use Rattle.codes.specs.TableLaws.{rule}
use Rattle.codes.specs.Rates.{rate_number, hz_table, hz_of, place_of}
use Rattle.codes.specs.declared.rates.PcmRate.{PcmRate}
use Rattle.codes.specs.declared.rates.PcmRate.TheVariants.{Rate5512, Rate8000, Rate11025, Rate16000, Rate22050, Rate32000, Rate44100, Rate48000, Rate64000, Rate88200, Rate96000, Rate176400, Rate192000, Rate384000}

pub rate-below : (r : PcmRate) → rate_number r < 14
rate-below Rate5512 = lit< tt
rate-below Rate8000 = lit< tt
rate-below Rate11025 = lit< tt
rate-below Rate16000 = lit< tt
rate-below Rate22050 = lit< tt
rate-below Rate32000 = lit< tt
rate-below Rate44100 = lit< tt
rate-below Rate48000 = lit< tt
rate-below Rate64000 = lit< tt
rate-below Rate88200 = lit< tt
rate-below Rate96000 = lit< tt
rate-below Rate176400 = lit< tt
rate-below Rate192000 = lit< tt
rate-below Rate384000 = lit< tt

-- ---- the first place of x in a table is std's `position`

cond-is : {A : Type 0} (t : Bool) (a b : A) → pick t a b ≡ cond t a b
cond-is true a b = refl
cond-is false a b = refl

next : (n : ℕ) → suc n ≡ 1 + n
next n = omega arith

place-is : (x : ℕ) (l : List ℕ) → place_of x l ≡ position_or_len (λ y. eqb y x) l
unfolding place_of
place-is x l = is_position_or_len (place_of x) (λ y. eqb y x) refl (λ y ys. cond-is (eqb y x) 0 (suc (place_of x ys)) ∙ ap (cond (eqb y x) 0) (next (place_of x ys))) l

some-is : (t : Bool) (p i : ℕ) → cond t (Some p) None ≡ Some i → p ≡ i
some-is true p i e = ap (λ o. unwrap_or o 0) e
some-is false p i e = let z : ◌≡◌ {A = Bool} false true = ap is_some e in absurd (false≢true z)

none-is : (t : Bool) (p : ℕ) → cond t (Some p) None ≡ None → t ≡ false
none-is true p e = let z : ◌≡◌ {A = Bool} false true = sym (ap is_some e) in absurd (false≢true z)
none-is false p e = refl

pub place-found : (x : ℕ) (l : List ℕ) (i : ℕ) → position (λ y. eqb y x) l ≡ Some i → place_of x l ≡ i
place-found x l i e = place-is x l ∙ some-is (ltb (position_or_len (λ y. eqb y x) l) (length l)) (position_or_len (λ y. eqb y x) l) i e

pub place-missed : (x : ℕ) (l : List ℕ) → position (λ y. eqb y x) l ≡ None → ltb (place_of x l) (length l) ≡ false
place-missed x l e =
    ap (λ n. ltb n (length l)) (place-is x l) ∙ none-is (ltb (position_or_len (λ y. eqb y x) l) (length l)) (position_or_len (λ y. eqb y x) l) e

-- ---- THE RULE OF THE TABLE, by one test over the whole of it: each rate is found at its own number

found_at : ℕ → ℕ → Bool
found_at n hz = eqb (place_of hz hz_table) n

pub place-of-hz : (n : ℕ) → n < 14 → place_of (get_or hz_table n 0) hz_table ≡ n
unfolding place_of found_at
place-of-hz n h = eqb-true (place_of (get_or hz_table n 0) hz_table) n (rule found_at hz_table refl n h)

pub rate-of-hz : (r : PcmRate) → place_of (hz_of r) hz_table ≡ rate_number r
rate-of-hz r = place-of-hz (rate_number r) (rate-below r)
