-- A number or a code is taken where it is one of those that the document names, and refused elsewhere.
-- Assumes nothing.
use Rattle.std.specs.Prelude.{Bool, true, false, List, [], ◌∷◌, ℕ, ltb, eqb}
use Rattle.codes.specs.Says.{Says, says, pick}

-- "Format numbers run 0 to 24, rate numbers 0 to 13": one of 0, 1, .., k − 1 is taken, with value v; any other gives 1
abbrev pub number_says : ℕ → ℕ → ℕ → Says
number_says k n v = pick (ltb n k) (says 0 (v ∷ [])) (says 1 [])

-- n is one of the codes
abbrev pub among : ℕ → List ℕ → Bool
among n [] = false
among n (c ∷ cs) = pick (eqb n c) true (among n cs)

-- one of the codes is taken, and everything else is refused by a number
abbrev pub code_says : List ℕ → ℕ → ℕ → Says
code_says cs refusal n = pick (among n cs) (says 0 (n ∷ [])) (says refusal [])
