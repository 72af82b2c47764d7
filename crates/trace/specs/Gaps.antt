-- Two traces at one position: what the private functions of the comparison (2026-12) take and promise.
-- Assumes nothing.
use Rattle.std.specs.Prelude.{Bool, true, false, List, [], ◌∷◌, ℕ, eqb, Option, Some, None}
use Rattle.codes.specs.Says.{guard}
use Rattle.trace.specs.Field.{tag_of, size_of}
use Rattle.trace.specs.Compare.{numbers_of, alike_of}
use Rattle.trace.specs.Types.{Field, Gap, Same, One, Two, Difference, OnlyFirst, OnlySecond, Other}

abbrev pub gap_of : ℕ → Option Field → Option Field → Gap
gap_of i None None = Same
gap_of i None (Some g) = One (OnlySecond i g)
gap_of i (Some f) None = One (OnlyFirst i f)
gap_of i (Some f) (Some g) = guard (eqb (tag_of f) (tag_of g)) (Two (OnlyFirst i f) (OnlySecond i g)) (guard (alike_of (numbers_of f) (numbers_of g)) (One (Other i f g)) Same)

abbrev pub gap_list : Gap → List Difference
gap_list Same = []
gap_list (One d) = d ∷ []
gap_list (Two d e) = d ∷ e ∷ []

abbrev pub found_size : Option Field → ℕ
found_size (Some f) = size_of f
found_size None = 0

-- neither trace goes on
abbrev pub over_of : Option Field → Option Field → Bool
over_of None None = true
over_of None (Some g) = false
over_of (Some f) y = false
