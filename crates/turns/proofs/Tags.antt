-- What the `else` of a `let Said::Going = .. else` knows of what was said.
-- Assumes nothing.
use mathlib.Core.Path.{◌≡◌, refl}
use mathlib.Core.Bool.{false}
use Rattle.turns.specs.Ring.{goes_on}
use Rattle.turns.specs.Types.{Said, Going, Done, Ended, Refused}

pub stops : (s : Said) → (s ≡ Going → ⊥) → goes_on s ≡ false
stops Going k = absurd (k refl)
stops Done k = refl
stops (Ended a) k = refl
stops (Refused a) k = refl
