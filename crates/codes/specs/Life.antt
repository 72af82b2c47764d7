-- The lifecycle of a stream: VirtIO 1.2, 5.14.6.6.1, PCM Command Lifecycle. "every stream record gains its state, starting at 'set parameters'": a state is
-- the last command that was ok, 0 set parameters, 1 prepare, 2 release, 3 start, 4 stop, which is the command's code less 0x0101.
-- Assumes nothing.
use Rattle.std.specs.Prelude.{Bool, ◌||◌, List, [], ◌∷◌, ℕ, eqb, get_or}
use Rattle.codes.specs.Codes.{among}

-- the standard's table, a row a state: SET PARAMETERS, then PREPARE, RELEASE, START and STOP, each with the commands that may follow it
abbrev pub life_table : List (List ℕ)
life_table =
    (0 ∷ 1 ∷ [])
    ∷ (0 ∷ 1 ∷ 2 ∷ 3 ∷ [])
    ∷ (0 ∷ 1 ∷ [])
    ∷ (4 ∷ [])
    ∷ (2 ∷ 3 ∷ [])
    ∷ []

-- "A command that the table does not permit from the present state is not sent." A number that is no state permits nothing
unfoldable pub permits_of : ℕ → ℕ → Bool
permits_of life command = among command (get_or life_table life [])

-- "Transfers are taken in the prepared and started states."
abbrev pub takes_of : ℕ → Bool
takes_of life = eqb life 1 || eqb life 3
