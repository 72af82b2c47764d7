-- What the tests of a head's fields promise: the test of wholeness by parts, for the private functions that make it.
-- Assumes nothing.
use Rattle.std.specs.Prelude.{Bool, ◌&&◌, ◌==◌}
use Rattle.state_store.specs.Types.{Flat}

-- what only parameters use is 0
abbrev pub plain_of : Flat → Bool
plain_of f = f.third == 0 && (f.known == 0 && (f.channels == 0 && (f.format == 0 && f.rate == 0)))

-- and the two fields before
abbrev pub short_of : Flat → Bool
short_of f = f.first == 0 && (f.second == 0 && plain_of f)

-- the fields of two calls agree: same_flat from the call's number on
abbrev pub same_call : Flat → Flat → Bool
same_call f g =
    (f.call == g.call)
    && (f.part == g.part
    && (f.id == g.id
    && (f.first == g.first
    && (f.second == g.second
    && (f.third == g.third
    && (f.known == g.known
    && (f.channels == g.channels
    && (f.format == g.format && f.rate == g.rate))))))))
