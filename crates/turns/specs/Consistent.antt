-- The consistency test of a ring: what calls leave never fails it.
-- Assumes nothing.
use Rattle.std.specs.Prelude.{Bool, ◌&&◌, ◌||◌, not, ℕ, ◌+◌, ◌*◌, ◌%◌, ltb, leb, eqb}
use Rattle.turns.specs.Ring.{direct, indirect}
use Rattle.turns.specs.Types.{Track}

-- the descriptors that a submission may take
abbrev pub mode_ok : ℕ → Bool
mode_ok descriptors = eqb descriptors direct || eqb descriptors indirect

-- head and tail are slots; what is in flight takes at most 32 descriptors, and stands from tail up to head
unfoldable pub placed_of : Track → Bool
placed_of t = mode_ok t.descriptors && (ltb t.head 32 && (ltb t.tail 32 && (leb (t.inflight * t.descriptors) 32 && eqb ((t.tail + t.inflight) % 32) t.head)))

-- what went out is within the frames; a transfer that runs has a period, and turns left
unfoldable pub paced_of : Track → Bool
paced_of t = leb t.next t.total && (not t.running || (ltb 0 t.period && ltb t.turns t.budget))

-- what was accepted is within what was lent at the start
abbrev pub kept_of : Track → Bool
kept_of t = leb t.kept t.lent

-- each completion took a turn
abbrev pub good_of : Track → Bool
good_of t = leb t.good t.turns

abbrev pub consistent_of : Track → Bool
consistent_of t = placed_of t && (paced_of t && (kept_of t && good_of t))
