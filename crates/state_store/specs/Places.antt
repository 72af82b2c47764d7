-- Where the parts of a state stand in its store, and what they take: the head, the three tables, parameters, lifecycles, tokens.
-- Assumes nothing.
use Rattle.std.specs.Prelude.{ℕ}

-- in the head: the counts, then what is kept of the stage, then the guard, and 8 bytes that are reserved
abbrev pub flat_place : ℕ
flat_place = 24

abbrev pub guard_place : ℕ
guard_place = 48

-- the tables follow, at their own places
abbrev pub head_size : ℕ
head_size = 64

-- after 12,224 bytes of them
abbrev pub params_place : ℕ
params_place = 12288

-- after the parameters of 127 streams, 16 bytes each
abbrev pub lives_place : ℕ
lives_place = 14320

-- after where each of 127 streams is in its lifecycle, a byte each
abbrev pub tokens_place : ℕ
tokens_place = 14447

-- after 32 tokens of 8
abbrev pub state_size : ℕ
state_size = 14703

-- all but the head
abbrev pub tables_size : ℕ
tables_size = 14639
