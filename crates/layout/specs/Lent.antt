-- What a call on lent slices comes to: its answer, by its number, and what a slice holds then.
-- Assumes nothing.
use Rattle.std.specs.Prelude.{List, ℕ}

-- a call that changes the store of a ring, a state or a device
pub record Made : Type 0 where
  pub answer : ℕ
  pub store : List ℕ

abbrev pub made : ℕ → List ℕ → Made
made a s = record { answer = a; store = s }

-- a call that tells something in the result slice
pub record Shown : Type 0 where
  pub answer : ℕ
  pub result : List ℕ

abbrev pub shown : ℕ → List ℕ → Shown
shown a r = record { answer = a; result = r }

-- what is lent has this length: message and result at the least, an answer page exactly
abbrev pub message_size : ℕ
message_size = 24

abbrev pub page_size : ℕ
page_size = 4096

abbrev pub result_size : ℕ
result_size = 512
