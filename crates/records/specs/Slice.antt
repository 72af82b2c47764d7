-- A record in a slice of bytes: what reading it and writing it say, for every record by its layout.
-- "A slice shorter than the record read or written in it" is BadLength, 10, and leaves the slice unchanged.
-- Assumes nothing.
use Rattle.std.specs.Prelude.{List, [], ◌++◌, ℕ, leb, length, drop, Result}
use Rattle.layout.specs.Layout.{size, write, read}
use Rattle.codes.specs.Says.{Says, says, pick}
use Rattle.codes.specs.Answers.{says_result}
use Rattle.codes.specs.declared.answers.Refusal.{Refusal}

-- reading at the front of s: the values
abbrev pub read_says : List ℕ → List ℕ → Says
read_says ws s = pick (leb (size ws) (length s)) (says 0 (read ws s)) (says 10 [])

-- writing at the front of l: what is said
abbrev pub write_says : List ℕ → List ℕ → Says
write_says ws l = pick (leb (size ws) (length l)) (says 0 []) (says 10 [])

-- writing at the front of l: what l holds then. Only the record's own bytes change
abbrev pub written : List ℕ → List ℕ → List ℕ → List ℕ
written ws vs l = pick (leb (size ws) (length l)) (write ws vs ++ drop (size ws) l) l

abbrev pub says_written : Result (Unit {0}) Refusal → Says
says_written = says_result (λ done. [])
