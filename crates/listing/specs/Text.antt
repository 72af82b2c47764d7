-- The text of a line while it is made: what it says, and how bytes come after it.
-- Assumes nothing.
use Rattle.std.specs.Prelude.{◌≡◌, List, ◌++◌, ℕ, ◌+◌, length, take}
use Rattle.listing.specs.declared.lines.Text.{Text}

abbrev pub text_of : Text → List ℕ
text_of t = take t.len t.bytes

-- r is t with the bytes w after it
pub record Adds (t : Text) (w : List ℕ) (r : Text) : Type 0 where
  pub longer : r.len ≡ t.len + length w
  pub more : text_of r ≡ text_of t ++ w
