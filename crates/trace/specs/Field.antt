-- The bytes of a field: tag 1, length 2, contents.
-- Assumes nothing.
use Rattle.std.specs.Prelude.{List, [], ◌∷◌, ℕ, ◌+◌}
use Rattle.layout.specs.All.{All}
use Rattle.layout.specs.Layout.{size, write, Fit}
use Rattle.layout.specs.Rows.{rows_bytes}
use Rattle.trace.specs.declared.field.Field.TheVariants as field
use Rattle.trace.specs.Types.{Field}

abbrev pub tag_of : Field → ℕ
tag_of (field.Start stream total period) = 0
tag_of (field.Submitted slot offset len) = 1
tag_of (field.Completed slot status) = 2
tag_of (field.End answer) = 3

-- the widths of its contents, and their values
abbrev pub widths_of : Field → List ℕ
widths_of (field.Start stream total period) = 4 ∷ 4 ∷ 4 ∷ []
widths_of (field.Submitted slot offset len) = 1 ∷ 4 ∷ 4 ∷ []
widths_of (field.Completed slot status) = 1 ∷ 4 ∷ []
widths_of (field.End answer) = 1 ∷ []

abbrev pub values_of : Field → List ℕ
values_of (field.Start stream total period) = stream ∷ total ∷ period ∷ []
values_of (field.Submitted slot offset len) = slot ∷ offset ∷ len ∷ []
values_of (field.Completed slot status) = slot ∷ status ∷ []
values_of (field.End answer) = answer ∷ []

abbrev pub bytes_of : Field → List ℕ
bytes_of f = write (1 ∷ 2 ∷ widths_of f) (tag_of f ∷ size (widths_of f) ∷ values_of f)

-- each value fits its width
abbrev pub Fits : Field → Type 0
Fits f = Fit (widths_of f) (values_of f)

-- so many they are
abbrev pub size_of : Field → ℕ
size_of f = 3 + size (widths_of f)

-- the bytes of a trace
abbrev pub trace_bytes : List Field → List ℕ
trace_bytes fs = rows_bytes bytes_of fs

abbrev pub AllFit : List Field → Type 0
AllFit fs = All Fits fs
