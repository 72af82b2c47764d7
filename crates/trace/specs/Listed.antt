-- 2026-12's list of differences in a lent room: rows of 34 bytes, position 8, kind 1 (0 only in the first, 1 only in the second, 2 other contents), tag 1, three numbers of
-- the first trace's field and three of the second's, 4 each.
-- Assumes nothing.
use Rattle.std.specs.Prelude.{List, [], ◌∷◌, ℕ, ◌*◌, zero, suc, leb, length, get_or, Result, Ok, Err}
use Rattle.std.proofs.lemmas.List.Edits.{sets}
use Rattle.layout.specs.Layout.{write, read_at}
use Rattle.layout.specs.Rows.{rows_bytes}
use Rattle.codes.specs.Says.{guard, Says, says}
use Rattle.trace.specs.Fields.{scan_of}
use Rattle.trace.specs.Compare.{contents_of, diffs_of}
use Rattle.trace.specs.declared.field.Field.TheVariants as field
use Rattle.trace.specs.Types.{Row, Judgement, BadTrace, NotARun, CompareError, BadFirst, BadSecond, ListFull, Difference, OnlyFirst, OnlySecond, Other, Field}

-- ---- a row

abbrev pub row_by : Difference → Row
row_by (OnlyFirst i f) = record { position = i; kind = 0; tag = (contents_of f).tag; a = (contents_of f).a; b = (contents_of f).b; c = (contents_of f).c; x = 0; y = 0; z = 0 }
row_by (OnlySecond i g) = record { position = i; kind = 1; tag = (contents_of g).tag; a = 0; b = 0; c = 0; x = (contents_of g).a; y = (contents_of g).b; z = (contents_of g).c }
row_by (Other i f g) =
    record { position = i; kind = 2; tag = (contents_of f).tag; a = (contents_of f).a; b = (contents_of f).b; c = (contents_of f).c; x = (contents_of g).a; y = (contents_of g).b; z = (contents_of g).c }

abbrev pub row_widths : List ℕ
row_widths = 8 ∷ 1 ∷ 1 ∷ 4 ∷ 4 ∷ 4 ∷ 4 ∷ 4 ∷ 4 ∷ []

abbrev pub row_values : Row → List ℕ
row_values r = r.position ∷ r.kind ∷ r.tag ∷ r.a ∷ r.b ∷ r.c ∷ r.x ∷ r.y ∷ r.z ∷ []

abbrev pub row_of : Difference → List ℕ
row_of d = write row_widths (row_values (row_by d))

-- "18 for either trace, the first one judged first"
abbrev pub tallied_by : Judgement → Judgement → ℕ → Result ℕ CompareError
tallied_by (Ok u) (Ok v) n = Ok n
tallied_by (Ok u) (Err (BadTrace at)) n = Err (BadSecond at)
tallied_by (Ok u) (Err (NotARun at)) n = Err (BadSecond at)
tallied_by (Err (BadTrace at)) j n = Err (BadFirst at)
tallied_by (Err (NotARun at)) j n = Err (BadFirst at)

abbrev pub tallied_of : List ℕ → List ℕ → Result ℕ CompareError
tallied_of a b = tallied_by (scan_of a) (scan_of b) (length (diffs_of a b))

-- "20 ListFull exactly when the differences outnumber the room lent": the room is counted in whole rows
abbrev pub fitted_by : Result ℕ CompareError → ℕ → Result ℕ CompareError
fitted_by (Ok n) room = guard (leb (n * 34) room) (Err ListFull) (Ok n)
fitted_by (Err e) room = Err e

abbrev pub compared_of : List ℕ → List ℕ → ℕ → Result ℕ CompareError
compared_of a b room = fitted_by (tallied_of a b) room

-- what the room holds afterwards: the rows at its front, or, "leaving it unchanged", what it held
abbrev pub listed_by : Result ℕ CompareError → List Difference → List ℕ → List ℕ
listed_by (Ok n) ds l = sets l 0 (rows_bytes row_of ds)
listed_by (Err e) ds l = l

abbrev pub listed_of : List ℕ → List ℕ → List ℕ → List ℕ
listed_of a b l = listed_by (compared_of a b (length l)) (diffs_of a b) l

-- its number, and its values: the count, or which trace and where
abbrev pub says_compared : Result ℕ CompareError → Says
says_compared (Ok n) = says 0 (n ∷ [])
says_compared (Err (BadFirst at)) = says 18 (0 ∷ at ∷ [])
says_compared (Err (BadSecond at)) = says 18 (1 ∷ at ∷ [])
says_compared (Err ListFull) = says 20 []

-- the count; 0 where a trace is refused
abbrev pub count_of : Result ℕ CompareError → ℕ
count_of (Ok n) = n
count_of (Err e) = 0

-- ---- a row, read back: by its tag, and by its kind

abbrev pub field_by : ℕ → ℕ → ℕ → ℕ → Field
field_by zero a b c = field.Start a b c
field_by (suc zero) a b c = field.Submitted a b c
field_by (suc (suc zero)) a b c = field.Completed a b
field_by (suc (suc (suc n))) a b c = field.End a

abbrev pub kind_by : ℕ → ℕ → Field → Field → Difference
kind_by zero i f g = OnlyFirst i f
kind_by (suc zero) i f g = OnlySecond i g
kind_by (suc (suc n)) i f g = Other i f g

abbrev pub diff_by : List ℕ → Difference
diff_by vs = kind_by (get_or vs 1 0) (get_or vs 0 0) (field_by (get_or vs 2 0) (get_or vs 3 0) (get_or vs 4 0) (get_or vs 5 0)) (field_by (get_or vs 2 0) (get_or vs 6 0) (get_or vs 7 0) (get_or vs 8 0))

-- the difference that the row at a place of the room tells
abbrev pub row_at : ℕ → List ℕ → Difference
row_at o s = diff_by (read_at o row_widths s)
