-- 2026-12: "lists every difference in order: a field only in one, or the same position and tag with other contents, both named; other tags at one position count as one only
-- in the first, then one only in the second".
-- Assumes nothing.
use Rattle.std.specs.Prelude.{Bool, true, false, ◌&&◌, List, [], ◌∷◌, ◌++◌, ℕ, suc, ◌-◌, max, eqb, take, drop, length}
use Rattle.codes.specs.Says.{guard}
use Rattle.trace.specs.Field.{tag_of}
use Rattle.trace.specs.Fields.{fields_from}
use Rattle.trace.specs.declared.field.Field.TheVariants as field
use Rattle.trace.specs.Types.{Field, Contents, Difference, OnlyFirst, OnlySecond, Other}

-- a field's numbers, in its order; 0 where it has fewer
abbrev pub a_of : Field → ℕ
a_of (field.Start stream total period) = stream
a_of (field.Submitted slot offset len) = slot
a_of (field.Completed slot status) = slot
a_of (field.End answer) = answer

abbrev pub b_of : Field → ℕ
b_of (field.Start stream total period) = total
b_of (field.Submitted slot offset len) = offset
b_of (field.Completed slot status) = status
b_of (field.End answer) = 0

abbrev pub c_of : Field → ℕ
c_of (field.Start stream total period) = period
c_of (field.Submitted slot offset len) = len
c_of (field.Completed slot status) = 0
c_of (field.End answer) = 0

abbrev pub contents_of : Field → Contents
contents_of f = record { tag = tag_of f; a = a_of f; b = b_of f; c = c_of f }

abbrev pub numbers_of : Field → List ℕ
numbers_of f = (contents_of f).a ∷ (contents_of f).b ∷ (contents_of f).c ∷ []

-- the same numbers
abbrev pub alike_of : List ℕ → List ℕ → Bool
alike_of [] [] = true
alike_of [] (y ∷ ys) = false
alike_of (x ∷ xs) [] = false
alike_of (x ∷ xs) (y ∷ ys) = eqb x y && alike_of xs ys

-- two fields at one position
abbrev pub pair_of : ℕ → Field → Field → List Difference → List Difference
pair_of i f g rest = guard (eqb (tag_of f) (tag_of g)) (OnlyFirst i f ∷ OnlySecond i g ∷ rest) (guard (alike_of (numbers_of f) (numbers_of g)) (Other i f g ∷ rest) rest)

-- the differences from a position on
unfoldable pub differences_from : ℕ → List Field → List Field → List Difference
differences_from i [] [] = []
differences_from i [] (g ∷ gs) = OnlySecond i g ∷ differences_from (suc i) [] gs
differences_from i (f ∷ fs) [] = OnlyFirst i f ∷ differences_from (suc i) fs []
differences_from i (f ∷ fs) (g ∷ gs) = pair_of i f g (differences_from (suc i) fs gs)

-- the list applied to the fields of the first from position i on: what the list does not name stays
unfoldable pub applied_from : ℕ → List Difference → List Field → List Field
applied_from i [] fs = fs
applied_from i (OnlyFirst p f ∷ ds) fs = take (p - i) fs ++ applied_from (suc p) ds (drop (suc (p - i)) fs)
applied_from i (OnlySecond p g ∷ ds) fs = take (p - i) fs ++ (g ∷ applied_from (max i p) ds (drop (p - i) fs))
applied_from i (Other p f g ∷ ds) fs = take (p - i) fs ++ (g ∷ applied_from (suc p) ds (drop (suc (p - i)) fs))

-- the fields of a trace
abbrev pub fields_in : List ℕ → List Field
fields_in s = fields_from (length s) 0 s

-- ---- two traces

-- the differences of two traces
unfoldable pub diffs_of : List ℕ → List ℕ → List Difference
diffs_of a b = differences_from 0 (fields_in a) (fields_in b)
