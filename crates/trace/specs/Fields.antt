-- A trace as bytes. "Fix a trace as tagged fields, one-byte tag and two-byte length: 0 start (stream, frame length, period, each 4 bytes), 1 submitted (slot 1,
-- offset 4, length 4), 2 completed (slot 1, status 4), 3 end (answer number 1)."
-- Assumes nothing.
use Rattle.std.specs.Prelude.{List, [], ◌∷◌, ℕ, zero, suc, ◌+◌, ltb, leb, eqb, length, Option, Some, None, Ok, Err}
use Rattle.layout.specs.Bytes.{num_at}
use Rattle.codes.specs.Says.{pick, guard}
use Rattle.trace.specs.Field.{size_of}
use Rattle.trace.specs.declared.field.Field.TheVariants as field
use Rattle.trace.specs.Types.{Field, Judgement, BadTrace}

-- ---- reading: the field at a place

abbrev pub sized : ℕ → ℕ → List ℕ → Field → Option Field
sized n o s f = guard (eqb (num_at (o + 1) 2 s) n) None (guard (leb (o + (3 + n)) (length s)) None (Some f))

-- by its tag
abbrev pub tagged_at : ℕ → ℕ → List ℕ → Option Field
tagged_at zero o s = sized 12 o s (field.Start (num_at (o + 3) 4 s) (num_at (o + 7) 4 s) (num_at (o + 11) 4 s))
tagged_at (suc zero) o s = sized 9 o s (field.Submitted (num_at (o + 3) 1 s) (num_at (o + 4) 4 s) (num_at (o + 8) 4 s))
tagged_at (suc (suc zero)) o s = sized 5 o s (field.Completed (num_at (o + 3) 1 s) (num_at (o + 4) 4 s))
tagged_at (suc (suc (suc zero))) o s = sized 1 o s (field.End (num_at (o + 3) 1 s))
tagged_at (suc (suc (suc (suc n)))) o s = None

unfoldable pub field_at : ℕ → List ℕ → Option Field
field_at o s = guard (leb (o + 3) (length s)) None (tagged_at (num_at o 1 s) o s)

-- the fields from a place on, up to the end or the first that is none; each takes 4 bytes or more
abbrev pub more_fields : Option Field → ℕ → (ℕ → List Field) → List Field
more_fields (Some f) o rest = f ∷ rest (o + size_of f)
more_fields None o rest = []

unfoldable pub fields_from : ℕ → ℕ → List ℕ → List Field
fields_from zero o s = []
fields_from (suc fuel) o s = pick (eqb o (length s)) [] (more_fields (field_at o s) o (λ p. fields_from fuel p s))

-- 18: the place of the first field that is none
abbrev pub scan_by : Option Field → ℕ → (ℕ → Judgement) → Judgement
scan_by (Some f) o rest = rest (o + size_of f)
scan_by None o rest = Err (BadTrace o)

unfoldable pub scan_from : ℕ → ℕ → List ℕ → Judgement
scan_from zero o s = Ok tt
scan_from (suc fuel) o s = pick (eqb o (length s)) (Ok tt) (scan_by (field_at o s) o (λ p. scan_from fuel p s))

-- 18 of a trace: an empty one, or the first field that is none
unfoldable pub scan_of : List ℕ → Judgement
scan_of s = guard (ltb 0 (length s)) (Err (BadTrace 0)) (scan_from (length s) 0 s)
