-- A run of document 01's turns that writes a trace, and what the judge's two refusals tell of one.
-- Assumes nothing.
use Rattle.std.specs.Prelude.{List, ◌++◌, ◌≡◌, ℕ, suc, ◌+◌, ◌<◌, ◌^◌, ◌≤◌, length, take, Some, None}
use Rattle.layout.specs.All.{All}
use Rattle.layout.specs.Bytes.{bytes_at}
use Rattle.turns.specs.Log.{played, run}
use Rattle.trace.specs.Trace.{trace_of}
use Rattle.trace.specs.Field.{Fits, AllFit, trace_bytes}
use Rattle.trace.specs.Judge.{begun}
use Rattle.trace.specs.Fields.{field_at}
use Rattle.trace.specs.declared.field.Field.TheVariants as field
use Rattle.trace.specs.Types.{Reading, Field}

-- a reading that the queue can say: its numbers fit 4 bytes
abbrev pub Real : Reading → Type 0
Real None = Unit {0}
Real (Some c) = (c.slot < 256 ^ 4) × (c.status < 256 ^ 4)

abbrev pub AllReal : List Reading → Type 0
AllReal script = All Real script

-- A RUN that writes a trace
pub record IsRun (per least : ℕ) (trace : List Field) : Type 0 where
  pub stream : ℕ
  pub total : ℕ
  pub period : ℕ
  pub budget : ℕ
  pub script : List Reading
  pub some : 0 < period
  pub wide : Fits (field.Start stream total period)
  pub real : AllReal script
  pub turns : 0 < budget
  pub writes : trace_of stream total period (run played least budget (begun per stream total period budget) script).log ≡ trace

-- a run of the turns that writes these bytes
pub record RunOf (per least : ℕ) (s : List ℕ) : Type 0 where
  pub trace : List Field
  pub run : IsRun per least trace
  pub bytes : trace_bytes trace ≡ s

-- the trace is whole fields, one at least: nothing of it is what 18 is for
pub record WholeFields (s : List ℕ) : Type 0 where
  pub fields : List Field
  pub some : 0 < length fields
  pub fit : AllFit fields
  pub bytes : trace_bytes fields ≡ s

-- from o on: k bytes of whole fields, and then no field
pub record Breaks (s : List ℕ) (o at : ℕ) : Type 0 where
  pub k : ℕ
  pub place : at ≡ o + k
  pub fields : List Field
  pub fit : AllFit fields
  pub bytes : bytes_at o k s ≡ trace_bytes fields
  pub inside : at < length s
  pub none : field_at at s ≡ None

-- some run's trace begins with the first `at` bytes of s
pub record Agrees (per least : ℕ) (s : List ℕ) (at : ℕ) : Type 0 where
  pub trace : List ℕ
  pub run : RunOf per least trace
  pub more : List ℕ
  pub same : take at s ++ more ≡ trace

-- what 19 tells: a run agrees up to that byte; where there is such a byte, none agrees through it
pub record Told (per least : ℕ) (s : List ℕ) (at : ℕ) : Type 0 where
  pub inside : at ≤ length s
  pub up_to : Agrees per least s at
  pub through : at < length s → Agrees per least s (suc at) → ⊥
