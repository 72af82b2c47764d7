-- What the private functions take and promise, where the public definitions have no name for it.
-- Assumes nothing.
use Rattle.std.specs.Prelude.{List, [], ◌≡◌, ℕ, ◌+◌, ◌*◌, ◌≤◌, ◌<◌, length, Some, None, Ok}
use Rattle.trace.specs.Judge.{walk_of, judged_by}
use Rattle.trace.specs.Fields.{fields_from}
use Rattle.trace.specs.Trace.{sent_then, heard_then, said_then}
use Rattle.trace.specs.Types.{Track, Field, Stage, Judgement, Sent, Heard, Said, TraceError, BadTrace, NotARun}

-- a track that the judge keeps: slots in line, frames under 2^32 bytes
pub record Ready (t : Track) : Type 0 where
  pub room : t.inflight * t.descriptors ≤ 32
  pub few : t.inflight ≤ 32
  pub head_in : t.head < 32
  pub tail-in : t.tail < 32
  pub within : t.next ≤ t.total
  pub short : t.total < 4294967296

-- the offset that a refusal tells
abbrev pub error_at : TraceError → ℕ
error_at (BadTrace at) = at
error_at (NotARun at) = at

-- ---- what a move keeps

-- a track of a mode: a submission takes some descriptors, and needs no less
pub record Kept (least : ℕ) (t : Track) : Type 0 where
  pub some : 0 < t.descriptors
  pub enough : t.descriptors ≤ least
  pub ready : Ready t

-- what the judge says of a trace that scans
abbrev pub opened_of : ℕ → List ℕ → Judgement
opened_of per s = judged_by (Ok tt) per per (fields_from (length s) 0 s)

pub record Course (per : ℕ) (s : List ℕ) (at : ℕ) (st : Stage) (t : Track) : Type 0 where
  pub fuel : ℕ
  pub inside : at ≤ length s
  pub enough : length s ≤ at + fuel
  pub kept : Kept per t
  pub same : opened_of per s ≡ walk_of per st t at (fields_from fuel at s)

-- its numbers fit their widths
abbrev pub SentFits : Sent → Type 0
SentFits None = Unit {0}
SentFits (Some p) = (p.slot < 256) × (p.offset < 4294967296) × (p.len < 4294967296)

abbrev pub HeardFits : Heard → Type 0
HeardFits None = Unit {0}
HeardFits (Some f) = f.slot < 256

-- what a turn writes
abbrev pub turn_fields : Sent → Heard → Said → List Field
turn_fields sent heard said = sent_then sent (heard_then heard (said_then said []))
