-- The trace of a run, as fields. "Each transfer turn writes its submission, then its completion; the end comes last. Quiet readings and wrong tokens leave no field."
-- Assumes nothing.
use Rattle.std.specs.Prelude.{List, [], ◌∷◌, ℕ, Some, None}
use Rattle.codes.specs.Answers.{says_refusal}
use Rattle.turns.specs.Log.{Line}
use Rattle.trace.specs.declared.field.Field.TheVariants as field
use Rattle.trace.specs.Types.{Sent, Heard, Said, Going, Done, Ended, Refused, Field}

-- a turn's submission, before what follows
abbrev pub sent_then : Sent → List Field → List Field
sent_then None rest = rest
sent_then (Some p) rest = field.Submitted p.slot p.offset p.len ∷ rest

-- its completion
abbrev pub heard_then : Heard → List Field → List Field
heard_then None rest = rest
heard_then (Some f) rest = field.Completed f.slot f.status ∷ rest

-- the end, where the turn gave an answer; a refused turn writes nothing
abbrev pub said_then : Said → List Field → List Field
said_then Going rest = rest
said_then Done rest = field.End 0 ∷ []
said_then (Ended a) rest = field.End (says_refusal a).number ∷ []
said_then (Refused r) rest = []

-- what the turns of a log write
abbrev pub fields_of : List Line → List Field
fields_of [] = []
fields_of (l ∷ ls) = sent_then l.sent (heard_then l.heard (said_then l.said (fields_of ls)))

-- THE TRACE: the start stands before the first turn's; "a transfer that ran no turn writes nothing"
abbrev pub trace_of : ℕ → ℕ → ℕ → List Line → List Field
trace_of stream total period [] = []
trace_of stream total period (l ∷ ls) = field.Start stream total period ∷ fields_of (l ∷ ls)
