-- THE JUDGE, as it is run: what may follow, as tests, and the byte of a field through which no run agrees.
-- Assumes nothing.
use Rattle.std.specs.Prelude.{Bool, true, false, ◌||◌, List, [], ◌∷◌, ℕ, suc, ◌+◌, ltb, eqb, length, Result, Ok, Err}
use Rattle.layout.specs.Layout.{size}
use Rattle.codes.specs.Says.{guard, Says, says}
use Rattle.codes.specs.Answers.{says_refusal}
use Rattle.codes.specs.declared.answers.Refusal.{Refusal}
use Rattle.codes.specs.declared.answers.Refusal.TheVariants.{InvalidParam}
use Rattle.turns.specs.Rules.{choose_of, next_span, submit, judge_of, played_of, release}
use Rattle.turns.specs.Ring.{new_track}
use Rattle.turns.specs.Consistent.{mode_ok}
use Rattle.turns.specs.Calls as calls
use Rattle.trace.specs.Field.{bytes_of, size_of}
use Rattle.trace.specs.Fields.{scan_from, fields_from}
use Rattle.trace.specs.declared.field.Field.TheVariants as field
use Rattle.trace.specs.Types.{Track, Choice, Submit, Finish, Wait, Verdict, WrongSlot, Good, Bad, Field, Stage, Opening, Out, Back, Failed, Over, State, Judgement, BadTrace, NotARun}

-- the transfer has not ended
abbrev pub alive : Stage → Bool
alive Opening = true
alive Out = true
alive Back = true
alive Failed = false
alive Over = false

-- a submission: by the next turn, which submits
abbrev pub may_send : Stage → Choice → Bool
may_send st Submit = alive st
may_send st Finish = false
may_send st Wait = false

-- a completion: in the turn that submitted, or in a turn that submits nothing
abbrev pub may_free : Stage → Choice → Bool
may_free Out c = true
may_free Opening Wait = true
may_free Opening Submit = false
may_free Opening Finish = false
may_free Back Wait = true
may_free Back Submit = false
may_free Back Finish = false
may_free Failed c = false
may_free Over c = false

-- an end: 2 after a bad completion; else 9 once a turn was run, 6 in a turn that submitted or submits nothing, 0 by the turn that finishes
abbrev pub may_end : Stage → Choice → ℕ → Bool
may_end Opening Submit a = false
may_end Opening Finish a = eqb a 0
may_end Opening Wait a = eqb a 6 || eqb a 9
may_end Out c a = eqb a 6 || eqb a 9
may_end Back Submit a = eqb a 9
may_end Back Finish a = eqb a 0 || eqb a 9
may_end Back Wait a = eqb a 6 || eqb a 9
may_end Failed c a = eqb a 2
may_end Over c a = false

-- some end may follow
abbrev pub ends : Stage → Choice → Bool
ends Opening Submit = false
ends Opening Finish = true
ends Opening Wait = true
ends Out c = true
ends Back c = true
ends Failed c = true
ends Over c = false

-- how many bytes agree, from the front
abbrev pub agree : List ℕ → List ℕ → ℕ
agree [] ys = 0
agree (x ∷ xs) [] = 0
agree (x ∷ xs) (y ∷ ys) = guard (eqb x y) 0 (suc (agree xs ys))

-- the submission that the next turn makes
abbrev pub due_of : Track → Field
due_of t = field.Submitted t.head t.next (next_span t)

-- a field leads on
abbrev pub on : Stage → Track → Result State ℕ
on st t = Ok (record { stage = st; track = t })

-- a submission is the one that is due, or differs from it in a first byte
abbrev pub sent_move : Track → ℕ → ℕ → ℕ → Result State ℕ
sent_move t slot offset len =
    let k = agree (bytes_of (field.Submitted slot offset len)) (bytes_of (due_of t)) in
    guard (eqb slot t.head) (Err k) (guard (eqb offset t.next) (Err k) (guard (eqb len (next_span t)) (Err k) (on Out (submit t))))

abbrev pub freed_move : Verdict → Track → Result State ℕ
freed_move WrongSlot t = Err 3
freed_move Good t = on Back (release t)
freed_move (Bad a) t = on Failed (release t)

-- one field more
abbrev pub move_by : Stage → Choice → Track → Field → Result State ℕ
move_by st c t (field.Start stream total period) = Err 0
move_by st c t (field.Submitted slot offset len) = guard (may_send st c) (Err 0) (sent_move t slot offset len)
move_by st c t (field.Completed slot status) = guard (may_free st c) (Err 0) (freed_move (judge_of t slot (played_of status)) t)
move_by st c t (field.End answer) = guard (ends st c) (Err 0) (guard (may_end st c answer) (Err 3) (on Over t))

unfoldable pub move_of : ℕ → Stage → Track → Field → Result State ℕ
move_of least st t f = move_by st (choose_of least t) t f

-- "or the length where the trace only ends early"
abbrev pub rest_by : Stage → ℕ → Judgement
rest_by Over at = Ok tt
rest_by Opening at = Err (NotARun at)
rest_by Out at = Err (NotARun at)
rest_by Back at = Err (NotARun at)
rest_by Failed at = Err (NotARun at)

-- field after field, from an offset on
abbrev pub on_by : Result State ℕ → ℕ → ℕ → (Stage → Track → ℕ → Judgement) → Judgement
on_by (Ok s) at size rest = rest s.stage s.track (at + size)
on_by (Err k) at size rest = Err (NotARun (at + k))

unfoldable pub walk_of : ℕ → Stage → Track → ℕ → List Field → Judgement
walk_of least st t at [] = rest_by st at
walk_of least st t at (f ∷ fs) = on_by (move_of least st t f) at (size_of f) (λ st' t' at'. walk_of least st' t' at' fs)

-- a transfer at its start: an idle ring of that many descriptors to a submission
abbrev pub begun : ℕ → ℕ → ℕ → ℕ → ℕ → Track
begun per stream total period budget = calls.begun (new_track per) stream total period budget

-- the start comes first, with any stream and frame length and any period but 0: its last byte is the first through which no run agrees
abbrev pub start_by : ℕ → ℕ → Field → List Field → Judgement
start_by per least (field.Start stream total period) fs = guard (ltb 0 period) (Err (NotARun 14)) (walk_of least Opening (begun per stream total period 0) 15 fs)
start_by per least (field.Submitted slot offset len) fs = Err (NotARun 0)
start_by per least (field.Completed slot status) fs = Err (NotARun 0)
start_by per least (field.End answer) fs = Err (NotARun 0)

-- "18 BadTrace for an empty trace, an unknown tag, a wrong length or a cut field, then 19 NotARun": 18 over the whole trace
abbrev pub judged_by : Judgement → ℕ → ℕ → List Field → Judgement
judged_by (Ok u) per least [] = Err (BadTrace 0)
judged_by (Ok u) per least (f ∷ fs) = start_by per least f fs
judged_by (Err e) per least fs = Err e

-- THE JUDGE of a mode: descriptors to a submission, and the least room that one needs
unfoldable pub judges : ℕ → ℕ → List ℕ → Judgement
judges per least s = judged_by (scan_from (length s) 0 s) per least (fields_from (length s) 0 s)

-- 1 for a mode that is none: 3 is direct, and 1 indirect (2026-14: the judge takes "the mode from the caller")
abbrev pub judged_of : ℕ → List ℕ → Result Judgement Refusal
judged_of mode s = guard (mode_ok mode) (Err InvalidParam) (Ok (judges mode mode s))

-- ---- the number and the values of each

abbrev pub says_judgement : Judgement → Says
says_judgement (Ok u) = says 0 []
says_judgement (Err (BadTrace at)) = says 18 (at ∷ [])
says_judgement (Err (NotARun at)) = says 19 (at ∷ [])

abbrev pub says_judged : Result Judgement Refusal → Says
says_judged (Ok j) = says_judgement j
says_judged (Err r) = says_refusal r

-- the offset that a refusal tells; 0 where there is none
abbrev pub place_of : Judgement → ℕ
place_of (Ok u) = 0
place_of (Err (BadTrace at)) = at
place_of (Err (NotARun at)) = at

abbrev pub place_of_judged : Result Judgement Refusal → ℕ
place_of_judged (Ok j) = place_of j
place_of_judged (Err r) = 0
