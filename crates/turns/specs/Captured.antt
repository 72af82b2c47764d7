-- What demand 3 takes of a capture and what it asks (2026-09), as definitions over its log, its ring and its recording.
-- Assumes nothing.
use Rattle.std.specs.Prelude.{ℕ, ◌+◌, ◌-◌, ◌*◌, ◌%◌, ◌≤◌, ◌<◌, min, ◌≡◌, ◌⊎◌, List, [], ◌∷◌, ◌++◌, length, get_or, take, drop, Ok, Err, Some, None}
use Rattle.turns.specs.Cut.{join}
use Rattle.turns.specs.Rules.{choose_of, comes_to}
use Rattle.turns.specs.Calls.{turned_of, started_of}
use Rattle.turns.specs.Capture.{catch_of, captured_of, capture_call, recording_after, capture_start}
use Rattle.turns.specs.Log.{Line, Ran, Told, waiting_by, next_of, rest_of, loop_of, Judge, sends, frees}
use Rattle.turns.specs.Types.{Ring, Heard, Turned, Outcome, Catch, freed_slot, sent_period}

-- what the queue says in one turn, with the bytes that the host lends of its buffer
pub record Came : Type 0 where
  pub kind : ℕ
  pub slot : ℕ
  pub written : ℕ
  pub bytes : List ℕ

abbrev pub nothing_came : Came
nothing_came = record { kind = 0; slot = 0; written = 0; bytes = [] }

abbrev pub catch_in : Came → Catch
catch_in x = catch_of x.kind x.slot x.written x.bytes

abbrev pub payload_of : Came → List ℕ
payload_of x = take (x.written - 8) x.bytes

-- a capture judges the written length, and then the status
abbrev pub captured : Judge Came
captured = record { quiet = nothing_came; reading = λ x. (catch_in x).reading; judge = λ t x. captured_of t.period x.written }

-- ---- the start of a capture of so many periods on a ring, and the turns after it

pub record Taken : Type 0 where
  pub ring : Ring
  pub recording : List ℕ

abbrev pub capture_starts : Ring → ℕ → ℕ → ℕ → ℕ → List ℕ → Turned
capture_starts r stream periods period budget recording = started_of r (capture_start r.track stream periods period (length recording) budget)

abbrev pub taking : Taken → Came → Told Taken
taking a x =
    let t = a.ring.track in
    let s = capture_call t (length a.recording) (catch_in x) in
    let u = turned_of a.ring s in
    record {
      left = record { ring = u.ring; recording = recording_after t s x.bytes a.recording };
      line = record { sent = u.sent; waiting = waiting_by (choose_of t.descriptors t) t; reading = (catch_in x).reading; heard = u.heard; said = u.said };
    }

abbrev pub takes : ℕ → Taken → List Came → Ran Taken
takes = loop_of nothing_came taking

abbrev pub captures : Ring → ℕ → ℕ → ℕ → ℕ → List ℕ → List Came → Ran Taken
captures r stream periods period budget recording script = takes budget (record { ring = (capture_starts r stream periods period budget recording).ring; recording = recording }) script

-- ---- what it takes

-- of a completion (kind 0 is quiet) the host lends what the device wrote, or all that it could have written: else the turn is refused with 10, and changes nothing
abbrev pub Lends : ℕ → Came → Type 0
Lends period x = (x.kind ≡ 0) ⊎ (min x.written (period + 8) ≤ length x.bytes)

-- "if every written length is good"
abbrev pub LengthGood : ℕ → Came → Type 0
LengthGood period x = (x.kind ≡ 0) ⊎ ((8 ≤ x.written) × (x.written ≤ period + 8))

-- ---- what it asks

-- the accepted payloads: of completions that freed their slot and came to no refusal
abbrev pub taken_more : Outcome → Heard → List ℕ → List (List ℕ) → List (List ℕ)
taken_more (Ok tt) (Some f) payload rest = payload ∷ rest
taken_more (Ok tt) None payload rest = rest
taken_more (Err r) heard payload rest = rest

abbrev pub taken : ℕ → List Line → List Came → List (List ℕ)
taken period [] script = []
taken period (l ∷ ls) script =
    let x = next_of nothing_came script in
    taken_more (comes_to (captured_of period x.written) l.reading) l.heard (payload_of x) (taken period ls (rest_of script))

-- "Accepted payloads are joined into a lent recording .. Only the recording's first accepted bytes change", however it ended
pub record Joined (periods period : ℕ) (recording : List ℕ) (script : List Came) (h : Ran Taken) : Type 0 where
  pub kept : h.at.ring.track.kept ≡ length (join (taken period h.log script))
  pub joined : h.at.recording ≡ join (taken period h.log script) ++ drop h.at.ring.track.kept recording
  -- so there always is room
  pub within : h.at.ring.track.kept ≤ periods * period

-- what a capture says that answers Ok: all periods went out in order, whole ones, and each was completed with 0x8000 and a good length, so that its
-- payload was accepted, no earlier than it went out
pub record Recorded (periods period : ℕ) (script : List Came) (log : List Line) : Type 0 where
  pub out : length (sends log) ≡ periods
  pub order : (i : ℕ) → i < periods → get_or (sends log) i None ≡ sent_period (i % 32) (i * period) period
  pub heard : length (frees log) ≡ periods
  pub completed : (i : ℕ) → i < periods → get_or (frees log) i None ≡ freed_slot (i % 32) 0x8000
  pub accepted : length (taken period log script) ≡ periods
  pub timely : (k : ℕ) → length (frees (take k log)) ≤ length (sends (take k log))
