-- Turn after turn: a loop over a script of readings, with a log of what each turn sent, heard and said. One definition serves the rules' run and the host's loop,
-- of a playback and of a capture.
-- Assumes nothing.
use Rattle.std.specs.Prelude.{List, [], ◌∷◌, ℕ, zero, suc, ◌+◌, None, Some}
use Rattle.codes.specs.Says.{pick}
use Rattle.turns.specs.Ring.{goes_on}
use Rattle.turns.specs.Rules.{choose_of, comes_to, played_of, turn_of, counted_of}
use Rattle.turns.specs.Calls.{turn_call, turned_of}
use Rattle.turns.specs.Types.{Track, Ring, Sent, Heard, Said, Going, Step, Reading, Choice, Submit, Finish, Wait, Outcome}

-- one line of a log: what the turn submitted, how many were in flight at its reading, the reading, what it freed, what it said
pub record Line : Type 0 where
  pub sent : Sent
  pub waiting : ℕ
  pub reading : Reading
  pub heard : Heard
  pub said : Said

-- how many are in flight when a turn looks at its reading
abbrev pub waiting_by : Choice → Track → ℕ
waiting_by Submit t = t.inflight + 1
waiting_by Finish t = 0
waiting_by Wait t = t.inflight

-- "Readings past the end of the script are quiet."
abbrev pub next_of : {R : Type 0} → R → List R → R
next_of quiet [] = quiet
next_of quiet (x ∷ xs) = x

abbrev pub first_of : List Reading → Reading
first_of = next_of None

abbrev pub rest_of : {R : Type 0} → List R → List R
rest_of [] = []
rest_of (x ∷ xs) = xs

-- how a loop ended, where, and its log
pub record Ran (A : Type 0) : Type 0 where
  pub said : Said
  pub at : A
  pub log : List Line

abbrev pub onward : {A : Type 0} → Said → Line → A → Ran A → Ran A
onward said line a rest = pick (goes_on said) (record { said = rest.said; at = rest.at; log = line ∷ rest.log }) (record { said = said; at = a; log = line ∷ [] })

-- a turn leaves a state, and a line for the log
pub record Told (A : Type 0) : Type 0 where
  pub left : A
  pub line : Line

-- turn after turn as long as they go on, at most fuel of them
unfoldable pub loop_of : {A R : Type 0} → R → (A → R → Told A) → ℕ → A → List R → Ran A
loop_of quiet turn zero a script = record { said = Going; at = a; log = [] }
loop_of quiet turn (suc fuel) a script =
    let t = turn a (next_of quiet script) in
    onward t.line.said t.line t.left (loop_of quiet turn fuel t.left (rest_of script))

abbrev pub loop : {A : Type 0} → (A → Reading → Told A) → ℕ → A → List Reading → Ran A
loop = loop_of None

abbrev pub line_of : ℕ → Reading → Step → Line
line_of waiting reading s = record { sent = s.sent; waiting = waiting; reading = reading; heard = s.heard; said = s.said }

-- ---- THE RUN of the rules: each turn by rule 1 and rule 2, counted against the budget

-- the judgement of completions: what the queue says in one turn is a reading, and its status is judged
pub record Judge (R : Type 0) : Type 0 where
  pub quiet : R
  pub reading : R → Reading
  pub judge : Track → R → ℕ → Outcome

-- a playback judges the status
abbrev pub played : Judge Reading
played = record { quiet = None; reading = λ x. x; judge = λ t x. played_of }

abbrev pub judged_of : {R : Type 0} → Judge R → Track → R → Outcome
judged_of j t x = comes_to (j.judge t x) (j.reading x)

abbrev pub ruled : {R : Type 0} → Judge R → ℕ → Track → R → Told Track
ruled j least t x =
    let s = counted_of (turn_of least t (judged_of j t x) (j.reading x)) in
    record { left = s.track; line = line_of (waiting_by (choose_of least t) t) (j.reading x) s }

abbrev pub run : {R : Type 0} → Judge R → ℕ → ℕ → Track → List R → Ran Track
run j least = loop_of j.quiet (ruled j least)

-- ---- THE HOST'S LOOP: the call of a turn, again and again, lent frames of one length

abbrev pub called : ℕ → Ring → Reading → Told Ring
called len r reading =
    let u = turned_of r (turn_call r.track len reading) in
    record {
      left = u.ring;
      line = record { sent = u.sent; waiting = waiting_by (choose_of r.track.descriptors r.track) r.track; reading = reading; heard = u.heard; said = u.said };
    }

abbrev pub turn_by_turn : ℕ → ℕ → Ring → List Reading → Ran Ring
turn_by_turn len = loop (called len)

-- ---- what a log says

-- what went out, in order
abbrev pub sends_more : Sent → List Sent → List Sent
sends_more None rest = rest
sends_more (Some p) rest = Some p ∷ rest

abbrev pub sends : List Line → List Sent
sends [] = []
sends (l ∷ ls) = sends_more l.sent (sends ls)

-- what was completed, in order
abbrev pub frees_more : Heard → List Heard → List Heard
frees_more None rest = rest
frees_more (Some f) rest = Some f ∷ rest

abbrev pub frees : List Line → List Heard
frees [] = []
frees (l ∷ ls) = frees_more l.heard (frees ls)
