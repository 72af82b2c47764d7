-- A HOST'S RUN on a store, turn after turn: the store holds the ring where the same run by value ended, and the last answer is the number of what that run said. Where it writes a
-- trace, so does the room; where it captures, so does the recording.
-- Assumes nothing.
use Rattle.std.specs.Prelude.{◌≡◌, refl, Bool, true, false, leb, eqb, length}
use Rattle.std.proofs.Common.{sym, ap, ◌∙◌, subst, arith, eq-eqb, ne_eqb, le-leb}
use Rattle.std.proofs.lemmas.Bool.{false≢true}
use mathlib.Core.List.{List, [], ◌∷◌, ◌++◌, map}
use Prim.Native.Nat.{ℕ, zero, suc, ◌≤◌}
use Rattle.layout.specs.Bytes.{Bytes}
use Rattle.layout.specs.Layout.{write}
use Rattle.layout.specs.Rows.{rows_bytes}
use Rattle.layout.specs.Lent.{Made, made}
use Rattle.layout.specs.WrittenLaws.{bytes-append, bytes-write, bytes-rows, Again, over-again}
use Rattle.codes.specs.Says.{pick, guard}
use Rattle.codes.specs.SaysLaws.{passes, stops, guarded-by}
use Rattle.codes.specs.AnswersLaws.{numbered}
use Rattle.turns.specs.Ring.{new_ring, going, said_word, goes_on, is_refused}
use Rattle.turns.specs.CaseLaws.{onward-cases}
use Rattle.turns.specs.Calls.{start_traced, turned_of}
use Rattle.turns.specs.Capture.{catch_of, capture_call}
use Rattle.turns.specs.InPlace.{turn_words}
use Rattle.turns.specs.Script.{reading_of}
use Rattle.turns.specs.Log.{Line, Ran, Told, onward, next_of, rest_of, loop_of, loop, called, turn_by_turn}
use Rattle.turns.specs.Captured.{Came, nothing_came, Taken, taking, takes}
use Rattle.trace.specs.Writer.{writing_call, Penned, tracing, traces}
use Rattle.ring_store.specs.Types.{Ring, Said, Going, Done, Ended, Refused, Step, Reading}
use Rattle.ring_store.specs.Store.{ring_size, track_row, track_values, side_row, side_values, slot_row, slot_bytes, ring_of, ring_bytes, side_bytes}
use Rattle.ring_store.specs.Calls.{new_in, turn_in, drain_in, start_in, Caught, caught, capture_step, capture_in, capture_start_in, writing_step, turn_traced_in, start_traced_in}
use Rattle.ring_store.specs.KeepLaws.{turn_step, drain_step, start_step, capture_start_step, traced_start_step, leaves, turn-leaves, drain-leaves, start-leaves, capture-leaves, capture-start-leaves, traced-leaves, traced-start-leaves}
use Rattle.ring_store.specs.Holds.{turn_holds, traced-holds, room-holds, capture-holds, recording-holds}

-- ---- THE RUN

-- a reading as three numbers
pub record Words : Type 0 where
  pub kind : ℕ
  pub slot : ℕ
  pub status : ℕ

abbrev pub reading_by : Words → Reading
reading_by w = reading_of w.kind w.slot w.status

abbrev pub quiet_words : Words
quiet_words = record { kind = 0; slot = 0; status = 0 }

-- "Readings past the end of the script are quiet."
abbrev pub first_words : List Words → Words
first_words [] = record { kind = 0; slot = 0; status = 0 }
first_words (w ∷ ws) = w

abbrev pub rest_words : List Words → List Words
rest_words [] = []
rest_words (w ∷ ws) = ws

-- what is lent to each turn and what a turn leaves of it, with its answer
pub record Host (A L : Type 0) : Type 0 where
  pub still : A → L
  pub answer : L → ℕ
  pub left : L → A

-- turn after turn as long as they go on, at most fuel of them
unfoldable pub loop_in : {A L : Type 0} → Host A L → (A → Words → L) → ℕ → A → List Words → L
loop_in o turn zero a script = o.still a
loop_in o turn (suc fuel) a script =
    let l = turn a (first_words script) in
    guard (eqb (o.answer l) going) l
    (loop_in o turn fuel (o.left l) (rest_words script))

-- turns that are lent the ring's store
abbrev ring_host : Host (List ℕ) Made
ring_host = record { still = made going; answer = λ l. l.answer; left = λ l. l.store }

abbrev pub turn_by : ℕ → List ℕ → Words → Made
turn_by len s w = turn_in s len w.kind w.slot w.status

abbrev pub turn_by_turn_in : ℕ → ℕ → List ℕ → List Words → Made
turn_by_turn_in len = loop_in ring_host (turn_by len)

-- turns that write a trace (2026-11): they are lent the ring's store and the room
pub record Lent : Type 0 where
  pub ring : List ℕ
  pub room : List ℕ

abbrev traced_host : Host Lent Caught
traced_host = record { still = λ a. caught going a.ring a.room; answer = λ l. l.answer; left = λ l. record { ring = l.ring; room = l.lent } }

abbrev pub traced_by : ℕ → Lent → Words → Caught
traced_by len a w = turn_traced_in a.ring len a.room w.kind w.slot w.status

abbrev pub traces_in : ℕ → ℕ → Lent → List Words → Caught
traces_in len = loop_in traced_host (traced_by len)

-- the same by readings of any kind, with the quiet one
unfoldable pub loop_over : {A L W : Type 0} → Host A L → W → (A → W → L) → ℕ → A → List W → L
loop_over o quiet turn zero a script = o.still a
loop_over o quiet turn (suc fuel) a script =
    let l = turn a (next_of quiet script) in
    guard (eqb (o.answer l) going) l
    (loop_over o quiet turn fuel (o.left l) (rest_of script))

-- turns of a capture (2026-09): they are lent the ring's store and the recording
pub record LentRecording : Type 0 where
  pub ring : List ℕ
  pub recording : List ℕ

abbrev capture_host : Host LentRecording Caught
capture_host = record { still = λ a. caught going a.ring a.recording; answer = λ l. l.answer; left = λ l. record { ring = l.ring; recording = l.lent } }

abbrev pub captures_by : LentRecording → Came → Caught
captures_by a x = capture_in a.ring a.recording x.kind x.slot x.written x.bytes

abbrev pub captures_in : ℕ → LentRecording → List Came → Caught
captures_in = loop_over capture_host nothing_came captures_by

-- ---- what a call leaves is a store again

bytes-ring : (r : Ring) → Bytes (ring_bytes r)
unfolding ring_bytes
bytes-ring r =
    bytes-append (write track_row (track_values r.track)) (rows_bytes slot_bytes r.slots ++ side_bytes r.track) (bytes-write track_row (track_values r.track))
    (bytes-append (rows_bytes slot_bytes r.slots) (side_bytes r.track) (bytes-rows slot_bytes (λ x. bytes-write slot_row (x.offset ∷ x.len ∷ [])) r.slots)
    (bytes-write side_row (side_values r.track)))

unless-again : (b : Bool) (s new : List ℕ) → Again s s → Again s new → Again s (pick b s new)
unless-again true s new p q = p
unless-again false s new p q = q

leaves-again : (s : List ℕ) (x : Step) → Bytes s → Again s (leaves s x).store
leaves-again s x b =
    guarded-by (λ (l : Made). Again s l.store) (leb ring_size (length s)) _ _
    (λ _. unless-again (is_refused x.said) s _ (b, refl) (over-again s (ring_bytes (turned_of (ring_of s) x).ring) b (bytes-ring (turned_of (ring_of s) x).ring)))
    (λ _. (b, refl))

pub new-again : (descriptors : ℕ) (s : List ℕ) → Bytes s → Again s (new_in descriptors s).store
new-again descriptors s b = guarded-by (λ (l : Made). Again s l.store) (leb ring_size (length s)) _ _ (λ _. over-again s (ring_bytes (new_ring descriptors)) b (bytes-ring (new_ring descriptors))) (λ _. (b, refl))

pub turn-again : (s : List ℕ) (len kind slot status : ℕ) → Bytes s → Again s (turn_in s len kind slot status).store
turn-again s len kind slot status b = rw (turn-leaves s len kind slot status) (leaves-again s (turn_step s len kind slot status) b)

pub drain-again : (s : List ℕ) (kind slot status : ℕ) → Bytes s → Again s (drain_in s kind slot status).store
drain-again s kind slot status b = rw (drain-leaves s kind slot status) (leaves-again s (drain_step s kind slot status) b)

pub start-again : (s : List ℕ) (stream len period budget : ℕ) → Bytes s → Again s (start_in s stream len period budget).store
start-again s stream len period budget b = rw (start-leaves s stream len period budget) (leaves-again s (start_step s stream len period budget) b)

pub capture-again : (s recording : List ℕ) (kind slot written : ℕ) (bytes : List ℕ) → Bytes s → Again s (capture_in s recording kind slot written bytes).ring
capture-again s recording kind slot written bytes b =
    subst (λ (l : Made). Again s l.store) (sym (capture-leaves s recording kind slot written bytes)) (leaves-again s (capture_step s (length recording) kind slot written bytes) b)

pub traced-again : (s : List ℕ) (len : ℕ) (room : List ℕ) (kind slot status : ℕ) → Bytes s → Again s (turn_traced_in s len room kind slot status).ring
traced-again s len room kind slot status b =
    subst (λ (l : Made). Again s l.store) (sym (traced-leaves s len room kind slot status)) (leaves-again s (writing_step s len (length room) kind slot status) b)

pub traced-start-again : (s : List ℕ) (stream len period budget room : ℕ) → Bytes s → Again s (start_traced_in s stream len period budget room).store
traced-start-again s stream len period budget room b = rw (traced-start-leaves s stream len period budget room) (leaves-again s (traced_start_step s stream len period budget room) b)

pub capture-start-again : (s : List ℕ) (stream periods period len budget : ℕ) → Bytes s → Again s (capture_start_in s stream periods period len budget).store
capture-start-again s stream periods period len budget b = rw (capture-start-leaves s stream periods period len budget) (leaves-again s (capture_start_step s stream periods period len budget) b)

-- ---- a turn answers what is said

leaves-answers : (s : List ℕ) (x : Step) → ring_size ≤ length s → (leaves s x).answer ≡ said_word x.said
leaves-answers s x h = ap (λ (l : Made). l.answer) (sym (passes _ _ _ (le-leb ring_size (length s) h) refl))

pub capture-answers : (s recording : List ℕ) (kind slot written : ℕ) (bytes : List ℕ) → ring_size ≤ length s
    → (capture_in s recording kind slot written bytes).answer ≡ said_word (capture_call (ring_of s).track (length recording) (catch_of kind slot written bytes)).said
unfolding ring_of
capture-answers s recording kind slot written bytes h =
    ap (λ (l : Made). l.answer) (capture-leaves s recording kind slot written bytes) ∙ leaves-answers s (capture_step s (length recording) kind slot written bytes) h

pub traced-answers : (s : List ℕ) (len : ℕ) (room : List ℕ) (kind slot status : ℕ) → ring_size ≤ length s
    → (turn_traced_in s len room kind slot status).answer ≡ said_word (writing_call (ring_of s).track len (length room) (reading_of kind slot status)).said
unfolding ring_of
traced-answers s len room kind slot status h =
    ap (λ (l : Made). l.answer) (traced-leaves s len room kind slot status) ∙ leaves-answers s (writing_step s len (length room) kind slot status) h

pub traced-start-answers : (s : List ℕ) (stream len period budget room : ℕ) → ring_size ≤ length s
    → (start_traced_in s stream len period budget room).answer ≡ said_word (start_traced (ring_of s).track stream len period budget room).said
unfolding ring_of
traced-start-answers s stream len period budget room h =
    ap (λ (l : Made). l.answer) (traced-start-leaves s stream len period budget room) ∙ leaves-answers s (traced_start_step s stream len period budget room) h

pub turn-answers : (s : List ℕ) (len kind slot status : ℕ) → ring_size ≤ length s → (turn_in s len kind slot status).answer ≡ said_word (turn_words (ring_of s) len kind slot status).said
unfolding turn_words ring_of
turn-answers s len kind slot status h = ap (λ (l : Made). l.answer) (turn-leaves s len kind slot status) ∙ leaves-answers s (turn_step s len kind slot status) h

-- ---- THE STORE AFTER A RUN

-- what does not go on does not answer so
never-going : (said : Said) → goes_on said ≡ false → said_word said ≡ going → ⊥
never-going Going e z = false≢true (sym e)
never-going Done e z = omega arith
never-going (Ended r) e z = omega (arith, (numbered r).small)
never-going (Refused r) e z = omega (arith, (numbered r).small)

-- ONE LAW for every loop: what is lent is seen as a value. Where a turn leaves, in this view, what the turn by value leaves, and answers what that says, so does the loop
module _ {A B L : Type 0} (o : Host A L) (turn : A → Words → L) (view : A → B) (told : B → Reading → Told B) (Inv : A → Type 0)
    (rests : (a : A) → (o.answer (o.still a) ≡ going) × (o.left (o.still a) ≡ a))
    (step : (a : A) (w : Words) → Inv a → let l = turn a w in let t = told (view a) (reading_by w) in
    (view (o.left l) ≡ t.left) × (o.answer l ≡ said_word t.line.said) × Inv (o.left l)) where
  -- what was left and answered are where a loop by value ended, and what it said
  abbrev HoldsIn : L → Ran B → Type 0
  HoldsIn l h = (view (o.left l) ≡ h.at) × (o.answer l ≡ said_word h.said)

  onward-holds : (said : Said) (line : Line) (b : B) (l rest : L) (h : Ran B) → view (o.left l) ≡ b → o.answer l ≡ said_word said → HoldsIn rest h
      → HoldsIn (guard (eqb (o.answer l) going) l rest) (onward said line b h)
  onward-holds said line b l rest h p q k =
      onward-cases (HoldsIn (guard (eqb (o.answer l) going) l rest)) said line b h
      (λ e. subst (λ (x : L). HoldsIn x h) (passes _ _ _ (eq-eqb _ _ (q ∙ ap said_word e)) refl) k)
      (λ e. subst (λ (x : L). HoldsIn x (record { said = said; at = b; log = line ∷ [] })) (stops _ _ _ (ne_eqb (o.answer l) going (λ z. never-going said e (sym q ∙ z))) refl) (p, q))

  -- one turn, and then the rest of the run from what it left
  turn-then : (fuel : ℕ) (a : A) (w : Words) (script : List Words) → Inv a → ((n : A) → Inv n → HoldsIn (loop_in o turn fuel n script) (loop told fuel (view n) (map reading_by script)))
      → let l = turn a w in let t = told (view a) (reading_by w) in
      HoldsIn (guard (eqb (o.answer l) going) l (loop_in o turn fuel (o.left l) script)) (onward t.line.said t.line t.left (loop told fuel t.left (map reading_by script)))
  turn-then fuel a w script i rest =
      let l = turn a w in
      let t = told (view a) (reading_by w) in
      let s = step a w i in
      onward-holds t.line.said t.line t.left l (loop_in o turn fuel (o.left l) script) _ s.0 s.1
      (subst (λ (b : B). HoldsIn (loop_in o turn fuel (o.left l) script) (loop told fuel b (map reading_by script))) s.0 (rest (o.left l) s.2))

  loop-holds : (fuel : ℕ) (a : A) (script : List Words) → Inv a → HoldsIn (loop_in o turn fuel a script) (loop told fuel (view a) (map reading_by script))
  unfolding loop_in loop_of
  loop-holds zero a script i = (ap view (rests a).1, (rests a).0)
  loop-holds (suc fuel) a [] i = turn-then fuel a (first_words []) [] i (λ n j. loop-holds fuel n [] j)
  loop-holds (suc fuel) a (w ∷ script) i = turn-then fuel a w script i (λ n j. loop-holds fuel n script j)

-- THE SAME LAW for every kind of reading: what was read is seen as a reading too
module _ {A B L W R : Type 0} (o : Host A L) (quiet : W) (turn : A → W → L) (reads : W → R) (view : A → B) (told : B → R → Told B) (Inv : A → Type 0)
    (rests : (a : A) → (o.answer (o.still a) ≡ going) × (o.left (o.still a) ≡ a))
    (step : (a : A) (w : W) → Inv a → let l = turn a w in let t = told (view a) (reads w) in
    (view (o.left l) ≡ t.left) × (o.answer l ≡ said_word t.line.said) × Inv (o.left l)) where
  abbrev HoldsOver : L → Ran B → Type 0
  HoldsOver l h = (view (o.left l) ≡ h.at) × (o.answer l ≡ said_word h.said)

  abbrev by_value : ℕ → B → List W → Ran B
  by_value fuel b script = loop_of (reads quiet) told fuel b (map reads script)

  onward-over : (said : Said) (line : Line) (b : B) (l rest : L) (h : Ran B) → view (o.left l) ≡ b → o.answer l ≡ said_word said → HoldsOver rest h
      → HoldsOver (guard (eqb (o.answer l) going) l rest) (onward said line b h)
  onward-over said line b l rest h p q k =
      onward-cases (HoldsOver (guard (eqb (o.answer l) going) l rest)) said line b h
      (λ e. subst (λ (x : L). HoldsOver x h) (passes _ _ _ (eq-eqb _ _ (q ∙ ap said_word e)) refl) k)
      (λ e. subst (λ (x : L). HoldsOver x (record { said = said; at = b; log = line ∷ [] })) (stops _ _ _ (ne_eqb (o.answer l) going (λ z. never-going said e (sym q ∙ z))) refl) (p, q))

  -- one turn, and then the rest of the run from what it left
  over-then : (fuel : ℕ) (a : A) (w : W) (script : List W) → Inv a → ((n : A) → Inv n → HoldsOver (loop_over o quiet turn fuel n script) (by_value fuel (view n) script))
      → let l = turn a w in let t = told (view a) (reads w) in
      HoldsOver (guard (eqb (o.answer l) going) l (loop_over o quiet turn fuel (o.left l) script)) (onward t.line.said t.line t.left (by_value fuel t.left script))
  over-then fuel a w script i rest =
      let l = turn a w in
      let t = told (view a) (reads w) in
      let s = step a w i in
      onward-over t.line.said t.line t.left l (loop_over o quiet turn fuel (o.left l) script) _ s.0 s.1
      (subst (λ (b : B). HoldsOver (loop_over o quiet turn fuel (o.left l) script) (by_value fuel b script)) s.0 (rest (o.left l) s.2))

  over-holds : (fuel : ℕ) (a : A) (script : List W) → Inv a → HoldsOver (loop_over o quiet turn fuel a script) (by_value fuel (view a) script)
  unfolding loop_over loop_of
  over-holds zero a script i = (ap view (rests a).1, (rests a).0)
  over-holds (suc fuel) a [] i = over-then fuel a quiet [] i (λ n j. over-holds fuel n [] j)
  over-holds (suc fuel) a (w ∷ script) i = over-then fuel a w script i (λ n j. over-holds fuel n script j)

-- a store that can hold a ring
abbrev Long : List ℕ → Type 0
Long s = Bytes s × (ring_size ≤ length s)

long-again : (s n : List ℕ) → Long s → Again s n → Long n
long-again s n h a = (a.0, omega (arith, a.1, h.1))

-- a store and an answer are where a loop by value ended, and what it said
abbrev pub Holds : Made → Ran Ring → Type 0
Holds l h = (ring_of l.store ≡ h.at) × (l.answer ≡ said_word h.said)

pub run_holds : (s : List ℕ) → Bytes s → ring_size ≤ length s → (len fuel : ℕ) (script : List Words) → Holds (turn_by_turn_in len fuel s script) (turn_by_turn len fuel (ring_of s) (map reading_by script))
unfolding turn_words
run_holds s b h len fuel script =
    loop-holds ring_host (turn_by len) ring_of (called len) Long (λ _. (refl, refl))
    (λ n w k. (
      turn_holds n len w.kind w.slot w.status k.0 k.1,
      turn-answers n len w.kind w.slot w.status k.1,
      long-again n (turn_by len n w).store k (turn-again n len w.kind w.slot w.status k.0),
    ))
    fuel s script (b, h)

-- THE SAME OF A RUN THAT WRITES A TRACE: ring and room are where the loop by value ended, so what is known of that room is known of these bytes
abbrev pub penned_of : Lent → Penned
penned_of a = record { ring = ring_of a.ring; room = a.room }

abbrev pub HoldsTraced : Caught → Ran Penned → Type 0
HoldsTraced l h = (record { ring = ring_of l.ring; room = l.lent } ≡ h.at) × (l.answer ≡ said_word h.said)

pub traces-hold : (s room : List ℕ) → Bytes s → ring_size ≤ length s → (len fuel : ℕ) (script : List Words)
    → HoldsTraced (traces_in len fuel (record { ring = s; room = room }) script) (traces len fuel (record { ring = ring_of s; room = room }) (map reading_by script))
traces-hold s room b h len fuel script =
    loop-holds traced_host (traced_by len) penned_of (tracing len) (λ a. Long a.ring) (λ _. (refl, refl))
    (λ a w k. (
      λ i. record { ring = traced-holds a.ring len a.room w.kind w.slot w.status k.0 k.1 i; room = room-holds a.ring len a.room w.kind w.slot w.status k.0 k.1 i },
      traced-answers a.ring len a.room w.kind w.slot w.status k.1,
      long-again a.ring (traced_by len a w).ring k (traced-again a.ring len a.room w.kind w.slot w.status k.0),
    ))
    fuel (record { ring = s; room = room }) script (b, h)

-- AND OF A CAPTURE: ring and recording are where the loop by value ended
abbrev pub HoldsCaptured : Caught → Ran Taken → Type 0
HoldsCaptured l h = (record { ring = ring_of l.ring; recording = l.lent } ≡ h.at) × (l.answer ≡ said_word h.said)

same-script : (script : List Came) → map (λ (x : Came). x) script ≡ script
same-script [] = refl
same-script (x ∷ xs) = ap (λ (l : List Came). x ∷ l) (same-script xs)

pub captures-hold : (s recording : List ℕ) → Bytes s → ring_size ≤ length s → (fuel : ℕ) (script : List Came)
    → HoldsCaptured (captures_in fuel (record { ring = s; recording = recording }) script) (takes fuel (record { ring = ring_of s; recording = recording }) script)
captures-hold s recording b h fuel script =
    let left = captures_in fuel (record { ring = s; recording = recording }) script in
    let view : LentRecording → Taken = λ a. record { ring = ring_of a.ring; recording = a.recording } in
    subst (λ (xs : List Came). HoldsCaptured left (takes fuel (record { ring = ring_of s; recording = recording }) xs)) (same-script script)
    (over-holds capture_host nothing_came captures_by (λ x. x) view taking (λ a. Long a.ring) (λ _. (refl, refl))
    (λ a x k. (
      λ i. record {
        ring = capture-holds a.ring a.recording x.kind x.slot x.written x.bytes k.0 k.1 i;
        recording = recording-holds a.ring a.recording x.kind x.slot x.written x.bytes k.0 k.1 i;
      },
      capture-answers a.ring a.recording x.kind x.slot x.written x.bytes k.1,
      long-again a.ring (captures_by a x).ring k (capture-again a.ring a.recording x.kind x.slot x.written x.bytes k.0),
    ))
    fuel (record { ring = s; recording = recording }) script (b, h))

-- and it is a store again
guard-again : {L : Type 0} (answer : L → ℕ) (store : L → List ℕ) (s : List ℕ) (l rest : L) → Again s (store l) → Again (store l) (store rest) → Again s (store (guard (eqb (answer l) going) l rest))
guard-again answer store s l rest p q = guarded-by (λ (x : _). Again s (store x)) (eqb (answer l) going) l rest (λ _. (q.0, q.1 ∙ p.1)) (λ _. p)

pub run-again : (s : List ℕ) → Bytes s → (len fuel : ℕ) (script : List Words) → Again s (turn_by_turn_in len fuel s script).store
unfolding loop_in
run-again s b len zero script = (b, refl)
run-again s b len (suc fuel) script =
    let w = first_words script in
    let p = turn-again s len w.kind w.slot w.status b in
    guard-again (λ (l : Made). l.answer) (λ (l : Made). l.store) s (turn_by len s w) (turn_by_turn_in len fuel (turn_by len s w).store (rest_words script)) p (run-again (turn_by len s w).store p.0 len fuel (rest_words script))

pub traces-again : (s room : List ℕ) → Bytes s → (len fuel : ℕ) (script : List Words) → Again s (traces_in len fuel (record { ring = s; room = room }) script).ring
unfolding loop_in
traces-again s room b len zero script = (b, refl)
traces-again s room b len (suc fuel) script =
    let w = first_words script in
    let l = traced_by len (record { ring = s; room = room }) w in
    let p = traced-again s len room w.kind w.slot w.status b in
    guard-again (λ (x : Caught). x.answer) (λ (x : Caught). x.ring) s l (traces_in len fuel (record { ring = l.ring; room = l.lent }) (rest_words script)) p (traces-again l.ring l.lent p.0 len fuel (rest_words script))

pub captures-again : (s recording : List ℕ) → Bytes s → (fuel : ℕ) (script : List Came) → Again s (captures_in fuel (record { ring = s; recording = recording }) script).ring
unfolding loop_over
captures-again s recording b zero script = (b, refl)
captures-again s recording b (suc fuel) script =
    let x = next_of nothing_came script in
    let l = captures_by (record { ring = s; recording = recording }) x in
    let p = capture-again s recording x.kind x.slot x.written x.bytes b in
    guard-again (λ (y : Caught). y.answer) (λ (y : Caught). y.ring) s l (captures_in fuel (record { ring = l.ring; recording = l.lent }) (rest_of script)) p
    (captures-again l.ring l.lent p.0 fuel (rest_of script))
