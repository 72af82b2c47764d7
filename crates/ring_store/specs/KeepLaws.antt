-- What calls leave: a store that holds a ring again, and after a refusal the very bytes that stood there.
-- Assumes nothing.
use Rattle.std.specs.Prelude.{◌≡◌, refl, Bool, true, false, ◌⊎◌, List, ℕ, ◌+◌, ◌*◌, ◌≤◌, ◌<◌, leb, eqb, length, Ok, Err, Some, None}
use Rattle.std.proofs.Common.{sym, ap, ◌∙◌, subst, inl, inr, arith, leb-true, leb-false, length-set}
use Rattle.std.proofs.lemmas.List.Edits.{sets}
use Rattle.layout.specs.Bytes.{num_at}
use Rattle.layout.specs.Lent.{Made}
use Rattle.codes.specs.Says.{pick}
use Rattle.codes.specs.SaysLaws.{picks, guard-ap, guarded-by}
use Rattle.codes.specs.Answers.{refusal_word}
use Rattle.codes.specs.declared.answers.Cause.TheVariants.{Status}
use Rattle.codes.specs.declared.answers.Refusal.{Refusal}
use Rattle.codes.specs.declared.answers.Refusal.TheVariants.{IoError, BadCapture}
use Rattle.turns.specs.Ring.{new_ring, going, said_word, is_refused}
use Rattle.turns.specs.Rules.{choose_of, comes_to, played_of, judge_of, settle, hear, act, turn_of, submit, sent_of, counted_by, counted_of}
use Rattle.turns.specs.RuleLaws.{Judged, judged}
use Rattle.turns.specs.CaseLaws.{last_of}
use Rattle.turns.specs.Consistent.{consistent_of}
use Rattle.turns.specs.ConsistentLaws.{consistent-facts, mode_small}
use Rattle.turns.specs.Calls.{traced_call, turn_call, drained, drain_call, start_call, start_traced, carry, turned_of}
use Rattle.turns.specs.Capture.{catch_of, length_good, captured_of, caught_of, recording_after, capture_call, capture_start}
use Rattle.turns.specs.CaptureLaws.{copy-nothing}
use Rattle.turns.specs.RefusalLaws.{Untouched}
use Rattle.turns.specs.InPlace.{turn_words, drain_words}
use Rattle.trace.specs.Writer.{ink_of, writes_none, writing_call, room_after}
use Rattle.trace.specs.InkLaws.{none-ran}
use Rattle.turns.specs.Script.{reading_of}
use Rattle.ring_store.specs.Types.{Slot, Track, Sent, Said, Going, Done, Ended, Refused, Step, Reading, Choice, Submit, Finish, Wait, Outcome, Verdict, WrongSlot, Good, Bad, Catch}
use Rattle.ring_store.specs.Store.{ring_size, track_at, ring_of}
use Rattle.ring_store.specs.Calls.{changed, new_in, turn_in, drain_in, start_in, Caught, caught_in, capture_step, capture_in, capture_start_in, writing_step, turn_traced_in, start_traced_in}
use Rattle.ring_store.specs.StoreLaws.{slots-long}
use Rattle.ring_store.specs.AdmitLaws.{readied, traced, traced-started, writes, captured, capture-started, capture-refused}
use Rattle.ring_store.specs.RoundLaws.{whole_at, whole-written}

-- ---- each call is a step of the track that the store holds

abbrev pub turn_step : List ℕ → ℕ → ℕ → ℕ → ℕ → Step
turn_step s len kind slot status = turn_call (track_at s) len (reading_of kind slot status)

abbrev pub drain_step : List ℕ → ℕ → ℕ → ℕ → Step
drain_step s kind slot status = drain_call (track_at s) (reading_of kind slot status)

abbrev pub start_step : List ℕ → ℕ → ℕ → ℕ → ℕ → Step
start_step s stream len period budget = start_call (track_at s) stream len period budget

abbrev pub capture_start_step : List ℕ → ℕ → ℕ → ℕ → ℕ → ℕ → Step
capture_start_step s stream periods period len budget = capture_start (track_at s) stream periods period len budget

abbrev pub traced_start_step : List ℕ → ℕ → ℕ → ℕ → ℕ → ℕ → Step
traced_start_step s stream len period budget room = start_traced (track_at s) stream len period budget room

abbrev pub leaves : List ℕ → Step → Made
leaves s x = changed s (turned_of (ring_of s) x)

pub turn-leaves : (s : List ℕ) (len kind slot status : ℕ) → turn_in s len kind slot status ≡ leaves s (turn_step s len kind slot status)
unfolding turn_in turn_words ring_of
turn-leaves s len kind slot status = refl

pub drain-leaves : (s : List ℕ) (kind slot status : ℕ) → drain_in s kind slot status ≡ leaves s (drain_step s kind slot status)
unfolding drain_in drain_words ring_of
drain-leaves s kind slot status = refl

pub start-leaves : (s : List ℕ) (stream len period budget : ℕ) → start_in s stream len period budget ≡ leaves s (start_step s stream len period budget)
unfolding start_in
start-leaves s stream len period budget = refl

-- of a turn that is lent something besides: its answer, and the ring's store
abbrev pub ring_left : Caught → Made
ring_left x = record { answer = x.answer; store = x.ring }

caught-leaves : (s lent : List ℕ) (x : Step) (left : List ℕ) → ring_left (caught_in s lent x left) ≡ leaves s x
caught-leaves s lent x left = guard-ap ring_left (leb ring_size (length s)) _ _

pub capture-leaves : (s recording : List ℕ) (kind slot written : ℕ) (bytes : List ℕ)
    → ring_left (capture_in s recording kind slot written bytes) ≡ leaves s (capture_step s (length recording) kind slot written bytes)
unfolding capture_in
capture-leaves s recording kind slot written bytes =
    let x = capture_step s (length recording) kind slot written bytes in
    caught-leaves s recording x (recording_after (track_at s) x bytes recording)

pub traced-leaves : (s : List ℕ) (len : ℕ) (room : List ℕ) (kind slot status : ℕ) → ring_left (turn_traced_in s len room kind slot status) ≡ leaves s (writing_step s len (length room) kind slot status)
unfolding turn_traced_in
traced-leaves s len room kind slot status =
    let x = writing_step s len (length room) kind slot status in
    caught-leaves s room x (room_after (track_at s) x room)

pub traced-start-leaves : (s : List ℕ) (stream len period budget room : ℕ) → start_traced_in s stream len period budget room ≡ leaves s (traced_start_step s stream len period budget room)
unfolding start_traced_in
traced-start-leaves s stream len period budget room = refl

pub capture-start-leaves : (s : List ℕ) (stream periods period len budget : ℕ) → capture_start_in s stream periods period len budget ≡ leaves s (capture_start_step s stream periods period len budget)
unfolding capture_start_in
capture-start-leaves s stream periods period len budget = refl

-- ---- a whole store stays whole

abbrev Whole : Made → Type 0
Whole l = whole_at l.store ≡ true

unless-whole : (b : Bool) (old new : List ℕ) → whole_at old ≡ true → whole_at new ≡ true → whole_at (pick b old new) ≡ true
unless-whole true old new p q = p
unless-whole false old new p q = q

pub carry-long : (slots : List Slot) (sent : Sent) → length slots ≡ 32 → length (carry slots sent) ≡ 32
carry-long slots None e = e
carry-long slots (Some p) e = length-set slots p.slot (record { offset = p.offset; len = p.len }) ∙ e

left-fits : (s : List ℕ) (x : Step) → whole_at s ≡ true → Whole (leaves s x)
left-fits s x p =
    guarded-by Whole (leb ring_size (length s)) _ _
    (λ h. unless-whole (is_refused x.said) s _ p (whole-written s _ (carry-long (ring_of s).slots x.sent (slots-long s)) (leb-true ring_size (length s) h)))
    (λ _. p)

pub turn-fits : (s : List ℕ) (len kind slot status : ℕ) → whole_at s ≡ true → whole_at (turn_in s len kind slot status).store ≡ true
turn-fits s len kind slot status p = rw (turn-leaves s len kind slot status) (left-fits s (turn_step s len kind slot status) p)

pub drain-fits : (s : List ℕ) (kind slot status : ℕ) → whole_at s ≡ true → whole_at (drain_in s kind slot status).store ≡ true
drain-fits s kind slot status p = rw (drain-leaves s kind slot status) (left-fits s (drain_step s kind slot status) p)

pub start_fits : (s : List ℕ) (stream len period budget : ℕ) → whole_at s ≡ true → whole_at (start_in s stream len period budget).store ≡ true
start_fits s stream len period budget p = rw (start-leaves s stream len period budget) (left-fits s (start_step s stream len period budget) p)

pub capture-fits : (s recording : List ℕ) (kind slot written : ℕ) (bytes : List ℕ) → whole_at s ≡ true → whole_at (capture_in s recording kind slot written bytes).ring ≡ true
capture-fits s recording kind slot written bytes p = subst Whole (sym (capture-leaves s recording kind slot written bytes)) (left-fits s (capture_step s (length recording) kind slot written bytes) p)

pub traced-fits : (s : List ℕ) (len : ℕ) (room : List ℕ) (kind slot status : ℕ) → whole_at s ≡ true → whole_at (turn_traced_in s len room kind slot status).ring ≡ true
traced-fits s len room kind slot status p = subst Whole (sym (traced-leaves s len room kind slot status)) (left-fits s (writing_step s len (length room) kind slot status) p)

pub traced-start-fits : (s : List ℕ) (stream len period budget room : ℕ) → whole_at s ≡ true → whole_at (start_traced_in s stream len period budget room).store ≡ true
traced-start-fits s stream len period budget room p = rw (traced-start-leaves s stream len period budget room) (left-fits s (traced_start_step s stream len period budget room) p)

pub capture-start-fits : (s : List ℕ) (stream periods period len budget : ℕ) → whole_at s ≡ true → whole_at (capture_start_in s stream periods period len budget).store ≡ true
capture-start-fits s stream periods period len budget p = rw (capture-start-leaves s stream periods period len budget) (left-fits s (capture_start_step s stream periods period len budget) p)

pub new-fits : (descriptors : ℕ) (s : List ℕ) → ring_size ≤ length s → whole_at (new_in descriptors s).store ≡ true
new-fits descriptors s h = guarded-by Whole (leb ring_size (length s)) _ _ (λ _. whole-written s (new_ring descriptors) refl h) (λ e. absurd (omega (arith, leb-false ring_size (length s) e)))

-- ---- a store that is not whole holds no consistent ring, so a step that is not refused found a whole store

whole_by : (n : ℕ) (b : Bool) → 0 < pick b n 0 → b ≡ true
whole_by n true e = refl
whole_by n false e = absurd (omega arith)

pub whole-consistent : (s : List ℕ) → consistent_of (track_at s) ≡ true → whole_at s ≡ true
unfolding track_at
whole-consistent s e = whole_by (num_at 0 8 s) (whole_at s) (mode_small (track_at s).descriptors (consistent-facts (track_at s) e).placed.mode).0

-- ---- AN ANSWER 10 OR 1 LEAVES THE STORE AS IT WAS: these are refusals alone. So does any answer of a start but that it goes on

abbrev pub Barred : ℕ → Type 0
Barred n = (n ≡ 10) ⊎ (n ≡ 1)

-- an answer that is no refusal has another number
abbrev Telling : Said → Type 0
Telling Going = Unit {0}
Telling Done = Unit {0}
Telling (Ended r) = Barred (refusal_word r) → ⊥
Telling (Refused r) = Unit {0}

other : (n : ℕ) → (n ≡ 10 → ⊥) → (n ≡ 1 → ⊥) → Barred n → ⊥
other n p q (inl e) = p e
other n p q (inr e) = q e

barred : {A : Type 0} (said : Said) → Telling said → Barred (said_word said) → ((r : Refusal) → said ≡ Refused r → A) → A
barred Going p b f = absurd (other going (λ e. omega arith) (λ e. omega arith) b)
barred Done p b f = absurd (other 0 (λ e. omega arith) (λ e. omega arith) b)
barred (Ended r) p b f = absurd (p b)
barred (Refused r) p b f = f r refl

unless-barred : (said : Said) (old new : List ℕ) → Telling said → Barred (said_word said) → pick (is_refused said) old new ≡ old
unless-barred said old new p b = barred said p b (λ r e. ap (λ (x : Said). pick (is_refused x) old new) e)

abbrev Begins : Said → Type 0
Begins Going = Unit {0}
Begins Done = ⊥
Begins (Ended r) = ⊥
Begins (Refused r) = Unit {0}

unless-begun : (said : Said) (old new : List ℕ) → Begins said → (said_word said ≡ going → ⊥) → pick (is_refused said) old new ≡ old
unless-begun Going old new p n = absurd (n refl)
unless-begun (Refused r) old new p n = refl
unless-begun Done old new e n = elim e [ ]
unless-begun (Ended _) old new e n = elim e [ ]

refused-unchanged : (s : List ℕ) (x : Step) → Telling x.said → Barred (leaves s x).answer → (leaves s x).store ≡ s
refused-unchanged s x p =
    guarded-by (λ (l : Made). Barred l.answer → l.store ≡ s) (leb ring_size (length s)) _ _
    (λ _ b. unless-barred x.said s _ p b)
    (λ _ _. refl)

-- what a completion comes to has another number too: 2 or 17
abbrev Comes : Outcome → Type 0
Comes (Ok tt) = Unit {0}
Comes (Err r) = Barred (refusal_word r) → ⊥

comes-by : (status : ℕ) (ok : Bool) → Comes (pick ok (Ok tt) (Err (IoError (Status status))))
comes-by status true = tt
comes-by status false = other (2 + 4294967296 * status) (λ e. omega arith) (λ e. omega arith)

played-comes : (status : ℕ) → Comes (played_of status)
unfolding played_of
played-comes status = comes-by status (eqb status 0x8000)

good-comes : (status : ℕ) (good : Bool) → Comes (pick good (played_of status) (Err BadCapture))
good-comes status true = played-comes status
good-comes status false = other 17 (λ e. omega arith) (λ e. omega arith)

captured-comes : (period written status : ℕ) → Comes (captured_of period written status)
unfolding captured_of
captured-comes period written status = good-comes status (length_good period written)

comes : (judge : ℕ → Outcome) → ((status : ℕ) → Comes (judge status)) → (reading : Reading) → Comes (comes_to judge reading)
comes judge h None = tt
comes judge h (Some c) = h c.status

settle-tells : (v : Verdict) (sent : Sent) (t : Track) (slot status : ℕ) (o : Outcome) → Comes o → Judged t slot o v → Telling (settle v sent t slot status).said
settle-tells WrongSlot sent t slot status o k j = other 6 (λ e. omega arith) (λ e. omega arith)
settle-tells Good sent t slot status o k j = tt
settle-tells (Bad r) sent t slot status o k j = subst Comes j.2 k

hear-tells : (sent : Sent) (t : Track) (o : Outcome) (reading : Reading) → Comes o → Telling (hear o sent t reading).said
hear-tells sent t o None k = tt
hear-tells sent t o (Some c) k = settle-tells (judge_of t c.slot o) sent t c.slot c.status o k (judged t c.slot o)

act-tells : (c : Choice) (t : Track) (o : Outcome) (reading : Reading) → Comes o → Telling (act c t o reading).said
act-tells Submit t o reading k = hear-tells (sent_of t) (submit t) o reading k
act-tells Finish t o reading k = tt
act-tells Wait t o reading k = hear-tells None t o reading k

counted-by : (said : Said) (last : Bool) (x : Step) → Telling said → Telling (counted_by said last x).said
counted-by Going true x p = other 9 (λ e. omega arith) (λ e. omega arith)
counted-by Going false x p = tt
counted-by Done last x p = tt
counted-by (Ended r) last x p = p
counted-by (Refused r) last x p = tt

counted-tells : (least : ℕ) (t : Track) (o : Outcome) (reading : Reading) → Comes o → Telling (counted_of (turn_of least t o reading)).said
unfolding counted_of turn_of
counted-tells least t o reading k =
    let u = act (choose_of least t) t o reading in
    counted-by u.said (last_of u) u (act-tells (choose_of least t) t o reading k)

abbrev Tells : Step → Type 0
Tells x = Telling x.said

drained-tells : (t : Track) (reading : Reading) → Tells (drained t reading)
drained-tells t None = tt
drained-tells t (Some c) = guarded-by Tells _ _ _ (λ _. tt) (λ _. other 6 (λ e. omega arith) (λ e. omega arith))

played-tells : (t : Track) (reading : Reading) → Tells (counted_of (turn_of t.descriptors t (comes_to played_of reading) reading))
played-tells t reading = counted-tells t.descriptors t _ reading (comes played_of played-comes reading)

traced-tells : (t : Track) (len room : ℕ) (reading : Reading) → Tells (traced_call t len room reading)
traced-tells t len room reading = traced Tells t (λ _. tt) len room reading (λ _ _ _. played-tells t reading)

writing-tells : (t : Track) (len room : ℕ) (reading : Reading) → Tells (writing_call t len room reading)
writing-tells t len room reading = writes Tells t (λ _. tt) len room reading (λ _ _ _. (played-tells t reading, (λ _. played-tells t reading)))

capture-tells : (t : Track) (len : ℕ) (c : Catch) → Tells (capture_call t len c)
capture-tells t len c = captured Tells t (λ _. tt) len c (λ _ _. counted-tells t.descriptors t (caught_of t c) c.reading (comes (captured_of t.period c.written) (captured-comes t.period c.written) c.reading))

drain-call-tells : (t : Track) (reading : Reading) → Tells (drain_call t reading)
unfolding drain_call
drain-call-tells t reading = guarded-by Tells _ _ _ (λ _. guarded-by Tells _ _ _ (λ _. tt) (λ _. drained-tells t reading)) (λ _. tt)

-- a start goes on or is refused
abbrev Starts : Step → Type 0
Starts x = Begins x.said

start-begins : (t : Track) (stream total period budget : ℕ) → Starts (start_call t stream total period budget)
unfolding start_call
start-begins t stream total period budget = readied Starts t (λ _. tt) period budget _ (λ _. tt)

traced-start-begins : (t : Track) (stream total period budget room : ℕ) → Starts (start_traced t stream total period budget room)
traced-start-begins t stream total period budget room = traced-started Starts t (λ _. tt) stream total period budget room (λ _ _. tt)

capture-start-begins : (t : Track) (stream periods period lent budget : ℕ) → Starts (capture_start t stream periods period lent budget)
capture-start-begins t stream periods period lent budget = capture-started Starts t (λ _. tt) stream periods period lent budget (λ _ _. tt)

pub turn-unchanged : (s : List ℕ) (len kind slot status : ℕ) → Barred (turn_in s len kind slot status).answer → (turn_in s len kind slot status).store ≡ s
turn-unchanged s len kind slot status = rw (turn-leaves s len kind slot status) (refused-unchanged s (turn_step s len kind slot status) (traced-tells (track_at s) len 0 (reading_of kind slot status)))

pub drain-unchanged : (s : List ℕ) (kind slot status : ℕ) → Barred (drain_in s kind slot status).answer → (drain_in s kind slot status).store ≡ s
drain-unchanged s kind slot status = rw (drain-leaves s kind slot status) (refused-unchanged s (drain_step s kind slot status) (drain-call-tells (track_at s) (reading_of kind slot status)))

-- the same of a turn that is lent something besides, and of what it was lent: a recording, or room for a trace

lent-unchanged : (s lent : List ℕ) (x : Step) (left : List ℕ) → (Barred (said_word x.said) → left ≡ lent) → Barred (caught_in s lent x left).answer → (caught_in s lent x left).lent ≡ lent
lent-unchanged s lent x left f = guarded-by (λ (c : Caught). Barred c.answer → c.lent ≡ lent) (leb ring_size (length s)) _ _ (λ _ b. f b) (λ _ _. refl)

recording-barred : (t : Track) (x : Step) (bytes recording : List ℕ) → Untouched t x → Telling x.said → Barred (said_word x.said) → recording_after t x bytes recording ≡ recording
recording-barred t x bytes recording u p b =
    barred x.said p b (λ r e. let same : x.track.kept ≡ t.kept = ap (λ (y : Step). y.track.kept) (u r e) in sym (copy-nothing t x bytes recording (omega arith)))

module _ (s recording : List ℕ) (kind slot written : ℕ) (bytes : List ℕ) where
  abbrev step : Step
  step = capture_step s (length recording) kind slot written bytes

  capture-step-tells : Tells step
  capture-step-tells = capture-tells (track_at s) (length recording) (catch_of kind slot written bytes)

  pub capture-unchanged : Barred (capture_in s recording kind slot written bytes).answer → (capture_in s recording kind slot written bytes).ring ≡ s
  capture-unchanged =
      subst (λ (l : Made). Barred l.answer → l.store ≡ s) (sym (capture-leaves s recording kind slot written bytes)) (refused-unchanged s step capture-step-tells)

  pub recording-unchanged : Barred (capture_in s recording kind slot written bytes).answer → (capture_in s recording kind slot written bytes).lent ≡ recording
  unfolding capture_in
  recording-unchanged =
      lent-unchanged s recording step _ (recording-barred (track_at s) step bytes recording (capture-refused (track_at s) (length recording) (catch_of kind slot written bytes)) capture-step-tells)

room-barred : (t : Track) (x : Step) (room : List ℕ) → Telling x.said → Barred (said_word x.said) → room_after t x room ≡ room
room-barred t x room p b =
    barred x.said p b (λ r e. picks (writes_none (length room) x) room (sets room t.written (ink_of t x)) (none-ran (eqb (length room) 0) (is_refused x.said) (ap is_refused e)))

module _ (s : List ℕ) (len : ℕ) (room : List ℕ) (kind slot status : ℕ) where
  writing-step-tells : Tells (writing_step s len (length room) kind slot status)
  writing-step-tells = writing-tells (track_at s) len (length room) (reading_of kind slot status)

  pub traced-unchanged : Barred (turn_traced_in s len room kind slot status).answer → (turn_traced_in s len room kind slot status).ring ≡ s
  traced-unchanged =
      subst (λ (l : Made). Barred l.answer → l.store ≡ s) (sym (traced-leaves s len room kind slot status)) (refused-unchanged s (writing_step s len (length room) kind slot status) writing-step-tells)

  pub room-unchanged : Barred (turn_traced_in s len room kind slot status).answer → (turn_traced_in s len room kind slot status).lent ≡ room
  unfolding turn_traced_in
  room-unchanged = lent-unchanged s room (writing_step s len (length room) kind slot status) _ (room-barred (track_at s) (writing_step s len (length room) kind slot status) room writing-step-tells)

-- a start that does not go on, whatever it answers: 10, 1, 8 or 9
start-refused-unchanged : (s : List ℕ) (x : Step) → Starts x → ((leaves s x).answer ≡ going → ⊥) → (leaves s x).store ≡ s
start-refused-unchanged s x p = guarded-by (λ (l : Made). (l.answer ≡ going → ⊥) → l.store ≡ s) (leb ring_size (length s)) _ _ (λ _ n. unless-begun x.said s _ p n) (λ _ _. refl)

pub start-unchanged : (s : List ℕ) (stream len period budget : ℕ) → ((start_in s stream len period budget).answer ≡ going → ⊥) → (start_in s stream len period budget).store ≡ s
start-unchanged s stream len period budget =
    rw (start-leaves s stream len period budget) (start-refused-unchanged s (start_step s stream len period budget) (start-begins (track_at s) stream len period budget))

pub traced-start-unchanged : (s : List ℕ) (stream len period budget room : ℕ) → ((start_traced_in s stream len period budget room).answer ≡ going → ⊥) → (start_traced_in s stream len period budget room).store ≡ s
traced-start-unchanged s stream len period budget room =
    rw (traced-start-leaves s stream len period budget room) (start-refused-unchanged s (traced_start_step s stream len period budget room) (traced-start-begins (track_at s) stream len period budget room))

pub capture-start-unchanged : (s : List ℕ) (stream periods period len budget : ℕ) → ((capture_start_in s stream periods period len budget).answer ≡ going → ⊥) → (capture_start_in s stream periods period len budget).store ≡ s
capture-start-unchanged s stream periods period len budget =
    rw (capture-start-leaves s stream periods period len budget) (start-refused-unchanged s (capture_start_step s stream periods period len budget) (capture-start-begins (track_at s) stream periods period len budget))
