-- THE STORE HOLDS what the call by value leaves: of every number it is known that it fits its width, so nothing is cut off.
-- Assumes nothing.
use Rattle.std.specs.Prelude.{◌≡◌, refl, Bool, true, List, ℕ, zero, suc, ◌*◌, ◌≤◌, ◌<◌, ◌^◌, leb, length, replicate, Some, None}
use Rattle.std.proofs.Math.Path.{sym, ap}
use Rattle.std.proofs.Common.{◌∙◌, subst, arith, le-leb, leb-false}
use Rattle.std.proofs.Math.Bool.{false}
use Rattle.std.proofs.lemmas.List.Edits.{sets}
use Rattle.layout.specs.Bytes.{Bytes}
use Rattle.layout.specs.Layout.{Fit}
use Rattle.layout.specs.Lent.{Made}
use Rattle.layout.specs.Rows.{rows_at}
use Rattle.layout.specs.AllLaws.{set-ok, rows_ok}
use Rattle.layout.specs.LayoutLaws.{read_fits}
use Rattle.codes.specs.Says.{pick}
use Rattle.codes.specs.SaysLaws.{passes, guarded-by}
use Rattle.turns.specs.Ring.{blank_slot, new_ring, is_refused}
use Rattle.turns.specs.Rules.{choose_of, submit, sent_of, release, comes_to, played_of, act, turn_of, counted_of}
use Rattle.turns.specs.CaseLaws.{Plain, hear-cases, counted-cases}
use Rattle.turns.specs.Consistent.{consistent_of}
use Rattle.turns.specs.Private.{Mode}
use Rattle.turns.specs.ConsistentLaws.{Consistent, consistent-facts, few-slots, mode_small}
use Rattle.turns.specs.KeepLaws.{fixed, side, turn-plain, turn-keeps, turn-after}
use Rattle.turns.specs.RefusalLaws.{Untouched, turn-refused, drain-refused, start-refused, traced-start-refused, ring-untouched}
use Rattle.turns.specs.Calls.{traced_call, drained, drain_call, begun_in, start_call, start_traced, carry, ring_after, turned_of, started_of}
use Rattle.turns.specs.Capture.{catch_of, caught_of, capture_call, recording_after, capture_start}
use Rattle.turns.specs.InPlace.{turn_words, drain_words}
use Rattle.trace.specs.Writer.{writing_call, room_after}
use Rattle.trace.specs.TracedLaws.{writing-refused}
use Rattle.turns.specs.Script.{reading_of}
use Rattle.ring_store.specs.Types.{Slot, Track, Sent, Said, Going, Done, Ended, Refused, Step, Reading, Choice, Submit, Finish, Wait, Outcome, Catch}
use Rattle.ring_store.specs.Store.{track_size, slot_size, side_place, ring_size, track_row, track_values, side_row, side_values, track_at, slot_row, slot_at, ring_of, ring_bytes}
use Rattle.ring_store.specs.Calls.{new_in, turn_in, drain_in, start_in, Caught, caught_in, capture_step, capture_in, capture_start_in, writing_step, turn_traced_in, start_traced_in}
use Rattle.ring_store.specs.StoreLaws.{slots-long}
use Rattle.ring_store.specs.RoundLaws.{SlotFits, SlotsFit, Fits, track-values, side-values, store-back}
use Rattle.ring_store.specs.KeepLaws.{turn_step, drain_step, start_step, capture_start_step, traced_start_step, leaves, turn-leaves, drain-leaves, start-leaves, capture-leaves, capture-start-leaves, traced-leaves, traced-start-leaves, carry-long, whole-consistent}
use Rattle.ring_store.specs.AdmitLaws.{readied, traced, traced-started, writes, captured, capture-started, capture-refused, capture-start-refused, kept-within}

abbrev pub TrackFits : Track → Type 0
TrackFits t = Fit track_row (track_values t) × Fit side_row (side_values t)

abbrev pub SentFits : Sent → Type 0
SentFits None = Unit {0}
SentFits (Some p) = SlotFits (record { offset = p.offset; len = p.len })

-- ---- what was read fits

slots-fit : (o n : ℕ) (s : List ℕ) → Bytes s → SlotsFit (rows_at slot_at slot_size o n s)
unfolding slot_at
slots-fit o n s b = rows_ok SlotFits slot_at slot_size (λ o s b. read_fits o slot_row s b) o n s b

track-fits : (s : List ℕ) → Bytes s → consistent_of (track_at s) ≡ true → TrackFits (track_at s)
track-fits s b c =
    let w = whole-consistent s c in
    (subst (Fit track_row) (sym (track-values s w)) (read_fits 0 track_row s b), subst (Fit side_row) (sym (side-values s w)) (read_fits side_place side_row s b))

-- ---- a step that fits is held

carry-fits : (slots : List Slot) (sent : Sent) → SlotsFit slots → SentFits sent → SlotsFit (carry slots sent)
carry-fits slots None p q = p
carry-fits slots (Some p₁) p q = set-ok SlotFits slots p₁.slot (record { offset = p₁.offset; len = p₁.len }) p q

-- where it was not refused
abbrev StepFits : Step → Type 0
StepFits x = Plain x.said → TrackFits x.track × SentFits x.sent

module _ (s : List ℕ) (x : Step) (b : Bytes s) (h : ring_size ≤ length s) (f : StepFits x) (u : Untouched (track_at s) x) where
  after-fits : Plain x.said → Fits (ring_after (ring_of s) x)
  unfolding ring_of
  after-fits p = record { track = (f p).0.0; side = (f p).0.1; slots = carry-fits (ring_of s).slots x.sent (slots-fit track_size 32 s b) (f p).1; long = carry-long (ring_of s).slots x.sent (slots-long s) }

  unless_holds : (said : Said) → x.said ≡ said → ring_of (pick (is_refused said) s (sets s 0 (ring_bytes (ring_after (ring_of s) x)))) ≡ ring_after (ring_of s) x
  unfolding ring_of
  unless_holds Going e = store-back s (ring_after (ring_of s) x) (after-fits (subst Plain (sym e) tt)) h
  unless_holds Done e = store-back s (ring_after (ring_of s) x) (after-fits (subst Plain (sym e) tt)) h
  unless_holds (Ended r) e = store-back s (ring_after (ring_of s) x) (after-fits (subst Plain (sym e) tt)) h
  unless_holds (Refused r) e = sym (ring-untouched (ring_of s) x u r e)

  holds : ring_of (leaves s x).store ≡ ring_after (ring_of s) x
  holds =
      guarded-by (λ (l : Made). ring_of l.store ≡ ring_after (ring_of s) x) (leb ring_size (length s)) _ _
      (λ _. unless_holds x.said refl)
      (λ e. absurd (omega (arith, leb-false ring_size (length s) e)))

-- ---- each step fits

flag-fits : (b : Bool) → pick b 1 0 < 256 ^ 4
flag-fits true = omega arith
flag-fits false = omega arith

-- a consistent track of the same transfer
same-fits : (t n : Track) → TrackFits t → Consistent n → fixed n ≡ fixed t → side n ≡ side t → n.turns ≤ t.budget → TrackFits n
same-fits t n f c e l k =
    let size : n.descriptors ≡ t.descriptors = ap (λ (x : ℕ × ℕ × ℕ × ℕ × ℕ). x.0) e in
    let stream : n.stream ≡ t.stream = ap (λ (x : ℕ × ℕ × ℕ × ℕ × ℕ). x.1) e in
    let total : n.total ≡ t.total = ap (λ (x : ℕ × ℕ × ℕ × ℕ × ℕ). x.2) e in
    let period : n.period ≡ t.period = ap (λ (x : ℕ × ℕ × ℕ × ℕ × ℕ). x.3) e in
    let budget : n.budget ≡ t.budget = ap (λ (x : ℕ × ℕ × ℕ × ℕ × ℕ). x.4) e in
    let lent : n.lent ≡ t.lent = ap (λ (x : Bool × ℕ × ℕ × ℕ × ℕ). x.1) l in
    let room : n.room ≡ t.room = ap (λ (x : Bool × ℕ × ℕ × ℕ × ℕ). x.3) l in
    let written : n.written ≡ t.written = ap (λ (x : Bool × ℕ × ℕ × ℕ × ℕ). x.4) l in
    let inflight : n.inflight ≤ 32 = few-slots n c.placed in
    let head : n.head < 32 = c.placed.head_in in
    let tail : n.tail < 32 = c.placed.tail-in in
    let within : n.next ≤ n.total = c.paced.within in
    let kept : n.kept ≤ n.lent = c.kept in
    let good : n.good ≤ n.turns = c.good in
    let g = f.0 in
    let h = f.1 in (
      (omega arith, (omega arith, (omega arith, (omega arith, (omega arith, (omega arith, (omega arith, (omega arith, (omega arith, (omega arith, (flag-fits n.running, (omega arith, (omega arith, tt))))))))))))),
      (omega arith, (omega arith, (flag-fits n.capture, (omega arith, tt)))),
    )

sent-fits : (t : Track) → TrackFits t → SentFits (sent_of t)
sent-fits t f =
    let total : t.total < 256 ^ 8 = f.0.1.1.1.1.0 in
    (f.0.1.1.1.1.1.1.0, (omega arith, tt))

act-fits : (c : Choice) (t : Track) (o : Outcome) (reading : Reading) → TrackFits t → SentFits (act c t o reading).sent
act-fits Submit t o reading f = hear-cases (λ x. SentFits x.sent) (sent_of t) (submit t) o reading (λ _ _. sent-fits t f) (λ _ _ _ _ _ _ _. sent-fits t f)
act-fits Finish t o reading f = tt
act-fits Wait t o reading f = hear-cases (λ x. SentFits x.sent) None t o reading (λ _ _. tt) (λ _ _ _ _ _ _ _. tt)

counted-sent : (t : Track) (o : Outcome) (reading : Reading) → TrackFits t → SentFits (counted_of (turn_of t.descriptors t o reading)).sent
unfolding turn_of
counted-sent t o reading f =
    let p = act-fits (choose_of t.descriptors t) t o reading f in
    counted-cases (λ x. SentFits x.sent) (turn_of t.descriptors t o reading) (turn-plain t.descriptors t o reading) (λ _. p) (λ _ _. p)

module _ (t : Track) (f : consistent_of t ≡ true → TrackFits t) where
  -- a counted turn, of either direction
  counted-fits : (o : Outcome) (reading : Reading) → consistent_of t ≡ true → t.running ≡ true → let x = counted_of (turn_of t.descriptors t o reading) in
      TrackFits x.track × SentFits x.sent
  counted-fits o reading c on =
      let k = consistent-facts t c in
      let a = turn-after t.descriptors t o reading in
      let left = k.paced.left on in
      (same-fits t _ (f c) (turn-keeps t.descriptors t o reading (omega arith) k on) a.0 a.2 (omega arith), counted-sent t o reading (f c))

  traced-step-fits : (len room : ℕ) (reading : Reading) → StepFits (traced_call t len room reading)
  traced-step-fits len room reading = traced StepFits t (λ _ p. absurd p) len room reading (λ c on _ _. counted-fits _ reading c on)

  -- what is written of a trace stays within the room that was lent
  writing-step-fits : (len room : ℕ) (reading : Reading) → StepFits (writing_call t len room reading)
  writing-step-fits len room reading =
      writes StepFits t (λ _ p. absurd p) len room reading
      (λ ok on own.
      let g = counted-fits (comes_to played_of reading) reading ok on in
      let h = (f ok).0 in
      ((λ _. g), (λ within _. ((g.0.0, (g.0.1.0, (g.0.1.1.0, (g.0.1.1.1.0, (omega (arith, within, own, h), tt))))), g.1))))

  -- what is accepted of a capture stays within what is lent
  capture-step-fits : (len : ℕ) (c : Catch) → StepFits (capture_call t len c)
  capture-step-fits len c =
      captured StepFits t (λ _ p. absurd p) len c
      (λ ok on _.
      let g = counted-fits (caught_of t c) c.reading ok on in
      let within = kept-within t c (consistent-facts t ok) in
      let lent : t.lent < 256 ^ 8 = (f ok).1.0 in
      ((g.0.0, (g.0.1.0, (omega arith, g.0.1.1.1))), g.1))

  release-fits : TrackFits t → TrackFits (release t)
  release-fits f = ((f.0.0, (f.0.1.0, (omega arith, (omega arith, f.0.1.1.1.1)))), f.1)

  drained-fits : (reading : Reading) → TrackFits t → StepFits (drained t reading)
  drained-fits None f = λ _. (f, tt)
  drained-fits (Some c) f = guarded-by StepFits _ _ _ (λ _ _. (release-fits f, tt)) (λ _ _. (f, tt))

  drain-step-fits : (reading : Reading) → StepFits (drain_call t reading)
  unfolding drain_call
  drain-step-fits reading = guarded-by StepFits _ _ _ (λ c. guarded-by StepFits _ _ _ (λ _ p. absurd p) (λ _. drained-fits reading (f c))) (λ _ p. absurd p)

  -- a transfer that begins, of either direction
  begun-fits : (room : ℕ) (capture : Bool) (lent stream total period budget : ℕ) → consistent_of t ≡ true → room < 256 ^ 8 → lent < 256 ^ 8 → stream < 256 ^ 4 → total < 256 ^ 8 → period < 256 ^ 8 → budget < 256 ^ 8
      → TrackFits (begun_in room capture lent t stream total period budget)
  begun-fits room capture lent stream total period budget c w l m n p q = (
    ((f c).0.0, (omega arith, (omega arith, (omega arith, (n, (p, (omega arith, (q, (omega arith, (m, (omega arith, (w, (omega arith, tt))))))))))))),
    (l, (omega arith, (flag-fits capture, (omega arith, tt)))),
  )

  start-step-fits : (stream total period budget : ℕ) → stream < 256 ^ 4 → total < 256 ^ 8 → period < 256 ^ 8 → budget < 256 ^ 8 → StepFits (start_call t stream total period budget)
  unfolding start_call
  start-step-fits stream total period budget m n p q = readied StepFits t (λ _ p. absurd p) period budget _ (λ c _. (begun-fits 0 false total stream total period budget c (omega arith) n m n p q, tt))

  traced-start-step-fits : (stream total period budget room : ℕ) → stream < 256 ^ 4 → total < 256 ^ 8 → period < 256 ^ 8 → budget < 256 ^ 8 → room < 256 ^ 8 → StepFits (start_traced t stream total period budget room)
  traced-start-step-fits stream total period budget room m n p q w =
      traced-started StepFits t (λ _ p. absurd p) stream total period budget room (λ c _ _. (begun-fits room false total stream total period budget c w n m n p q, tt))

  capture-start-step-fits : (stream periods period lent budget : ℕ) → stream < 256 ^ 4 → period < 256 ^ 8 → lent < 256 ^ 8 → budget < 256 ^ 8 → StepFits (capture_start t stream periods period lent budget)
  capture-start-step-fits stream periods period lent budget m p l q =
      capture-started StepFits t (λ _ p. absurd p) stream periods period lent budget
      (λ c enough _. (begun-fits 0 true lent stream (periods * period) period budget c (omega arith) l m (omega arith) p q, tt))

-- ---- THE RING THAT A CALL LEAVES IN A STORE is the one that the call by value leaves

pub turn_holds : (s : List ℕ) (len kind slot status : ℕ) → Bytes s → ring_size ≤ length s → ring_of (turn_in s len kind slot status).store ≡ (turn_words (ring_of s) len kind slot status).ring
unfolding turn_words ring_of
turn_holds s len kind slot status b h =
    let reading = reading_of kind slot status in
    ap (λ (l : Made). ring_of l.store) (turn-leaves s len kind slot status)
    ∙ holds s (turn_step s len kind slot status) b h (traced-step-fits (track_at s) (track-fits s b) len 0 reading) (turn-refused (track_at s) len reading)

pub drain-holds : (s : List ℕ) (kind slot status : ℕ) → Bytes s → ring_size ≤ length s → ring_of (drain_in s kind slot status).store ≡ (drain_words (ring_of s) kind slot status).ring
unfolding drain_words ring_of
drain-holds s kind slot status b h =
    let reading = reading_of kind slot status in
    ap (λ (l : Made). ring_of l.store) (drain-leaves s kind slot status)
    ∙ holds s (drain_step s kind slot status) b h (drain-step-fits (track_at s) (track-fits s b) reading) (drain-refused (track_at s) reading)

-- what was lent besides
lent-holds : (s lent : List ℕ) (x : Step) (left : List ℕ) → ring_size ≤ length s → (caught_in s lent x left).lent ≡ left
lent-holds s lent x left h = ap (λ (c : Caught). c.lent) (sym (passes _ _ _ (le-leb ring_size (length s) h) refl))

-- the arguments are machine numbers
pub start-holds : (s : List ℕ) (stream len period budget : ℕ) → Bytes s → ring_size ≤ length s → stream < 256 ^ 4 → len < 256 ^ 8 → period < 256 ^ 8 → budget < 256 ^ 8
    → ring_of (start_in s stream len period budget).store ≡ (started_of (ring_of s) (start_call (track_at s) stream len period budget)).ring
start-holds s stream len period budget b h m n p q =
    ap (λ (l : Made). ring_of l.store) (start-leaves s stream len period budget)
    ∙ holds s (start_step s stream len period budget) b h (start-step-fits (track_at s) (track-fits s b) stream len period budget m n p q) (start-refused (track_at s) stream len period budget)

pub traced-start-holds : (s : List ℕ) (stream len period budget room : ℕ) → Bytes s → ring_size ≤ length s → stream < 256 ^ 4 → len < 256 ^ 8 → period < 256 ^ 8 → budget < 256 ^ 8 → room < 256 ^ 8
    → ring_of (start_traced_in s stream len period budget room).store ≡ (started_of (ring_of s) (start_traced (track_at s) stream len period budget room)).ring
traced-start-holds s stream len period budget room b h m n p q w =
    ap (λ (l : Made). ring_of l.store) (traced-start-leaves s stream len period budget room)
    ∙ holds s (traced_start_step s stream len period budget room) b h (traced-start-step-fits (track_at s) (track-fits s b) stream len period budget room m n p q w)
    (traced-start-refused (track_at s) stream len period budget room)

-- of a turn that writes a trace, the room too
module _ (s : List ℕ) (len : ℕ) (room : List ℕ) (kind slot status : ℕ) (b : Bytes s) (h : ring_size ≤ length s) where
  abbrev writing : Step
  writing = writing_call (ring_of s).track len (length room) (reading_of kind slot status)

  pub traced-holds : ring_of (turn_traced_in s len room kind slot status).ring ≡ (turned_of (ring_of s) writing).ring
  unfolding ring_of
  traced-holds =
      let reading = reading_of kind slot status in
      ap (λ (l : Made). ring_of l.store) (traced-leaves s len room kind slot status)
      ∙ holds s (writing_step s len (length room) kind slot status) b h (writing-step-fits (track_at s) (track-fits s b) len (length room) reading) (writing-refused (track_at s) len (length room) reading)

  pub room-holds : (turn_traced_in s len room kind slot status).lent ≡ room_after (ring_of s).track writing room
  unfolding turn_traced_in ring_of
  room-holds = lent-holds s room (writing_step s len (length room) kind slot status) _ h

-- of a capture's turn, the recording too
module _ (s recording : List ℕ) (kind slot written : ℕ) (bytes : List ℕ) (b : Bytes s) (h : ring_size ≤ length s) where
  abbrev called : Step
  called = capture_call (ring_of s).track (length recording) (catch_of kind slot written bytes)

  pub capture-holds : ring_of (capture_in s recording kind slot written bytes).ring ≡ (turned_of (ring_of s) called).ring
  unfolding ring_of
  capture-holds =
      let c = catch_of kind slot written bytes in
      ap (λ (l : Made). ring_of l.store) (capture-leaves s recording kind slot written bytes)
      ∙ holds s (capture_step s (length recording) kind slot written bytes) b h (capture-step-fits (track_at s) (track-fits s b) (length recording) c) (capture-refused (track_at s) (length recording) c)

  pub recording-holds : (capture_in s recording kind slot written bytes).lent ≡ recording_after (ring_of s).track called bytes recording
  unfolding capture_in ring_of
  recording-holds = lent-holds s recording (capture_step s (length recording) kind slot written bytes) _ h

pub capture-start-holds : (s : List ℕ) (stream periods period len budget : ℕ) → Bytes s → ring_size ≤ length s → stream < 256 ^ 4 → period < 256 ^ 8 → len < 256 ^ 8 → budget < 256 ^ 8
    → ring_of (capture_start_in s stream periods period len budget).store ≡ (started_of (ring_of s) (capture_start (track_at s) stream periods period len budget)).ring
capture-start-holds s stream periods period len budget b h m p n q =
    ap (λ (l : Made). ring_of l.store) (capture-start-leaves s stream periods period len budget)
    ∙ holds s (capture_start_step s stream periods period len budget) b h (capture-start-step-fits (track_at s) (track-fits s b) stream periods period len budget m p n q)
    (capture-start-refused (track_at s) stream periods period len budget)

pub new-holds : (descriptors : ℕ) → Mode descriptors → (s : List ℕ) → ring_size ≤ length s → ring_of (new_in descriptors s).store ≡ new_ring descriptors
new-holds descriptors mode s h =
    guarded-by (λ (l : Made). ring_of l.store ≡ new_ring descriptors) (leb ring_size (length s)) _ _
    (λ _. store-back s (new_ring descriptors) (record { track = new-track.0; side = new-track.1; slots = blank-fits 32; long = refl }) h)
    (λ e. absurd (omega (arith, leb-false ring_size (length s) e)))
  where
    new-track : TrackFits (new_ring descriptors).track
    new-track = (
      (omega (arith, (mode_small descriptors mode).1), (omega arith, (omega arith, (omega arith, (omega arith, (omega arith, (omega arith, (omega arith, (omega arith, (omega arith, (omega arith, (omega arith, (omega arith, tt))))))))))))),
      (omega arith, (omega arith, (omega arith, (omega arith, tt)))),
    )

    blank-fits : (n : ℕ) → SlotsFit (replicate n blank_slot)
    blank-fits zero = tt
    blank-fits (suc n) = ((omega arith, (omega arith, tt)), blank-fits n)
