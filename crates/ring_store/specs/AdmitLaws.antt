-- The refusals of a turn and of a start, once for both directions and for a trace: what holds of each refusal and of the rest holds of the call. And what a capture's call does with them.
-- Assumes nothing.
use Rattle.std.specs.Prelude.{◌≡◌, refl, Bool, not, ◌||◌, ℕ, ◌+◌, ◌*◌, ◌≤◌, ◌<◌, eqb, length}
use Rattle.std.proofs.Math.Path.{sym, subst}
use Rattle.std.proofs.Common.{ap, arith, leb-true, ltb-true, eqb-true}
use Rattle.std.proofs.Math.Bool.{true, false}
use Rattle.std.proofs.lemmas.Bool.{false≢true}
use Rattle.codes.specs.Says.{pick, guard}
use Rattle.codes.specs.SaysLaws.{picks, guarded-by}
use Rattle.codes.specs.declared.answers.Refusal.{Refusal}
use Rattle.codes.specs.declared.answers.Refusal.TheVariants.{InvalidParam}
use Rattle.turns.specs.Rules.{comes_to, played_of, turn_of, counted_of}
use Rattle.turns.specs.CaseLaws.{plain}
use Rattle.turns.specs.Calls.{unchanged_of, refused_of, runs_as, admit, traced_call, ready, begun_in, begun_as, start_traced}
use Rattle.turns.specs.Consistent.{consistent_of}
use Rattle.turns.specs.ConsistentLaws.{both, Consistent}
use Rattle.turns.specs.KeepLaws.{turn-after}
use Rattle.turns.specs.RefusalLaws.{Untouched, refuses, turn-answers}
use Rattle.turns.specs.Capture.{caught_of, caught_turn, capture_call, capture_start}
use Rattle.turns.specs.CaptureLaws.{keeps-room}
use Rattle.trace.specs.Writer.{ink_of, pen_fits, inked, writes_none, inked_by, writing_call}
use Rattle.trace.specs.InkLaws.{none-ran, fits-facts}
use Rattle.ring_store.specs.Types.{Track, Going, Step, Reading, Catch}

runs_on : (capture : Bool) (t : Track) → runs_as capture t ≡ true → t.running ≡ true
runs_on true t e = (both t.running t.capture e).0
runs_on false t e = (both t.running (not t.capture) e).0

lent-room : (running : Bool) (room own : ℕ) → (not running || eqb room own) ≡ true → running ≡ true → room ≡ own
lent-room true room own e on = eqb-true room own e
lent-room false room own e on = absurd (false≢true on)

module _ (P : Step → Type 0) (t : Track) (refused : (r : Refusal) → P (refused_of r t)) where
  pub admitted : (capture : Bool) (len : ℕ) (rest : Step) → (consistent_of t ≡ true → t.running ≡ true → P rest) → P (admit capture t len (λ r. refused_of r t) rest)
  admitted capture len rest f =
      guarded-by P _ _ _ (λ _. guarded-by P _ _ _ (λ c. guarded-by P _ _ _ (λ on. f c (runs_on capture t on)) (λ _. refused _)) (λ _. refused _)) (λ _. refused _)

  pub readied : (period budget : ℕ) (rest : Step) → (consistent_of t ≡ true → P rest) → P (ready t period budget (λ r. refused_of r t) rest)
  readied period budget rest f =
      guarded-by P _ _ _ (λ c. guarded-by P _ _ _ (λ _. guarded-by P _ _ _ (λ _. guarded-by P _ _ _ (λ _. f c) (λ _. refused _)) (λ _. refused _)) (λ _. refused _)) (λ _. refused _)

  -- a turn, lent the room of its start, and the start of a transfer that writes a trace
  pub traced : (len room : ℕ) (reading : Reading) → (consistent_of t ≡ true → t.running ≡ true → room ≡ t.room → P (counted_of (turn_of t.descriptors t (comes_to played_of reading) reading))) → P (traced_call t len room reading)
  unfolding traced_call
  traced len room reading f = guarded-by P _ _ _ (λ e. admitted false len _ (λ c on. f c on (lent-room t.running room t.room e on))) (λ _. refused _)

  pub traced-started : (stream total period budget room : ℕ) → (consistent_of t ≡ true → total < 4294967296 → P (unchanged_of Going (begun_in room false total t stream total period budget)))
      → P (start_traced t stream total period budget room)
  unfolding start_traced
  traced-started stream total period budget room f = readied period budget _ (λ c. guarded-by P _ _ _ (λ e. guarded-by P _ _ _ (λ _. f c (ltb-true _ _ e)) (λ _. refused _)) (λ _. refused _))

  -- the two calls of a capture
  pub captured : (len : ℕ) (c : Catch) → (consistent_of t ≡ true → t.running ≡ true → P (caught_turn t.descriptors t c)) → P (capture_call t len c)
  unfolding capture_call
  captured len c f = guarded-by P _ _ _ (λ _. admitted true len _ f) (λ _. refused _)

  pub capture-started : (stream periods period lent budget : ℕ) → (consistent_of t ≡ true → periods * period ≤ lent → P (unchanged_of Going (begun_as true lent t stream (periods * period) period budget)))
      → P (capture_start t stream periods period lent budget)
  unfolding capture_start
  capture-started stream periods period lent budget f = readied period budget _ (λ c. guarded-by P _ _ _ (λ e. f c (leb-true _ _ e)) (λ _. refused _))

-- ---- a turn that writes is the turn, or the same with the length of its trace

inked-by : (P : Step → Type 0) (t : Track) (s : Step) (room : ℕ) (none : Bool) → P s → ((r : Refusal) → P (refused_of r t)) → (t.written + length (ink_of t s) ≤ room → P (inked t s))
    → P (pick none s (guard (pen_fits t s room) (refused_of InvalidParam t) (inked t s)))
inked-by P t s room true p refused f = p
inked-by P t s room false p refused f = guarded-by P _ _ _ (λ e. f (fits-facts t s room e).2) (λ _. refused _)

module _ (P : Step → Type 0) (t : Track) (refused : (r : Refusal) → P (refused_of r t)) where
  pub writes : (len room : ℕ) (reading : Reading)
      → (consistent_of t ≡ true → t.running ≡ true → room ≡ t.room → let s = counted_of (turn_of t.descriptors t (comes_to played_of reading) reading) in
      P s × (t.written + length (ink_of t s) ≤ room → P (inked t s))) → P (writing_call t len room reading)
  unfolding writing_call
  writes len room reading f =
      traced (λ s. P (inked_by t s room)) t (λ r. subst P (passes_none (refused_of r t) (none-ran (eqb room 0) true refl)) (refused r)) len room reading
      (λ c on e. let s = counted_of (turn_of t.descriptors t (comes_to played_of reading) reading) in
      let g = f c on e in
      inked-by P t s room (writes_none room s) g.0 refused g.1)
    where
      passes_none : (s : Step) → writes_none room s ≡ true → s ≡ inked_by t s room
      passes_none s e = sym (picks (writes_none room s) s (guard (pen_fits t s room) (refused_of InvalidParam t) (inked t s)) e)

-- ---- a refusal of a capture changes nothing

pub capture-refused : (t : Track) (len : ℕ) (c : Catch) → Untouched t (capture_call t len c)
capture-refused t len c = captured (Untouched t) t (refuses t) len c (λ _ _ x e. absurd (plain _ (turn-answers t.descriptors t (caught_of t c) c.reading) x e))

pub capture-start-refused : (t : Track) (stream periods period lent budget : ℕ) → Untouched t (capture_start t stream periods period lent budget)
capture-start-refused t stream periods period lent budget = capture-started (Untouched t) t (refuses t) stream periods period lent budget (λ _ _ x e. absurd (plain Going tt x e))

-- ---- what is accepted has room in the recording

pub kept-within : (t : Track) (c : Catch) → Consistent t → (caught_turn t.descriptors t c).track.kept ≤ t.lent
kept-within t c k =
    let s = counted_of (turn_of t.descriptors t (caught_of t c) c.reading) in
    let lent : s.track.lent ≡ t.lent = ap (λ (x : Bool × ℕ × ℕ × ℕ × ℕ). x.1) (turn-after t.descriptors t (caught_of t c) c.reading).2 in
    let room = keeps-room t.descriptors t c (caught_of t c) c.reading k.kept in
    omega arith
