-- What the writer's code leans on: how long a turn's bytes are, where they stand, that their numbers fit, and what a turn leaves.
-- Assumes nothing.
use Rattle.std.specs.Prelude.{Bool, true, false, ◌&&◌, ◌||◌, List, [], ◌∷◌, ◌++◌, ◌≡◌, refl, ℕ, ◌+◌, ◌-◌, ◌≤◌, ◌<◌, ltb, leb, eqb, length, Some, None}
use Rattle.std.proofs.Common.{sym, subst, ◌∙◌, arith, length-append, eq-eqb, ne_eqb, ltb-true, le-leb, leb-true, leb-false}
use Rattle.std.proofs.Math.Path.{ap}
use Rattle.std.proofs.lemmas.List.Edits.{sets}
use Rattle.std.proofs.lemmas.Bool.{lt-leb}
use Rattle.layout.specs.StoreLaws.{sets_then}
use Rattle.layout.specs.Rows.{rows_bytes}
use Rattle.layout.specs.RowsLaws.{rows_bytes-append}
use Rattle.codes.specs.Says.{pick, guard}
use Rattle.codes.specs.SaysLaws.{picks, skips, passes, stops}
use Rattle.codes.specs.declared.answers.Refusal.TheVariants.{InvalidParam}
use Rattle.turns.specs.Rules.{choose_of, sent_of, submit, comes_to, judge_of, played_of, settle, hear, act, turn_of, counted_of}
use Rattle.turns.specs.RuleLaws.{Judged, judged}
use Rattle.turns.specs.ConsistentLaws.{both}
use Rattle.turns.specs.Ring.{is_refused}
use Rattle.turns.specs.Calls.{refused_of, traced_call, offer_by, written_in}
use Rattle.turns.specs.RefusalLaws.{turn-sent}
use Rattle.turns.specs.HostLaws.{call-traces, traced-ran}
use Rattle.trace.specs.Field.{bytes_of, trace_bytes, size_of}
use Rattle.trace.specs.ScanLaws.{size-bytes}
use Rattle.trace.specs.Trace.{sent_then, heard_then, said_then}
use Rattle.trace.specs.Private.{SentFits, HeardFits, turn_fields}
use Rattle.trace.specs.Writer.{opening_by, opening, ink_of, pen_fits, inked, writes_none, inked_by, writing_call, room_after}
use Rattle.trace.specs.PenLaws.{turn-length, one_size}
use Rattle.trace.specs.WriterLaws.{counted_same}
use Rattle.trace.specs.declared.field.Field.TheVariants as field
use Rattle.trace.specs.Types.{Track, Step, Sent, Reading, Choice, Submit, Finish, Wait, Verdict, WrongSlot, Good, Bad, Outcome, Field}

-- ---- how long they are

pub size_none : (n : ℕ) (fs : List Field) → fs ≡ [] → (0 ≡ length (trace_bytes fs)) × (0 ≤ n)
unfolding rows_bytes
size_none n fs e = (ap (λ (x : List Field). length (trace_bytes x)) (sym e), omega arith)

pub size-one : (n : ℕ) (fs : List Field) (f : Field) → fs ≡ f ∷ [] → n ≡ size_of f → (n ≡ length (trace_bytes fs)) × (n ≤ n)
size-one n fs f e h = (h ∙ one_size f ∙ ap (λ (x : List Field). length (trace_bytes x)) (sym e), omega arith)

pub opening-size : (z : Bool) (t : Track) (fs : List Field) → length (trace_bytes (opening_by z t fs)) ≡ pick z 15 0 + length (trace_bytes fs)
unfolding rows_bytes
opening-size true t fs =
    let f = field.Start t.stream t.total t.period in
    let a = length-append (bytes_of f) (trace_bytes fs) in
    let b = size-bytes f in
    omega (arith, a, b)
opening-size false t fs = omega arith

module _ (t : Track) (s : Step) where
  ink-size : length (ink_of t s) ≡ pick (eqb t.turns 0) 15 0 + (length (trace_bytes (sent_then s.sent [])) + (length (trace_bytes (heard_then s.heard [])) + length (trace_bytes (said_then s.said []))))
  ink-size = opening-size (eqb t.turns 0) t (turn_fields s.sent s.heard s.said) ∙ ap (λ (n : ℕ). pick (eqb t.turns 0) 15 0 + n) (turn-length s.sent s.heard s.said)

  module _ (a b c : ℕ) (p : (a ≡ length (trace_bytes (sent_then s.sent []))) × (a ≤ 12)) (q : (b ≡ length (trace_bytes (heard_then s.heard []))) × (b ≤ 8)) (r : (c ≡ length (trace_bytes (said_then s.said []))) × (c ≤ 4)) where
    ink-by : (k : ℕ) → k ≤ 15 → pick (eqb t.turns 0) 15 0 ≡ k → (k + a + b + c ≡ length (ink_of t s)) × (k + a + b + c ≤ 39)
    ink-by k few e = let i = ink-size in let x = p.0 in let y = q.0 in let z = r.0 in let x' = p.1 in let y' = q.1 in let z' = r.1 in (omega (arith, i, x, y, z, e), omega (arith, few, x', y', z'))

    pub ink-first : t.turns ≡ 0 → (15 + a + b + c ≡ length (ink_of t s)) × (15 + a + b + c ≤ 39)
    ink-first e = ink-by 15 (omega arith) (picks (eqb t.turns 0) 15 0 (eq-eqb t.turns 0 e))

    pub ink-later : (t.turns ≡ 0 → ⊥) → (a + b + c ≡ length (ink_of t s)) × (a + b + c ≤ 39)
    ink-later n = let i = ink-by 0 (omega arith) (skips (eqb t.turns 0) 15 0 (ne_eqb t.turns 0 n)) in let e = i.0 in let h = i.1 in (omega (arith, e), omega (arith, h))

-- ---- where they stand

pub opening-none : (t : Track) → (t.turns ≡ 0 → ⊥) → opening t [] ≡ []
opening-none t n = ap (λ (z : Bool). opening_by z t []) (ne_eqb t.turns 0 n)

pub opening-first : (t : Track) → t.turns ≡ 0 → opening t [] ≡ field.Start t.stream t.total t.period ∷ []
opening-first t e = ap (λ (z : Bool). opening_by z t []) (eq-eqb t.turns 0 e)

pub opening-append : (z : Bool) (t : Track) (fs gs : List Field) → opening_by z t fs ++ gs ≡ opening_by z t (fs ++ gs)
opening-append true t fs gs = refl
opening-append false t fs gs = refl

module _ (t : Track) (s : Step) where
  abbrev fs : List Field
  fs = turn_fields s.sent s.heard s.said

  ink-bytes : ink_of t s ≡ trace_bytes (opening t []) ++ trace_bytes fs
  ink-bytes = ap trace_bytes (sym (opening-append (eqb t.turns 0) t [] fs)) ∙ rows_bytes-append bytes_of (opening t []) fs

  ink-parts : length (ink_of t s) ≡ length (trace_bytes (opening t [])) + length (trace_bytes fs)
  ink-parts = ap length ink-bytes ∙ length-append (trace_bytes (opening t [])) (trace_bytes fs)

  pub room-opening : (m : ℕ) → t.written + length (ink_of t s) ≤ m → t.written + length (trace_bytes (opening t [])) ≤ m
  room-opening m h = let e = ink-parts in omega (arith, h, e)

  pub room-turn : (m m' a : ℕ) → t.written + length (ink_of t s) ≤ m → a ≡ t.written + length (trace_bytes (opening t [])) → m' ≡ m → a + length (trace_bytes fs) ≤ m'
  room-turn m m' a h p q = let e = ink-parts in omega (arith, h, e, p, q)

  pub ink-stored : (l m n : List ℕ) (a r : ℕ) → (a ≡ t.written + length (trace_bytes (opening t []))) × (m ≡ sets l t.written (trace_bytes (opening t [])))
      → (r ≡ a + length (trace_bytes fs)) × (n ≡ sets m a (trace_bytes fs)) → (r ≡ t.written + length (ink_of t s)) × (n ≡ sets l t.written (ink_of t s))
  ink-stored l m n a r p q =
      let e = ink-parts in
      let x = p.0 in
      let y = q.0 in (
        omega (arith, e, x, y),
        q.1 ∙ ap (λ (w : List ℕ). sets w a (trace_bytes fs)) p.1 ∙ sets_then l t.written a (trace_bytes (opening t [])) (trace_bytes fs) p.0 ∙ ap (sets l t.written) (sym ink-bytes),
      )

-- ---- their numbers fit: slots are below 32, a period is within the frames

offer-fits : (c : Choice) (t : Track) → t.head < 32 → t.next ≤ t.total → t.total < 4294967296 → SentFits (offer_by c t)
offer-fits Submit t head within short = (omega (arith, head), omega (arith, within, short), omega (arith, within, short))
offer-fits Finish t head within short = tt
offer-fits Wait t head within short = tt

settle-fits : (v : Verdict) (sent : Sent) (t : Track) (slot status : ℕ) (o : Outcome) → Judged t slot o v → t.tail < 32 → HeardFits (settle v sent t slot status).heard
settle-fits WrongSlot sent t slot status o j low = tt
settle-fits Good sent t slot status o j low = let e = j.1 in omega (arith, e, low)
settle-fits (Bad r) sent t slot status o j low = let e = j.1 in omega (arith, e, low)

hear-fits : (sent : Sent) (t : Track) (o : Outcome) (reading : Reading) → t.tail < 32 → HeardFits (hear o sent t reading).heard
hear-fits sent t o None low = tt
hear-fits sent t o (Some c) low = settle-fits (judge_of t c.slot o) sent t c.slot c.status o (judged t c.slot o) low

act-fits : (c : Choice) (t : Track) (o : Outcome) (reading : Reading) → t.tail < 32 → HeardFits (act c t o reading).heard
act-fits Submit t o reading low = hear-fits (sent_of t) (submit t) o reading low
act-fits Finish t o reading low = tt
act-fits Wait t o reading low = hear-fits None t o reading low

turn-fits : (least : ℕ) (t : Track) (o : Outcome) (reading : Reading) → t.tail < 32 → HeardFits (counted_of (turn_of least t o reading)).heard
unfolding turn_of
turn-fits least t o reading low = subst HeardFits (sym (counted_same (act (choose_of least t) t o reading)).heard) (act-fits (choose_of least t) t o reading low)

pub ran-fits : (len room : ℕ) (t : Track) (reading : Reading) (s : Step) → s ≡ traced_call t len room reading → is_refused s.said ≡ false → t.total < 4294967296 → SentFits s.sent × HeardFits s.heard
ran-fits len room t reading s e ran short =
    let r = traced-ran len room t reading (ap (λ (x : Step). is_refused x.said) (sym e) ∙ ran) in
    let p = r.consistent.placed in
    let o = comes_to played_of reading in
    let same = call-traces len room t reading r ∙ sym e in (
      subst (λ (x : Step). SentFits x.sent) same (subst SentFits (sym (turn-sent t.descriptors t o reading)) (offer-fits (choose_of t.descriptors t) t p.head_in r.consistent.paced.within short)),
      subst (λ (x : Step). HeardFits x.heard) same (turn-fits t.descriptors t o reading p.tail-in),
    )

-- ---- what a turn leaves

pub none_lent : (n : ℕ) (b : Bool) → n ≡ 0 → (eqb n 0 || b) ≡ true
none_lent n b e = ap (λ (x : Bool). x || b) (eq-eqb n 0 e)

pub none-ran : (a b : Bool) → b ≡ true → (a || b) ≡ true
none-ran true b e = refl
none-ran false b e = e

pub some-lent : (n : ℕ) (b : Bool) → (n ≡ 0 → ⊥) → b ≡ false → (eqb n 0 || b) ≡ false
some-lent n b h e = ap (λ (x : Bool). x || b) (ne_eqb n 0 h) ∙ e

-- the sum of two numbers of which one is within the room
pub room-none : (written more room : ℕ) → room < more → false ≡ leb (written + more) room
room-none written more room h = sym (lt-leb (written + more) room (omega (arith, h)))

pub room-left : (written more room : ℕ) → more ≤ room → leb written (room - more) ≡ leb (written + more) room
room-left written more room h = by (leb written (room - more)) refl
  where
    by : (b : Bool) → leb written (room - more) ≡ b → b ≡ leb (written + more) room
    by true e = let k = leb-true written (room - more) e in sym (le-leb (written + more) room (omega (arith, h, k)))
    by false e = let k = leb-false written (room - more) e in sym (lt-leb (written + more) room (omega (arith, h, k)))

-- the test was made of the size
pub fits_by : (t : Track) (s : Step) (room more : ℕ) {b : Bool} → more ≡ length (ink_of t s) → (ltb t.total 4294967296 && (ltb t.period 4294967296 && leb (t.written + more) room)) ≡ b → pen_fits t s room ≡ b
fits_by t s room more e h = ap (λ (n : ℕ). ltb t.total 4294967296 && (ltb t.period 4294967296 && leb (t.written + n) room)) (sym e) ∙ h

pub fits-facts : (t : Track) (s : Step) (room : ℕ) → pen_fits t s room ≡ true → (t.total < 4294967296) × (t.period < 4294967296) × (t.written + length (ink_of t s) ≤ room)
fits-facts t s room e =
    let p = both (ltb t.total 4294967296) (ltb t.period 4294967296 && leb (t.written + length (ink_of t s)) room) e in
    let q = both (ltb t.period 4294967296) (leb (t.written + length (ink_of t s)) room) p.1 in
    (ltb-true _ _ p.0, ltb-true _ _ q.0, leb-true _ _ q.1)

module _ (t : Track) (len : ℕ) (room : List ℕ) (reading : Reading) (s : Step) (e : s ≡ traced_call t len (length room) reading) where
  abbrev none : Bool
  none = writes_none (length room) s

  abbrev pub Leaves : Step → List ℕ → Type 0
  Leaves r l = (r ≡ writing_call t len (length room) reading) × (l ≡ room_after t (writing_call t len (length room) reading) room)

  leaves : (r : Step) (l : List ℕ) → r ≡ inked_by t s (length room) → l ≡ room_after t r room → Leaves r l
  unfolding writing_call
  leaves r l p q =
      let w : r ≡ inked_by t (traced_call t len (length room) reading) (length room) = p ∙ ap (λ (x : Step). inked_by t x (length room)) e in
      (w, q ∙ ap (λ (x : Step). room_after t x room) w)

  abbrev rest : Step
  rest = guard (pen_fits t s (length room)) (refused_of InvalidParam t) (inked t s)

  pub nothing_written : none ≡ true → Leaves s room
  nothing_written h = leaves s room (sym (picks none s rest h)) (sym (picks none room (sets room t.written (ink_of t s)) h))

  pub not-traced : (r : Step) → none ≡ false → pen_fits t s (length room) ≡ false → r ≡ refused_of InvalidParam t → Leaves r room
  not-traced r h f p =
      let q = refused_of InvalidParam t in
      leaves r room (stops (pen_fits t s (length room)) (refused_of InvalidParam t) (inked t s) f p ∙ sym (skips none s rest h))
      (sym (picks (writes_none (length room) q) room (sets room t.written (ink_of t q)) (none-ran (eqb (length room) 0) true refl)) ∙ ap (λ (x : Step). room_after t x room) (sym p))

  pub traced : (end : ℕ) (l : List ℕ) → none ≡ false → pen_fits t s (length room) ≡ true → (end ≡ t.written + length (ink_of t s)) × (l ≡ sets room t.written (ink_of t s))
      → Leaves (record { track = written_in end s.track; sent = s.sent; heard = s.heard; said = s.said }) l
  traced end l h f k =
      let r : Step = record { track = written_in end s.track; sent = s.sent; heard = s.heard; said = s.said } in
      let p : r ≡ inked t s = ap (λ (n : ℕ). record { track = written_in n s.track; sent = s.sent; heard = s.heard; said = s.said }) k.0 in
      leaves r l (passes (pen_fits t s (length room)) (refused_of InvalidParam t) (inked t s) f p ∙ sym (skips none s rest h))
      (k.1 ∙ sym (skips none room (sets room t.written (ink_of t s)) h))
