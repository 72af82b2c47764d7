-- The calls on a store, by what their code does.
-- Assumes nothing.
use Rattle.std.specs.Prelude.{◌≡◌, Bool, true, false, not, ◌&&◌, ◌||◌, List, ℕ, ◌≤◌, ◌<◌, leb, eqb, length, Err}
use Rattle.std.proofs.Math.Path.{refl, ap}
use Rattle.std.proofs.Common.{sym, ◌∙◌, le-leb, eq-eqb, ne_eqb}
use Rattle.std.proofs.lemmas.Bool.{lt-leb}
use Rattle.layout.specs.Bytes.{Bytes}
use Rattle.layout.specs.Lent.{Made, made}
use Rattle.codes.specs.Says.{pick, guard}
use Rattle.codes.specs.SaysLaws.{picks, skips, passes, stops}
use Rattle.turns.specs.Ring.{new_ring, said_word, is_refused}
use Rattle.turns.specs.Calls.{refused_of, runs_as, traced_call, turn_call, turned_of, offer_as}
use Rattle.turns.specs.CallLaws.{no-transfer, offer-unsound, offer-other}
use Rattle.turns.specs.Consistent.{consistent_of}
use Rattle.turns.specs.Capture.{catch_of, capture_call, recording_after}
use Rattle.turns.specs.Script.{reading_of}
use Rattle.trace.specs.Writer.{writing_call, room_after}
use Rattle.ring_store.specs.Types.{Track, Ring, Step, Reading}
use Rattle.codes.specs.declared.answers.Refusal.TheVariants.{InvalidParam, BadLength}
use Rattle.ring_store.specs.Store.{ring_size, track_at, ring_of}
use Rattle.ring_store.specs.Calls.{left_by, changed, new_in, caught, caught_by, caught_in, capture_in, turn_traced_in}
use Rattle.ring_store.specs.StoreLaws.{sent-over, new-over}
use Rattle.ring_store.specs.Private.{track_over, sent_over, blank_over, blank_in, step_over}

-- what a step leaves, by place: nothing where it was refused, else the track and what was sent
module _ (s : List ℕ) (x : Step) (n : ℕ) (e : n ≡ said_word x.said) where
  abbrev over : List ℕ
  over = sent_over (track_over s x.track) x.sent

  pub refused_over : is_refused x.said ≡ true → made n s ≡ step_over s x
  refused_over h = λ j. made (e j) (sym (picks (is_refused x.said) s over h) j)

  pub written_over : is_refused x.said ≡ false → (l : List ℕ) → l ≡ over → made n l ≡ step_over s x
  written_over h l p = λ j. made (e j) ((p ∙ sym (skips (is_refused x.said) s over h)) j)

-- and that is what the call by value leaves
pub step-over : (s : List ℕ) (x : Step) → Bytes s → step_over s x ≡ left_by s (turned_of (ring_of s) x)
step-over s x b = ap (λ (l : List ℕ). made (said_word x.said) (pick (is_refused x.said) s l)) (sent-over s x.track x.sent b)

-- ---- each return of a call that changes the ring

pub short : (s : List ℕ) (l : Made) → length s < ring_size → made 10 s ≡ guard (leb ring_size (length s)) (made 10 s) l
short s l h = stops _ _ _ (lt-leb ring_size (length s) h) refl

pub long : (s : List ℕ) (l : Made) → ring_size ≤ length s → l ≡ guard (leb ring_size (length s)) (made 10 s) l
long s l h = passes _ _ _ (le-leb ring_size (length s) h) refl

-- x is the step that the call took, y what it had to be
pub stepped : (s : List ℕ) (x y : Step) {l : Made} → Bytes s → ring_size ≤ length s → x ≡ y → l ≡ step_over s x → l ≡ changed s (turned_of (ring_of s) y)
stepped s x y b h e p = p ∙ step-over s x b ∙ ap (λ (z : Step). left_by s (turned_of (ring_of s) z)) e ∙ long s _ h

pub turn-idle : (t : Track) (len : ℕ) (reading : Reading) → t.running ≡ false → refused_of InvalidParam t ≡ turn_call t len reading
unfolding traced_call
turn-idle t len reading e = passes _ _ _ (ap (λ (b : Bool). not b || eqb 0 t.room) e) (no-transfer false t len _ _ _ e)

-- the other tests of a turn that runs
module _ (t : Track) (len : ℕ) (reading : Reading) (e : t.running ≡ true) where
  pub turn-room : (t.room ≡ 0 → ⊥) → refused_of BadLength t ≡ turn_call t len reading
  unfolding traced_call
  turn-room n = stops _ _ _ (ap (λ (b : Bool). not b || eqb 0 t.room) e ∙ ne_eqb 0 t.room (λ z. n (sym z))) refl

  module _ (z : t.room ≡ 0) where
    agrees : (not t.running || eqb 0 t.room) ≡ true
    agrees = ap (λ (b : Bool). not b || eqb 0 t.room) e ∙ eq-eqb 0 t.room (sym z)

    pub turn-lent : (len ≡ t.lent → ⊥) → refused_of BadLength t ≡ turn_call t len reading
    unfolding traced_call
    turn-lent n = passes _ _ _ agrees (stops _ _ _ (ap (λ (b : Bool). not b || eqb len t.lent) e ∙ ne_eqb len t.lent n) refl)

    pub turn-unfit : len ≡ t.lent → (consistent_of t && runs_as false t) ≡ false → refused_of InvalidParam t ≡ turn_call t len reading
    unfolding traced_call
    turn-unfit l f = passes _ _ _ agrees (passes _ _ _ (ap (λ (b : Bool). not b || eqb len t.lent) e ∙ eq-eqb len t.lent l) (ends (consistent_of t) (runs_as false t) _ _ f))
      where
        ends : {A : Type 0} (b c : Bool) (x r : A) → (b && c) ≡ false → r ≡ guard b r (guard c r x)
        ends true c x r h = passes true _ _ refl (stops c r x h refl)
        ends false c x r h = stops false _ _ refl refl

-- and of an offer
pub offer-unfit : (capture : Bool) (t : Track) (len : ℕ) → t.running ≡ true → len ≡ t.lent → (consistent_of t && runs_as capture t) ≡ false → Err InvalidParam ≡ offer_as capture t len
offer-unfit capture t len e l f = by (consistent_of t) refl f
  where
    by : (b : Bool) → consistent_of t ≡ b → (b && runs_as capture t) ≡ false → Err InvalidParam ≡ offer_as capture t len
    by true c h = offer-other capture t len e l c h
    by false c h = offer-unsound capture t len e l c

pub made-blank : (s : List ℕ) (t : Track) (l : List ℕ) → Bytes s → ring_size ≤ length s → l ≡ blank_over (track_over s t) → made 0 l ≡ blank_in s t
made-blank s t l b h p = ap (made 0) (p ∙ new-over s t b) ∙ long s _ h

pub made-new : (s : List ℕ) (descriptors : ℕ) {r : Ring} {l : Made} → l ≡ blank_in s r.track → r ≡ new_ring descriptors → l ≡ new_in descriptors s
made-new s descriptors p e = p ∙ ap (λ (x : Ring). blank_in s x.track) e

-- ---- and of a turn that is lent something besides: x is the step that the call took, y what it had to be; l and n are what it left

pub lent-stepped : (s lent : List ℕ) (x y : Step) (after : Step → List ℕ) {l : Made} {n : List ℕ} → Bytes s → ring_size ≤ length s → x ≡ y → l ≡ step_over s x → n ≡ after x → caught_by l n ≡ caught_in s lent y (after y)
lent-stepped s lent x y after b h e q m =
    (λ i. caught_by ((q ∙ step-over s x b) i) (m i)) ∙ ap (λ (z : Step). caught_by (left_by s (turned_of (ring_of s) z)) (after z)) e ∙ passes _ _ _ (le-leb ring_size (length s) h) refl

module _ (s recording : List ℕ) (kind slot written : ℕ) (bytes : List ℕ) where
  pub caught-short : length s < ring_size → caught 10 s recording ≡ capture_in s recording kind slot written bytes
  unfolding capture_in
  caught-short h = stops _ _ _ (lt-leb ring_size (length s) h) refl

  -- x is the step that the call took, on the track t; l and n are what it left
  pub caught-stepped : (t : Track) (x : Step) {l : Made} {n : List ℕ} → Bytes s → ring_size ≤ length s → t ≡ track_at s → x ≡ capture_call t (length recording) (catch_of kind slot written bytes)
      → l ≡ step_over s x → n ≡ recording_after t x bytes recording → caught_by l n ≡ capture_in s recording kind slot written bytes
  unfolding capture_in
  caught-stepped t x b h e p q m =
      let c = catch_of kind slot written bytes in
      let y : x ≡ capture_call (track_at s) (length recording) c = p ∙ ap (λ (u : Track). capture_call u (length recording) c) e in
      lent-stepped s recording x _ (λ z. recording_after (track_at s) z bytes recording) b h y q (m ∙ ap (λ (u : Track). recording_after u x bytes recording) e)

-- the reading stands in numbers; r is the one that was made of them, and k what was written to the room
module _ (s : List ℕ) (len : ℕ) (room : List ℕ) (kind slot status : ℕ) where
  pub traced-short : length s < ring_size → caught 10 s room ≡ turn_traced_in s len room kind slot status
  unfolding turn_traced_in
  traced-short h = stops _ _ _ (lt-leb ring_size (length s) h) refl

  pub traced-stepped : (t : Track) (r : Reading) (x : Step) {l : Made} {n : List ℕ} → Bytes s → ring_size ≤ length s → t ≡ track_at s → r ≡ reading_of kind slot status → x ≡ writing_call t len (length room) r
      → l ≡ step_over s x → n ≡ room_after t (writing_call t len (length room) r) room → caught_by l n ≡ turn_traced_in s len room kind slot status
  unfolding turn_traced_in
  traced-stepped t r x b h e w p q m =
      let called : Track → Reading → Step = λ u k. writing_call u len (length room) k in
      let y : x ≡ called (track_at s) (reading_of kind slot status) = p ∙ (λ i. called (e i) (w i)) in
      lent-stepped s room x _ (λ z. room_after (track_at s) z room) b h y q
      (m ∙ (λ i. room_after (e i) (called (e i) (w i)) room) ∙ ap (λ (z : Step). room_after (track_at s) z room) (sym y))
