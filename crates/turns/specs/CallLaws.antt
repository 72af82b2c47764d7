-- What the code of the calls leans on: a test that a callee answered, the ring after a step.
-- Assumes nothing.
use Rattle.std.specs.Prelude.{ℕ, ◌+◌, ◌-◌, ◌*◌, ◌/◌, ◌%◌, ◌≤◌, ◌<◌, ◌≡◌, Bool, true, false, ◌&&◌, ◌||◌, not, List, [], ◌∷◌, ltb, leb, eqb, length, take, drop, set, Result, Ok, Err, None}
use Rattle.std.proofs.Common.{arith, add-zero, div-le_self, le_of_lt, lt_of_le_of_lt, sym, ap, ◌∙◌, subst, length-drop, drop_of_length-le, take_all}
use Rattle.std.proofs.Math.Nat.{add-sub_cancel_left}
use Rattle.std.proofs.Math.Path.{refl}
use Rattle.std.proofs.lemmas.Bool.{false≢true}
use borrow.Author.Tests.{lt-ltb, le-ltb, le-leb, lt-leb, eq-eqb, ne_eqb, not-true, not-false, ltb-true}
use Rattle.std.proofs.Math.Seq.{drop-length, take-nil, set_out}
use Rattle.codes.specs.Says.{pick, guard}
use Rattle.codes.specs.SaysLaws.{passes, stops, guard-ap}
use Rattle.turns.specs.Calls.{length_agrees, runs_as, admit, idle_of, ready, periods_of, carry, ring_after, offer_by, offer_as}
use Rattle.turns.specs.Consistent.{consistent_of}
use Rattle.turns.specs.Rules.{choose_of}
use Rattle.turns.specs.Reads.{read_of, running_of}
use Rattle.turns.specs.Types.{Slot, Track, Ring, Sent, Step, sent_period}
use Rattle.codes.specs.declared.answers.Refusal.{Refusal}
use Rattle.codes.specs.declared.answers.Refusal.TheVariants.{InvalidParam, BadLength, Busy}

-- ---- r is what a callee said of the test t, and the code went by r

pub failed : {r t : Bool} → r ≡ t → not r ≡ true → t ≡ false
failed {r} e h = sym e ∙ not-true r h

pub passed : {r t : Bool} → r ≡ t → not r ≡ false → t ≡ true
passed {r} e h = sym e ∙ not-false r h

-- where no transfer runs a turn is refused, whatever else holds
same_ends : {A : Type 0} (b c : Bool) (x r : A) → c ≡ false → r ≡ guard b r (guard c r x)
same_ends true c x r e = passes true _ _ refl (stops c r x e refl)
same_ends false c x r e = stops false _ _ refl refl

pub runs-not : (capture : Bool) (t : Track) → t.running ≡ false → false ≡ runs_as capture t
runs-not true t e = rw e
runs-not false t e = rw e

pub runs-true : (capture : Bool) (t : Track) → t.running ≡ true → capture ≡ true → t.capture ≡ runs_as capture t
runs-true true t r e = rw r
runs-true false t r e = absurd (false≢true e)

pub runs-false : (capture : Bool) (t : Track) → t.running ≡ true → capture ≡ false → not t.capture ≡ runs_as capture t
runs-false true t r e = absurd (false≢true (sym e))
runs-false false t r e = rw r

pub no-transfer : {A : Type 0} (capture : Bool) (t : Track) (len : ℕ) (short refusal rest : A) → t.running ≡ false
    → refusal ≡ guard (length_agrees t len) short (guard (consistent_of t) refusal (guard (runs_as capture t) refusal rest))
no-transfer capture t len short refusal rest e = passes _ _ _ (ap (λ (b : Bool). not b || eqb len t.lent) e) (same_ends (consistent_of t) (runs_as capture t) rest refusal (sym (runs-not capture t e)))

-- an offer, by what its code tests
module _ (capture : Bool) (t : Track) (len : ℕ) where
  pub offer-idle : t.running ≡ false → Err InvalidParam ≡ offer_as capture t len
  unfolding offer_as
  offer-idle e = no-transfer capture t len _ _ _ e

  module _ (e : t.running ≡ true) where
    -- the lengths are compared
    agrees : length_agrees t len ≡ eqb len t.lent
    agrees = ap (λ (b : Bool). not b || eqb len t.lent) e

    pub offer-short : (len ≡ t.lent → ⊥) → Err BadLength ≡ offer_as capture t len
    unfolding offer_as
    offer-short n = stops _ _ _ (agrees ∙ ne_eqb len t.lent n) refl

    module _ (l : len ≡ t.lent) where
      pub offer-unsound : consistent_of t ≡ false → Err InvalidParam ≡ offer_as capture t len
      unfolding offer_as
      offer-unsound f = passes _ _ _ (agrees ∙ eq-eqb len t.lent l) (stops _ _ _ f refl)

      pub offer-other : consistent_of t ≡ true → runs_as capture t ≡ false → Err InvalidParam ≡ offer_as capture t len
      unfolding offer_as
      offer-other f n = passes _ _ _ (agrees ∙ eq-eqb len t.lent l) (passes _ _ _ f (stops _ _ _ n refl))

      pub offer-is : {s : Sent} → consistent_of t ≡ true → runs_as capture t ≡ true → s ≡ offer_by (choose_of t.descriptors t) t → Ok s ≡ offer_as capture t len
      unfolding offer_as
      offer-is f n p = passes _ _ _ (agrees ∙ eq-eqb len t.lent l) (passes _ _ _ f (passes _ _ _ n (ap Ok p)))

-- ---- what the code knows of a chain of refusals that a callee went through

-- what is made of an answer: the refusal's end, or the rest
abbrev ends : {A : Type 0} → (Refusal → A) → A → Result (Unit {0}) Refusal → A
ends refused rest (Ok u) = rest
ends refused rest (Err r) = refused r

-- a test that was passed
got : (b : Bool) (x : Refusal) (rest : Result (Unit {0}) Refusal) → Ok tt ≡ guard b (Err x) rest → (b ≡ true) × (Ok tt ≡ rest)
unfolding guard
got true x rest e = (refl, e)
got false x rest e = absurd cc

module _ (capture : Bool) (t : Track) (len : ℕ) where
  abbrev admission : Result (Unit {0}) Refusal
  admission = admit capture t len Err (Ok tt)

  module _ {A : Type 0} (refused : Refusal → A) (rest : A) {x : Result (Unit {0}) Refusal} (e : x ≡ admission) where
    of-admission : ends refused rest x ≡ admit capture t len refused rest
    of-admission =
        let f : Result (Unit {0}) Refusal → A = ends refused rest in
        ap f e ∙ guard-ap f _ _ _ ∙ ap (guard (length_agrees t len) (refused BadLength))
        (guard-ap f _ _ _ ∙ ap (guard (consistent_of t) (refused InvalidParam)) (guard-ap f _ _ _))

    pub not-admitted : {r : Refusal} → x ≡ Err r → refused r ≡ admit capture t len refused rest
    not-admitted i = ap (ends refused rest) (sym i) ∙ of-admission

    pub is-admitted : x ≡ Ok tt → rest ≡ admit capture t len refused rest
    is-admitted i = ap (ends refused rest) (sym i) ∙ of-admission

  -- what holds of a turn or an offer that is not refused
  pub admitted : {x : Result (Unit {0}) Refusal} → x ≡ admission → x ≡ Ok tt → (consistent_of t ≡ true) × (runs_as capture t ≡ true)
  admitted e i =
      let sound = got (consistent_of t) _ _ (got (length_agrees t len) _ _ (sym i ∙ e)).1 in
      (sound.0, (got (runs_as capture t) _ _ sound.1).0)

module _ (t : Track) (period : ℕ) (budget : ℕ) where
  abbrev readiness : Result (Unit {0}) Refusal
  readiness = ready t period budget Err (Ok tt)

  module _ {A : Type 0} (refused : Refusal → A) (rest : A) {x : Result (Unit {0}) Refusal} (e : x ≡ readiness) where
    of-readiness : ends refused rest x ≡ ready t period budget refused rest
    of-readiness =
        let f : Result (Unit {0}) Refusal → A = ends refused rest in
        ap f e ∙ guard-ap f _ _ _ ∙ ap (guard (consistent_of t) (refused InvalidParam))
        (guard-ap f _ _ _ ∙ ap (guard (idle_of t) (refused Busy))
        (guard-ap f _ _ _ ∙ ap (guard (ltb 0 period) (refused InvalidParam)) (guard-ap f _ _ _)))

    pub not-ready : {r : Refusal} → x ≡ Err r → refused r ≡ ready t period budget refused rest
    not-ready i = ap (ends refused rest) (sym i) ∙ of-readiness

    pub is-ready : x ≡ Ok tt → rest ≡ ready t period budget refused rest
    is-ready i = ap (ends refused rest) (sym i) ∙ of-readiness

  -- a start that is not refused has a period
  pub ready-period : {x : Result (Unit {0}) Refusal} → x ≡ readiness → x ≡ Ok tt → 0 < period
  ready-period e i =
      let sound = got (consistent_of t) _ _ (sym i ∙ e) in
      let free = got (idle_of t) _ _ sound.1 in
      ltb-true 0 period (got (ltb 0 period) _ _ free.1).0

pub both-fails : (a b : Bool) → a ≡ false → false ≡ (a && b)
both-fails a b e = rw e

pub both_rest : {r : Bool} (a b : Bool) → a ≡ true → r ≡ b → r ≡ (a && b)
both_rest a b e p = rw e p

pub positive : (n : ℕ) → (n ≡ 0 → ⊥) → ltb 0 n ≡ true
positive n h = lt-ltb 0 n (omega arith)

pub nought : (n : ℕ) → n ≡ 0 → ltb 0 n ≡ false
nought n h = le-ltb 0 n (omega arith)

-- ---- the periods of a transfer that writes a trace, and its room

module _ (total period : ℕ) (short : total < 4294967296) where
  pub whole-few : total / period < 4294967296
  whole-few = lt_of_le_of_lt (div-le_self total period) short

  pub periods-even : total % period ≡ 0 → (total / period ≡ periods_of total period) × (total / period ≤ 4294967296)
  periods-even e = (sym (add-zero (total / period)) ∙ ap (λ (b : Bool). total / period + pick b 0 1) (sym (eq-eqb (total % period) 0 e)), le_of_lt whole-few)

  pub periods-odd : (total % period ≡ 0 → ⊥) → (total / period + 1 ≡ periods_of total period) × (total / period + 1 ≤ 4294967296)
  periods-odd n = let few = whole-few in (ap (λ (b : Bool). total / period + pick b 0 1) (sym (ne_eqb (total % period) 0 n)), omega (arith, few))

module _ (n room total period : ℕ) (e : n ≡ periods_of total period) where
  pub room-short : room < 19 + 20 * n → leb (19 + 20 * periods_of total period) room ≡ false
  room-short h = lt-leb _ _ (subst (λ (k : ℕ). room < 19 + 20 * k) e h)

  pub room-enough : 19 + 20 * n ≤ room → leb (19 + 20 * periods_of total period) room ≡ true
  room-enough h = le-leb _ _ (subst (λ (k : ℕ). 19 + 20 * k ≤ room) e h)

-- ---- the ring after a step, by what the step sent

module _ (r : Ring) (s : Step) where
  abbrev pub with-slots : List Slot → Ring
  with-slots slots = record { track = s.track; slots = slots }

  pub after_none : s.sent ≡ None → with-slots r.slots ≡ ring_after r s
  after_none e = ap (λ (x : Sent). with-slots (carry r.slots x)) (sym e)

  pub after-period : (slot offset len : ℕ) → s.sent ≡ sent_period slot offset len → with-slots (set r.slots slot (record { offset = offset; len = len })) ≡ ring_after r s
  after-period slot offset len e = ap (λ (x : Sent). with-slots (carry r.slots x)) (sym e)

  pub after-out : (slot offset len : ℕ) → s.sent ≡ sent_period slot offset len → length r.slots ≤ slot → with-slots r.slots ≡ ring_after r s
  after-out slot offset len e h = ap with-slots (sym (set_out r.slots slot (record { offset = offset; len = len }) h)) ∙ after-period slot offset len e

-- ---- whether a transfer runs, as a number

pub told-running : (t : Track) (b : Bool) → t.running ≡ b → read_of t (pick b 1 0 ∷ []) ≡ running_of t
told-running t b e = ap (λ (x : Bool). read_of t (pick x 1 0 ∷ [])) (sym e)
