-- What calls leave never fails the consistency test: a new ring, a turn, a drain turn, the start of a transfer, each with its refusals.
-- Assumes nothing.
use Rattle.std.specs.Prelude.{ℕ, ◌<◌, ◌≡◌, Bool, true, false, not, Some, None}
use Rattle.std.proofs.Common.{arith, ltb-true}
use Rattle.std.proofs.lemmas.Bool.{false≢true}
use Rattle.codes.specs.SaysLaws.{guarded-by}
use Rattle.turns.specs.Ring.{new_track}
use Rattle.turns.specs.Rules.{release}
use Rattle.turns.specs.RuleLaws.{oldest-facts}
use Rattle.turns.specs.Consistent.{consistent_of}
use Rattle.turns.specs.ConsistentLaws.{both, Consistent, consistent-facts, consistent-true}
use Rattle.turns.specs.Calls.{traced_call, turn_call, drained, drain_call, begun_in, start_call, start_traced}
use Rattle.turns.specs.KeepLaws.{Leaves, Fit, fit_of, fit-freeing, turn-keeps}
use Rattle.turns.specs.Private.{Mode}
use Rattle.turns.specs.Types.{Track, Reading}

-- THE CALL of a turn
pub traced-keeps : (t : Track) (len room : ℕ) (reading : Reading) → Consistent t → Consistent (traced_call t len room reading).track
unfolding traced_call
traced-keeps t len room reading c =
    guarded-by Leaves _ _ _
    (λ _. guarded-by Leaves _ _ _ (λ _. guarded-by Leaves _ _ _ (λ _. guarded-by Leaves _ _ _ (λ on. turn-keeps t.descriptors t _ reading (omega arith) c (both t.running (not t.capture) on).0) (λ _. c)) (λ _. c)) (λ _. c))
    (λ _. c)

release-keeps : (t : Track) → 0 < t.inflight → Consistent t → Consistent (release t)
release-keeps t h c =
    let f = fit-freeing t.good t h (fit_of t c) in
    record { placed = f.placed; paced = record { within = f.within; some = c.paced.some; left = c.paced.left }; kept = f.kept; good = c.good }

drained-keeps : (t : Track) (reading : Reading) → Consistent t → Leaves (drained t reading)
drained-keeps t None c = c
drained-keeps t (Some c₁) c = guarded-by Leaves _ _ _ (λ e. release-keeps t (oldest-facts t c₁.slot e).0 c) (λ _. c)

-- A DRAIN TURN
pub drain-keeps : (t : Track) (reading : Reading) → Consistent t → Consistent (drain_call t reading).track
unfolding drain_call
drain-keeps t reading c = guarded-by Leaves _ _ _ (λ _. guarded-by Leaves _ _ _ (λ _. c) (λ _. drained-keeps t reading c)) (λ _. c)

pub begun-fit : (room : ℕ) (capture : Bool) (lent : ℕ) (t : Track) (stream total period budget : ℕ) → Mode t.descriptors → Fit (begun_in room capture lent t stream total period budget)
begun-fit room capture lent t stream total period budget e = record { placed = record { mode = e; head_in = omega arith; tail-in = omega arith; room = omega arith; line = omega arith }; within = omega arith; kept = omega arith }

pub begun-keeps : (room : ℕ) (capture : Bool) (lent : ℕ) (t : Track) (stream total period budget : ℕ) → Mode t.descriptors → 0 < period → 0 < budget → Consistent (begun_in room capture lent t stream total period budget)
begun-keeps room capture lent t stream total period budget e p b =
    let f = begun-fit room capture lent t stream total period budget e in
    record { placed = f.placed; paced = record { within = f.within; some = λ _. p; left = λ _. b }; kept = f.kept; good = omega arith }

-- THE START of a transfer
pub start-keeps : (t : Track) (stream total period budget : ℕ) → Consistent t → Consistent (start_call t stream total period budget).track
unfolding start_call
start-keeps t stream total period budget c =
    guarded-by Leaves _ _ _
    (λ _. guarded-by Leaves _ _ _
    (λ _. guarded-by Leaves _ _ _
    (λ p. guarded-by Leaves _ _ _ (λ b. begun-keeps 0 false total t stream total period budget c.placed.mode (ltb-true _ _ p) (ltb-true _ _ b)) (λ _. c))
    (λ _. c))
    (λ _. c))
    (λ _. c)

pub traced-start-keeps : (t : Track) (stream total period budget room : ℕ) → Consistent t → Consistent (start_traced t stream total period budget room).track
unfolding start_traced
traced-start-keeps t stream total period budget room c =
    guarded-by Leaves _ _ _
    (λ _. guarded-by Leaves _ _ _
    (λ _. guarded-by Leaves _ _ _
    (λ p. guarded-by Leaves _ _ _
    (λ b. guarded-by Leaves _ _ _ (λ _. guarded-by Leaves _ _ _ (λ _. begun-keeps room false total t stream total period budget c.placed.mode (ltb-true _ _ p) (ltb-true _ _ b)) (λ _. c)) (λ _. c))
    (λ _. c))
    (λ _. c))
    (λ _. c))
    (λ _. c)

-- ---- the same of the test: A NEW RING passes it, and what passed it before a call passes it afterwards

pub new-passes : (descriptors : ℕ) → Mode descriptors → consistent_of (new_track descriptors) ≡ true
new-passes descriptors m =
    consistent-true (new_track descriptors)
    (record {
      placed = record { mode = m; head_in = omega arith; tail-in = omega arith; room = omega arith; line = omega arith };
      paced = record { within = omega arith; some = λ h. absurd (false≢true h); left = λ h. absurd (false≢true h) };
      kept = omega arith;
      good = omega arith;
    })

module _ (t : Track) (ok : consistent_of t ≡ true) where
  pub traced-passes : (len room : ℕ) (reading : Reading) → consistent_of (traced_call t len room reading).track ≡ true
  traced-passes len room reading = consistent-true _ (traced-keeps t len room reading (consistent-facts t ok))

  pub call_passes : (len : ℕ) (reading : Reading) → consistent_of (turn_call t len reading).track ≡ true
  call_passes len reading = traced-passes len 0 reading

  pub drain-passes : (reading : Reading) → consistent_of (drain_call t reading).track ≡ true
  drain-passes reading = consistent-true _ (drain-keeps t reading (consistent-facts t ok))

  pub traced-start-passes : (stream total period budget room : ℕ) → consistent_of (start_traced t stream total period budget room).track ≡ true
  traced-start-passes stream total period budget room = consistent-true _ (traced-start-keeps t stream total period budget room (consistent-facts t ok))

  pub start-passes : (stream total period budget : ℕ) → consistent_of (start_call t stream total period budget).track ≡ true
  start-passes stream total period budget = consistent-true _ (start-keeps t stream total period budget (consistent-facts t ok))
