-- A HOST THAT GOES ON AFTER A REFUSAL, once over every loop, of any state and any reading: a turn that is refused leaves its state, so the readings of such
-- turns can be left out, and the rest is the host's loop. Demand 3 then holds of that loop as of a host that is never refused. AnyHost has drain turns and
-- starts in between besides.
-- Assumes nothing.
use Rattle.std.specs.Prelude.{ℕ, ◌≡◌, length, None}
use Rattle.std.proofs.Math.Path.{refl, ap}
use Rattle.std.proofs.Common.{sym, ◌∙◌}
use mathlib.Core.List.{List, [], ◌∷◌}
use Rattle.codes.specs.declared.answers.Refusal.{Refusal}
use Rattle.turns.specs.Captured.{Came, nothing_came, catch_in, Taken, taking, takes}
use Rattle.turns.specs.CaptureDemand.{capture-refusal}
use Rattle.turns.specs.Demand.{turn-refusal}
use Rattle.turns.specs.Log.{Ran, Told, onward, loop_of, called, turn_by_turn}
use Rattle.turns.specs.Types.{Ring, Said, Going, Done, Ended, Refused, Reading}

-- how calls ended a transfer, and what they left; what was refused is passed over
pub record Upshot (A : Type 0) : Type 0 where
  pub said : Said
  pub at : A

abbrev pub upshot : {A : Type 0} → Ran A → Upshot A
upshot h = record { said = h.said; at = h.at }

abbrev pub unless_ended : {A : Type 0} → Said → A → Upshot A → Upshot A
unless_ended Going a rest = rest
unless_ended Done a rest = record { said = Done; at = a }
unless_ended (Ended x) a rest = record { said = Ended x; at = a }
unless_ended (Refused x) a rest = rest

abbrev pub unless_refused : {R : Type 0} → Said → R → List R → List R
unless_refused Going x xs = x ∷ xs
unless_refused Done x xs = x ∷ xs
unless_refused (Ended r) x xs = x ∷ xs
unless_refused (Refused r) x xs = xs

-- a refused turn leaves the state
abbrev pub LeavesIt : {A R : Type 0} → (A → R → Told A) → Type 0
LeavesIt {A} {R} turn = (a : A) (x : R) (r : Refusal) → (turn a x).line.said ≡ Refused r → (turn a x).left ≡ a

module _ {A R : Type 0} (turn : A → R → Told A) where
  -- turn after turn, also after one that was refused
  unfoldable pub goes_over : A → List R → Upshot A
  goes_over a [] = record { said = Going; at = a }
  goes_over a (x ∷ xs) = let t = turn a x in unless_ended t.line.said t.left (goes_over t.left xs)

  -- the readings whose turns were not refused
  unfoldable pub admitted_by : A → List R → List R
  admitted_by a [] = []
  admitted_by a (x ∷ xs) = let t = turn a x in unless_refused t.line.said x (admitted_by t.left xs)

module _ {A R : Type 0} (quiet : R) (turn : A → R → Told A) (leaves : LeavesIt turn) where
  by : (said : Said) (a : A) (x : R) (ys : List R) (w : Upshot A) → (turn a x).line.said ≡ said → w ≡ upshot (loop_of quiet turn (length ys) (turn a x).left ys)
      → unless_ended said (turn a x).left w ≡ upshot (loop_of quiet turn (length (unless_refused said x ys)) a (unless_refused said x ys))
  unfolding loop_of
  by Going a x ys w e k = k ∙ ap (λ (s : Said). upshot (onward s (turn a x).line (turn a x).left (loop_of quiet turn (length ys) (turn a x).left ys))) (sym e)
  by Done a x ys w e k = ap (λ (s : Said). upshot (onward s (turn a x).line (turn a x).left (loop_of quiet turn (length ys) (turn a x).left ys))) (sym e)
  by (Ended r) a x ys w e k = ap (λ (s : Said). upshot (onward s (turn a x).line (turn a x).left (loop_of quiet turn (length ys) (turn a x).left ys))) (sym e)
  by (Refused r) a x ys w e k = k ∙ ap (λ (b : A). upshot (loop_of quiet turn (length ys) b ys)) (leaves a x r e)

  -- THE THEOREM
  pub any-loop : (a : A) (xs : List R) → let ys = admitted_by turn a xs in goes_over turn a xs ≡ upshot (loop_of quiet turn (length ys) a ys)
  unfolding goes_over admitted_by loop_of
  any-loop a [] = refl
  any-loop a (x ∷ xs) = by (turn a x).line.said a x (admitted_by turn (turn a x).left xs) (goes_over turn (turn a x).left xs) refl (any-loop (turn a x).left xs)

-- ---- of a playback, lent frames of one length

pub any-playback : (len : ℕ) (r : Ring) (xs : List Reading)
    → let ys = admitted_by (called len) r xs in goes_over (called len) r xs ≡ upshot (turn_by_turn len (length ys) r ys)
any-playback len r xs = any-loop None (called len) (λ a x y e. turn-refusal a y len x e) r xs

-- ---- of a capture: one that lends too few bytes, or a recording of another length, and goes on

capture-leaves : LeavesIt taking
capture-leaves a x r e =
    let p = capture-refusal a.ring (length a.recording) (catch_in x) x.bytes a.recording r e in
    λ i. record { ring = p.0 i; recording = p.1 i }

pub any-capture : (a : Taken) (xs : List Came) → let ys = admitted_by taking a xs in goes_over taking a xs ≡ upshot (takes (length ys) a ys)
any-capture a xs = any-loop nothing_came taking capture-leaves a xs
