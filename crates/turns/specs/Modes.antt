-- THE MODE OF A RING (2026-14), "descriptors per submission": it is set where the ring is made, and every call keeps it, refused or not.
-- Assumes nothing.
use Rattle.std.specs.Prelude.{ℕ, ◌≡◌, refl, Some, None}
use Rattle.std.proofs.Common.{ap}
use Rattle.codes.specs.SaysLaws.{guarded-by}
use Rattle.turns.specs.Rules.{comes_to, played_of, turn_of, counted_of}
use Rattle.turns.specs.Calls.{traced_call, drained, drain_call, start_call, start_traced}
use Rattle.turns.specs.Capture.{caught_of, capture_call, capture_start}
use Rattle.turns.specs.KeepLaws.{turn-after}
use Rattle.turns.specs.Types.{Track, Step, Reading, Outcome, Catch}

module _ (t : Track) where
  abbrev Keeps : Step → Type 0
  Keeps s = s.track.descriptors ≡ t.descriptors

  counted : (o : Outcome) (reading : Reading) → Keeps (counted_of (turn_of t.descriptors t o reading))
  counted o reading = ap (λ (z : ℕ × ℕ × ℕ × ℕ × ℕ). z.0) (turn-after t.descriptors t o reading).0

  turn-mode : (len room : ℕ) (reading : Reading) → Keeps (traced_call t len room reading)
  unfolding traced_call
  turn-mode len room reading =
      guarded-by Keeps _ _ _
      (λ _. guarded-by Keeps _ _ _ (λ _. guarded-by Keeps _ _ _ (λ _. guarded-by Keeps _ _ _ (λ _. counted (comes_to played_of reading) reading) (λ _. refl)) (λ _. refl)) (λ _. refl))
      (λ _. refl)

  capture-mode : (len : ℕ) (c : Catch) → Keeps (capture_call t len c)
  unfolding capture_call
  capture-mode len c =
      guarded-by Keeps _ _ _
      (λ _. guarded-by Keeps _ _ _ (λ _. guarded-by Keeps _ _ _ (λ _. guarded-by Keeps _ _ _ (λ _. counted (caught_of t c) c.reading) (λ _. refl)) (λ _. refl)) (λ _. refl))
      (λ _. refl)

  drained-mode : (reading : Reading) → Keeps (drained t reading)
  drained-mode None = refl
  drained-mode (Some c) = guarded-by Keeps _ _ _ (λ _. refl) (λ _. refl)

  drain-mode : (reading : Reading) → Keeps (drain_call t reading)
  unfolding drain_call
  drain-mode reading = guarded-by Keeps _ _ _ (λ _. guarded-by Keeps _ _ _ (λ _. refl) (λ _. drained-mode reading)) (λ _. refl)

  start-mode : (stream total period budget : ℕ) → Keeps (start_call t stream total period budget)
  unfolding start_call
  start-mode stream total period budget =
      guarded-by Keeps _ _ _ (λ _. guarded-by Keeps _ _ _ (λ _. guarded-by Keeps _ _ _ (λ _. guarded-by Keeps _ _ _ (λ _. refl) (λ _. refl)) (λ _. refl)) (λ _. refl)) (λ _. refl)

  traced-mode : (stream total period budget room : ℕ) → Keeps (start_traced t stream total period budget room)
  unfolding start_traced
  traced-mode stream total period budget room =
      guarded-by Keeps _ _ _
      (λ _. guarded-by Keeps _ _ _
      (λ _. guarded-by Keeps _ _ _ (λ _. guarded-by Keeps _ _ _ (λ _. guarded-by Keeps _ _ _ (λ _. guarded-by Keeps _ _ _ (λ _. refl) (λ _. refl)) (λ _. refl)) (λ _. refl)) (λ _. refl))
      (λ _. refl))
      (λ _. refl)

  listen-mode : (stream periods period lent budget : ℕ) → Keeps (capture_start t stream periods period lent budget)
  unfolding capture_start
  listen-mode stream periods period lent budget =
      guarded-by Keeps _ _ _
      (λ _. guarded-by Keeps _ _ _ (λ _. guarded-by Keeps _ _ _ (λ _. guarded-by Keeps _ _ _ (λ _. guarded-by Keeps _ _ _ (λ _. refl) (λ _. refl)) (λ _. refl)) (λ _. refl)) (λ _. refl))
      (λ _. refl)

-- THE THEOREM: a turn and a drain turn, the starts, and those of a capture
pub record ModeKept (t : Track) : Type 0 where
  pub turn : (len room : ℕ) (reading : Reading) → (traced_call t len room reading).track.descriptors ≡ t.descriptors
  pub drain : (reading : Reading) → (drain_call t reading).track.descriptors ≡ t.descriptors
  pub start : (stream total period budget : ℕ) → (start_call t stream total period budget).track.descriptors ≡ t.descriptors
  pub traced-start : (stream total period budget room : ℕ) → (start_traced t stream total period budget room).track.descriptors ≡ t.descriptors
  pub capture : (len : ℕ) (c : Catch) → (capture_call t len c).track.descriptors ≡ t.descriptors
  pub capture-start : (stream periods period lent budget : ℕ) → (capture_start t stream periods period lent budget).track.descriptors ≡ t.descriptors

pub mode-kept : (t : Track) → ModeKept t
mode-kept t = record { turn = turn-mode t; drain = drain-mode t; start = start-mode t; traced-start = traced-mode t; capture = capture-mode t; capture-start = listen-mode t }
