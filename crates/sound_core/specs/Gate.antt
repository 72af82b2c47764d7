-- The checks of a transfer: "Busy (8), set-up, stream range (1), parameters set (2)"; under the guard "12 BadState, right after the stream range check"; a
-- capture's "stream direction not 1 gives 1, after the range check".
-- Assumes nothing.
use Rattle.std.specs.Prelude.{ℕ, Bool, not, ◌&&◌, [], ◌∷◌, ◌==◌, nat_lt, Result, Ok, Err}
use Rattle.codes.specs.Says.{Says, says, guard}
use Rattle.codes.specs.Answers.{says_refusal}
use Rattle.codes.specs.Life.{takes_of}
use Rattle.turns.specs.Calls.{idle_of}
use Rattle.turns.specs.Consistent as ring
use Rattle.sound_core.specs.Consistent.{consistent_of, stream_ok, held_to, faced}
use Rattle.sound_core.specs.Plan.{is_idle}
use Rattle.sound_core.specs.Types.{NoStatus, Refusal, InvalidParam, IoError, Busy, BadLength, BadState, Track, Core, Params, Gate, SetUp, Open}

-- what is left of the checks once state and ring are at rest: set-up, range, where the stream is in its lifecycle, a capture's direction, parameters
abbrev pub rest_by : {A : Type 0} → Bool → Core → Params → ℕ → ℕ → ℕ → (Refusal → A) → A → (ℕ → A) → A
rest_by capture c p life direction stream refuse set_up go =
    guard c.ready set_up
    (guard (nat_lt stream c.counts.streams) (refuse InvalidParam)
    (guard (held_to c.guard (takes_of life)) (refuse BadState)
    (faced capture direction (refuse InvalidParam)
    (guard (not (p.known == 0)) (refuse (IoError NoStatus))
    (go p.period)))))

-- THE CHECKS, in their order, over what is done at each end: the lengths, the consistency of state, ring and stream, Busy, and the rest.
-- They look at the core, at the stream's own parameters, its place in its lifecycle and its direction alone. `clear`: nothing is pending, or it plays no part. "A blocking transfer while
-- any is pending is Busy, as is a submission while a transfer's slots are owed"
abbrev pub gate_by : {A : Type 0} → Bool → Bool → Bool → Core → Params → ℕ → ℕ → Track → ℕ → (Refusal → A) → A → (ℕ → A) → A
gate_by capture lengths clear c p life direction t stream refuse set_up go =
    guard lengths (refuse BadLength)
    (guard (consistent_of c && (ring.consistent_of t && stream_ok c p stream)) (refuse InvalidParam)
    (guard (is_idle c.stage && (idle_of t && clear)) (refuse Busy)
    (rest_by capture c p life direction stream refuse set_up go)))

-- the checks themselves: a refusal, or set-up first, or a transfer by periods
abbrev pub gate_of : Bool → Bool → Bool → Core → Params → ℕ → ℕ → Track → ℕ → Result Gate Refusal
gate_of capture lengths clear c p life direction t stream = gate_by capture lengths clear c p life direction t stream Err (Ok SetUp) (λ (period : ℕ). Ok (Open period))

-- its number and values: a refusal's own; where set-up goes first, a request is sent, as for a call; else 0 and the period
abbrev pub says_gate : Result Gate Refusal → Says
says_gate (Err r) = says_refusal r
says_gate (Ok SetUp) = says 256 []
says_gate (Ok (Open period)) = says 0 (period ∷ [])
