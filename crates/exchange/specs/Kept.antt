-- THE INVARIANT: a state that calls left. A new state has it, and every call, feed and start of a transfer keeps it (KeptLaws, XferLaws).
-- Assumes nothing.
use Rattle.std.specs.Prelude.{◌≡◌, ℕ, ◌≤◌, true, false, length}
use Rattle.tables.specs.Tables.{tables_bytes}
use Rattle.turns.specs.Consistent as ring
use Rattle.codes.specs.Life.{takes_of}
use Rattle.pending.specs.Table.{none_in}
use Rattle.exchange.specs.State.{params_of, life_of}
use Rattle.sound_core.specs.Consistent.{consistent_of, params_ok}
use Rattle.exchange.specs.Types.{Ring, Idle, Sound}

pub record Kept (s : Sound) : Type 0 where
  -- it passes the consistency test
  pub consistent : consistent_of s.core ≡ true
  -- the arrays have their lengths
  pub tables : length s.tables ≡ tables_bytes
  pub params : length s.params ≡ 127
  pub lives : length s.lives ≡ 127
  pub pending : length s.pending.tokens ≡ 32
  -- parameters that are set passed every test
  pub fine : (i : ℕ) → params_ok (params_of s i) ≡ true
  -- before set-up is done none are set, and then only of streams in range
  pub unset : s.core.ready ≡ false → (i : ℕ) → (params_of s i).known ≡ 0
  pub beyond : (i : ℕ) → s.core.counts.streams ≤ i → (params_of s i).known ≡ 0
  -- before set-up is done every stream is where it began
  pub early : s.core.ready ≡ false → (i : ℕ) → life_of s i ≡ 0

-- what demand 3 takes of state and ring: "a state and ring that calls left, .. a stream with parameters set, no exchange or transfer open, nothing in flight"; with the guard
-- on it speaks "of a stream in those two states", prepared or started
pub record Playable (s : Sound) (r : Ring) (stream : ℕ) : Type 0 where
  pub state : Kept s
  pub ring : ring.consistent_of r.track ≡ true
  pub set : (params_of s stream).known ≡ 0 → ⊥
  pub live : s.core.guard ≡ true → takes_of (life_of s stream) ≡ true
  pub closed : s.core.stage ≡ Idle
  pub still : r.track.running ≡ false
  pub empty : r.track.inflight ≡ 0
  -- "so demand 3 counts every pending token, marked or not, as in flight"
  pub clear : none_in s.pending ≡ true
