-- The core: configured counts, the guard, table counts, set-up done or not, and the open exchange.
-- Assumes nothing.
use Rattle.std.specs.Prelude.{ℕ, Bool, false}
use Rattle.sound_core.specs.Types.{Counts, Params, Core, Stage, Idle}

abbrev pub none : Counts
none = record { jacks = 0; streams = 0; maps = 0 }

-- a stream that was never set
abbrev pub unset : Params
unset = record { known = 0; buffer = 0; period = 0; features = 0; channels = 0; format = 0; rate = 0 }

-- the core from the three configured counts, before any call; "a guard, fixed at the start"
abbrev pub new_core : Bool → ℕ → ℕ → ℕ → Core
new_core guard jacks streams maps = record { counts = record { jacks = jacks; streams = streams; maps = maps }; guard = guard; read = none; ready = false; stage = Idle }

abbrev pub with_stage : Core → Stage → Core
with_stage c g = record { counts = c.counts; guard = c.guard; read = c.read; ready = c.ready; stage = g }

-- the parameters that a call asks for: not known before the answer
abbrev pub asked_params : ℕ → ℕ → ℕ → ℕ → ℕ → ℕ → Params
asked_params buffer period features channels format rate =
    record { known = 0; buffer = buffer; period = period; features = features; channels = channels; format = format; rate = rate }
