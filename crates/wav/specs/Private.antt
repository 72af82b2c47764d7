-- What only the walk over chunks needs.
-- Assumes nothing.
use Rattle.std.specs.Prelude.{List, ℕ, zero, suc, Option, Some, None, Result, Ok, Err}
use Rattle.codes.specs.Says.{pick}
use Rattle.wav.specs.Chunks.{Chunks, laid, first_of, fmt_tag, data_tag}
use Rattle.wav.specs.Types.{Placed, WaveError, NotWave}

-- the place that a number tells: 0 is none, for at 0 stands the RIFF itself
abbrev pub place : ℕ → Option ℕ
place zero = None
place (suc n) = Some (suc n)

-- what a walk over chunks comes to
unfoldable pub walked : List ℕ → Chunks → Result Placed WaveError
walked s c = pick (laid c) (Ok (record { fmt = place (first_of s fmt_tag c); frames = place (first_of s data_tag c) })) (Err NotWave)
