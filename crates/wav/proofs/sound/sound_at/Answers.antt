-- `wav::sound::sound_at` meets its contract: the five fields, then the judgement. Assumes nothing.
use mathlib.Core.Path.{◌∙◌}
use Rattle.wav.specs.Wave.{sound_of}
use Rattle.wav.proofs.sound.sound_at.Goals as goal

pub returns : goal.returns
returns c =
    c.judge.ensures ∙ (λ i. sound_of (c.get_u16-tag.ensures i) (c.get_u16-channels.ensures i) (c.get_u32-hz.ensures i) (c.get_u16-size.ensures i) (c.get_u16-bits.ensures i))
