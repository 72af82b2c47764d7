-- The types of the code, and their cases, as definitions and laws name them. Where two bear one name, the other stands beside its use.
-- Assumes nothing.
pub use Rattle.wav.specs.declared.chunks.Placed.{Placed}
pub use Rattle.wav.specs.declared.sound.Sound.{Sound}
pub use Rattle.wav.specs.declared.reader.Wave.{Wave}
pub use Rattle.wav.specs.declared.reader.WaveError.{WaveError}
pub use Rattle.wav.specs.declared.reader.WaveError.TheVariants.{NotWave, BadSound}
pub use Rattle.wav.specs.declared.writer.WriteError.{WriteError}
pub use Rattle.wav.specs.declared.writer.WriteError.TheVariants.{BadLength}
