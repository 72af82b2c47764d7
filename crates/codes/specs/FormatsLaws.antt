-- The numbers of formats.
-- Assumes nothing.
use Rattle.std.specs.Prelude.{◌<◌}
use Rattle.std.proofs.Common.{lit<}
use Rattle.codes.specs.Formats.{format_number}
use Rattle.codes.specs.declared.formats.PcmFormat.{PcmFormat}
use Rattle.codes.specs.declared.formats.PcmFormat.TheVariants.{ImaAdpcm, MuLaw, ALaw, S8, U8, S16, U16, S18_3, U18_3, S20_3, U20_3, S24_3, U24_3, S20, U20, S24, U24, S32, U32, FLOAT, FLOAT64, DsdU8, DsdU16, DsdU32, Iec958Subframe}

pub format-below : (f : PcmFormat) → format_number f < 25
format-below ImaAdpcm = lit< tt
format-below MuLaw = lit< tt
format-below ALaw = lit< tt
format-below S8 = lit< tt
format-below U8 = lit< tt
format-below S16 = lit< tt
format-below U16 = lit< tt
format-below S18_3 = lit< tt
format-below U18_3 = lit< tt
format-below S20_3 = lit< tt
format-below U20_3 = lit< tt
format-below S24_3 = lit< tt
format-below U24_3 = lit< tt
format-below S20 = lit< tt
format-below U20 = lit< tt
format-below S24 = lit< tt
format-below U24 = lit< tt
format-below S32 = lit< tt
format-below U32 = lit< tt
format-below FLOAT = lit< tt
format-below FLOAT64 = lit< tt
format-below DsdU8 = lit< tt
format-below DsdU16 = lit< tt
format-below DsdU32 = lit< tt
format-below Iec958Subframe = lit< tt
