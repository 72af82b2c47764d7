-- The formats: VirtIO 1.2, 5.14.6.6.2.1, VIRTIO_SND_PCM_FMT_*. "Format numbers run 0 to 24."
-- Assumes nothing.
use Rattle.std.specs.Prelude.{List, [], ◌∷◌, ℕ, get_or, Result}
use Rattle.codes.specs.Says.{Says}
use Rattle.codes.specs.Answers.{says_result}
use Rattle.codes.specs.declared.formats.PcmFormat.{PcmFormat}
use Rattle.codes.specs.declared.formats.PcmFormat.TheVariants.{ImaAdpcm, MuLaw, ALaw, S8, U8, S16, U16, S18_3, U18_3, S20_3, U20_3, S24_3, U24_3, S20, U20, S24, U24, S32, U32, FLOAT, FLOAT64, DsdU8, DsdU16, DsdU32, Iec958Subframe}
use Rattle.codes.specs.declared.answers.Refusal.{Refusal}

abbrev pub format_number : PcmFormat → ℕ
format_number ImaAdpcm = 0
format_number MuLaw = 1
format_number ALaw = 2
format_number S8 = 3
format_number U8 = 4
format_number S16 = 5
format_number U16 = 6
format_number S18_3 = 7
format_number U18_3 = 8
format_number S20_3 = 9
format_number U20_3 = 10
format_number S24_3 = 11
format_number U24_3 = 12
format_number S20 = 13
format_number U20 = 14
format_number S24 = 15
format_number U24 = 16
format_number S32 = 17
format_number U32 = 18
format_number FLOAT = 19
format_number FLOAT64 = 20
format_number DsdU8 = 21
format_number DsdU16 = 22
format_number DsdU32 = 23
format_number Iec958Subframe = 24

abbrev pub says_format : Result PcmFormat Refusal → Says
says_format = says_result (λ f. format_number f ∷ [])

-- "A table of the 25 formats gives sample and storage width in bits", by format number; the same stand in the comments of linux/virtio_snd.h (tests/header.sh)
abbrev pub sample_table : List ℕ
sample_table = 4 ∷ 8 ∷ 8 ∷ 8 ∷ 8 ∷ 16 ∷ 16 ∷ 18 ∷ 18 ∷ 20 ∷ 20 ∷ 24 ∷ 24 ∷ 20 ∷ 20 ∷ 24 ∷ 24 ∷ 32 ∷ 32 ∷ 32 ∷ 64 ∷ 8 ∷ 16 ∷ 32 ∷ 32 ∷ []

abbrev pub storage_table : List ℕ
storage_table = 4 ∷ 8 ∷ 8 ∷ 8 ∷ 8 ∷ 16 ∷ 16 ∷ 24 ∷ 24 ∷ 24 ∷ 24 ∷ 24 ∷ 24 ∷ 32 ∷ 32 ∷ 32 ∷ 32 ∷ 32 ∷ 32 ∷ 32 ∷ 64 ∷ 8 ∷ 16 ∷ 32 ∷ 32 ∷ []

abbrev pub sample_bits : PcmFormat → ℕ
sample_bits f = get_or sample_table (format_number f) 0

abbrev pub storage_bits : PcmFormat → ℕ
storage_bits f = get_or storage_table (format_number f) 0
