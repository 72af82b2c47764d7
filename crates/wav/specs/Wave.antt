-- A RIFF WAVE file: what reading it says, and the file that is written. Request 2026-03.
-- Assumes nothing.
use Rattle.std.specs.Prelude.{List, [], ◌∷◌, ◌++◌, ℕ, ◌+◌, ◌*◌, ◌/◌, ◌%◌, ◌-◌, leb, ltb, eqb, length, get_or, take, drop, Result, Ok, Err}
use Rattle.layout.specs.Bytes.{num_at, zeros}
use Rattle.layout.specs.Layout.{write}
use Rattle.codes.specs.Says.{Says, says, pick, guard}
use Rattle.codes.specs.Codes.{among}
use Rattle.codes.specs.Formats.{storage_table}
use Rattle.codes.specs.Rates.{hz_table, place_of}
use Rattle.wav.specs.Chunks.{riff_tag, wave_tag, fmt_tag, data_tag, padded, Chunks, chunks_at, laid, first_of}
use Rattle.wav.specs.Types.{Sound, Wave, WaveError, NotWave, BadSound, WriteError, BadLength}
use Rattle.wav.specs.declared.writer.WriteError.TheVariants as write_error

-- ---- THE SOUND: "then 14 BadSound for format, rate not in document 01, channels 0 or above 255, or a block size that disagrees"

-- "8, 16, 24 or 32 bits as U8, S16, S24_3, S32": the format's number; 25 is no format
abbrev pub format_of_bits : ℕ → ℕ
format_of_bits bits = pick (eqb bits 8) 4 (pick (eqb bits 16) 5 (pick (eqb bits 24) 11 (pick (eqb bits 32) 17 25)))

-- the bytes of one frame: a sample of each channel
abbrev pub block_of : ℕ → ℕ → ℕ
block_of channels format = channels * (get_or storage_table format 0 / 8)

-- "format tag 1"; a rate is searched in document 01's table
unfoldable pub sound_of : ℕ → ℕ → ℕ → ℕ → ℕ → Result Sound WaveError
sound_of tag channels hz block bits =
    guard (eqb tag 1) (Err BadSound)
    (guard (ltb (format_of_bits bits) 25) (Err BadSound)
    (guard (ltb (place_of hz hz_table) 14) (Err BadSound)
    (guard (ltb 0 channels) (Err BadSound)
    (guard (ltb channels 256) (Err BadSound)
    (guard (eqb block (block_of channels (format_of_bits bits))) (Err BadSound)
    (Ok (record { channels = channels; format = format_of_bits bits; rate = place_of hz hz_table })))))))

-- of the bytes of a `fmt ` chunk, from place o on: tag 2, channels 2, rate 4, byte rate 4, block 2, bits 2. "The byte rate [is] ignored"
abbrev pub sound_at : List ℕ → ℕ → Result Sound WaveError
sound_at s o = sound_of (num_at o 2 s) (num_at (o + 2) 2 s) (num_at (o + 4) 4 s) (num_at (o + 12) 2 s) (num_at (o + 14) 2 s)

-- ---- READING: "13 NotWave for structure (wrong tags, `fmt ` or data missing or out of order, RIFF size past the file, a chunk or pad past that size,
-- `fmt ` under 16 bytes)", and the sound only then

-- the sound, and the bytes of the data chunk at place d
abbrev pub wave_by : Result Sound WaveError → List ℕ → ℕ → Result Wave WaveError
wave_by (Ok w) s d = Ok (record { sound = w; offset = d + 8; len = num_at (d + 4) 4 s })
wave_by (Err e) s d = Err e

-- with the first `fmt ` chunk at place f and the first data chunk at place d, 0 where there is none
unfoldable pub wave_at : List ℕ → ℕ → ℕ → Result Wave WaveError
wave_at s f d =
    guard (ltb 0 f) (Err NotWave)
    (guard (ltb f d) (Err NotWave)
    (guard (leb 16 (num_at (f + 4) 4 s)) (Err NotWave)
    (wave_by (sound_at s (f + 8)) s d)))

abbrev pub wave_in : List ℕ → Chunks → Result Wave WaveError
wave_in s c =
    guard (laid c) (Err NotWave)
    (wave_at s (first_of s fmt_tag c) (first_of s data_tag c))

-- the RIFF size, at byte 4, counts WAVE's own four letters; "bytes past the RIFF size .. are ignored"
unfoldable pub wave_of : List ℕ → Result Wave WaveError
wave_of s =
    guard (eqb (num_at 0 4 s) riff_tag) (Err NotWave)
    (guard (leb 4 (num_at 4 4 s)) (Err NotWave)
    (guard (leb (8 + num_at 4 4 s) (length s)) (Err NotWave)
    (guard (eqb (num_at 8 4 s) wave_tag) (Err NotWave)
    (wave_in s (chunks_at s 12 0 (num_at 4 4 s - 4))))))

abbrev pub says_wave : Result Wave WaveError → Says
says_wave (Ok w) = says 0 (w.sound.channels ∷ w.sound.format ∷ w.sound.rate ∷ w.offset ∷ w.len ∷ [])
says_wave (Err NotWave) = says 13 []
says_wave (Err BadSound) = says 14 []

-- "show the data chunk as a part of the file itself"; an empty part where the file is refused
abbrev pub shown_by : Result Wave WaveError → List ℕ → List ℕ
shown_by (Ok w) s = take w.len (drop w.offset s)
shown_by (Err e) s = []

-- ---- WRITING

-- the formats that a file may have
abbrev pub wave_formats : List ℕ
wave_formats = 4 ∷ 5 ∷ 11 ∷ 17 ∷ []

-- "14 for format, rate, channels, frames not whole blocks or, padded, above 4,294,967,259 bytes, then 10 for too little room": n bytes of frames, so much room
unfoldable pub wrote_of : ℕ → ℕ → ℕ → ℕ → ℕ → Result ℕ WriteError
wrote_of channels format rate n room =
    guard (among format wave_formats) (Err write_error.BadSound)
    (guard (ltb rate 14) (Err write_error.BadSound)
    (guard (ltb 0 channels) (Err write_error.BadSound)
    (guard (eqb (n % block_of channels format) 0) (Err write_error.BadSound)
    (guard (leb (padded n) 4294967259) (Err write_error.BadSound)
    (guard (leb (44 + padded n) room) (Err BadLength)
    (Ok (44 + padded n)))))))

abbrev pub says_wrote : Result ℕ WriteError → Says
says_wrote (Ok n) = says 0 (n ∷ [])
says_wrote (Err write_error.BadSound) = says 14 []
says_wrote (Err BadLength) = says 10 []

-- the "44-byte header": RIFF 4, size 4, WAVE 4; `fmt ` 4, its size 4, tag 2, channels 2, rate 4, byte rate 4, block 2, bits 2; data 4, its size 4
abbrev pub header : List ℕ
header = 4 ∷ 4 ∷ 4 ∷ 4 ∷ 4 ∷ 2 ∷ 2 ∷ 4 ∷ 4 ∷ 2 ∷ 2 ∷ 4 ∷ 4 ∷ []

abbrev pub header_values : ℕ → ℕ → ℕ → ℕ → ℕ → List ℕ
header_values channels hz block bits n =
    riff_tag ∷ (36 + padded n) ∷ wave_tag ∷ fmt_tag ∷ 16 ∷ 1 ∷ channels ∷ hz ∷ (hz * block) ∷ block ∷ bits ∷ data_tag ∷ n ∷ []

unfoldable pub header_of : ℕ → ℕ → ℕ → ℕ → List ℕ
header_of channels format rate n = write header (header_values channels (get_or hz_table rate 0) (block_of channels format) (get_or storage_table format 0) n)

-- the whole file: header, frames, "pad 0"
unfoldable pub file_of : ℕ → ℕ → ℕ → List ℕ → List ℕ
file_of channels format rate frames = header_of channels format rate (length frames) ++ (frames ++ zeros (length frames % 2))

-- what the lent slice holds then: the file at its front, the rest as it was; as it was where the writer refuses
abbrev pub written_by : Result ℕ WriteError → List ℕ → List ℕ → List ℕ
written_by (Ok n) file l = file ++ drop n l
written_by (Err e) file l = l
