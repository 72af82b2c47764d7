-- The rates: VirtIO 1.2, 5.14.6.6.2.1, VIRTIO_SND_PCM_RATE_*. "Rate numbers 0 to 13", and "Rates in Hz by number".
-- Assumes nothing.
use Rattle.std.specs.Prelude.{List, [], ◌∷◌, ℕ, suc, eqb, get_or, Result}
use Rattle.codes.specs.Says.{Says, pick}
use Rattle.codes.specs.Answers.{says_result}
use Rattle.codes.specs.declared.rates.PcmRate.{PcmRate}
use Rattle.codes.specs.declared.rates.PcmRate.TheVariants.{Rate5512, Rate8000, Rate11025, Rate16000, Rate22050, Rate32000, Rate44100, Rate48000, Rate64000, Rate88200, Rate96000, Rate176400, Rate192000, Rate384000}
use Rattle.codes.specs.declared.answers.Refusal.{Refusal}

abbrev pub rate_number : PcmRate → ℕ
rate_number Rate5512 = 0
rate_number Rate8000 = 1
rate_number Rate11025 = 2
rate_number Rate16000 = 3
rate_number Rate22050 = 4
rate_number Rate32000 = 5
rate_number Rate44100 = 6
rate_number Rate48000 = 7
rate_number Rate64000 = 8
rate_number Rate88200 = 9
rate_number Rate96000 = 10
rate_number Rate176400 = 11
rate_number Rate192000 = 12
rate_number Rate384000 = 13

abbrev pub says_rate : Result PcmRate Refusal → Says
says_rate = says_result (λ r. rate_number r ∷ [])

-- document 01's table
abbrev pub hz_table : List ℕ
hz_table = 5512 ∷ 8000 ∷ 11025 ∷ 16000 ∷ 22050 ∷ 32000 ∷ 44100 ∷ 48000 ∷ 64000 ∷ 88200 ∷ 96000 ∷ 176400 ∷ 192000 ∷ 384000 ∷ []

abbrev pub hz_of : PcmRate → ℕ
hz_of r = get_or hz_table (rate_number r) 0

-- the place of the first x in a table, or the table's length
unfoldable pub place_of : ℕ → List ℕ → ℕ
place_of x [] = 0
place_of x (y ∷ ys) = pick (eqb y x) 0 (suc (place_of x ys))
