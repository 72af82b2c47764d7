-- Request 2026-08: "a fourth configuration count, for control elements, where their feature is negotiated". "Decode 12 or 16 configuration bytes": 1.2 is the instance at false.
-- VirtIO 1.3, 5.14.4: le32 jacks, le32 streams, le32 chmaps, le32 controls.
-- Assumes nothing.
use Rattle.std.specs.Prelude.{Bool, List, [], ◌∷◌, ℕ, eqb, length, get_or, Result, Ok, Err}
use Rattle.layout.specs.Layout.{size, write, read}
use Rattle.codes.specs.Says.{Says, says, pick}
use Rattle.codes.specs.declared.answers.Refusal.{Refusal}
use Rattle.codes.specs.declared.answers.Refusal.TheVariants.{BadLength}
use Rattle.records.specs.declared.config.Config.{Config}

abbrev pub config_row : Bool → List ℕ
config_row controls = 4 ∷ 4 ∷ 4 ∷ pick controls (4 ∷ []) []

-- just the bytes of the row: "a configuration of another length gives 10"
abbrev pub fits : Bool → List ℕ → Bool
fits controls s = eqb (length s) (size (config_row controls))

-- ---- read: the counts of the row

abbrev pub config_says : Bool → List ℕ → Says
config_says controls s = pick (fits controls s) (says 0 (read (config_row controls) s)) (says 10 [])

-- the record of these counts; one that is not there is 0
abbrev pub config_of : List ℕ → Config
config_of vs = record { jacks = get_or vs 0 0; streams = get_or vs 1 0; chmaps = get_or vs 2 0; controls = get_or vs 3 0 }

abbrev pub read_of : Says → Result Config Refusal
read_of x = pick (eqb x.number 0) (Ok (config_of x.values)) (Err BadLength)

-- ---- written: the counts of the row

abbrev pub config_values : Bool → Config → List ℕ
config_values controls c = c.jacks ∷ c.streams ∷ c.chmaps ∷ pick controls (c.controls ∷ []) []

abbrev pub config_write_says : Bool → List ℕ → Says
config_write_says controls l = pick (fits controls l) (says 0 []) (says 10 [])

abbrev pub config_written : Bool → Config → List ℕ → List ℕ
config_written controls c l = pick (fits controls l) (write (config_row controls) (config_values controls c)) l
