-- Request 2026-08: what VirtIO 1.2 and 1.3 share, and what they do not. "State shared rules once over both": each definition takes one Boolean, `controls`.
-- Assumes nothing.
use Rattle.std.specs.Prelude.{◌≡◌, refl, Bool, true, false, List, [], ◌∷◌, ℕ, eqb, length, take, Ok}
use Rattle.std.proofs.Common.{sym, ap, ◌∙◌, lit<, length-take-le, arith, eq-eqb, ne_eqb}
use Rattle.layout.specs.Bytes.{le, num_at, un, bytes_at, zeros, Bytes}
use Rattle.layout.specs.Layout.{size, read, Fit}
use Rattle.layout.specs.LayoutLaws.{read-part}
use Rattle.codes.specs.Says.{Says, says, pick}
use Rattle.codes.specs.SaysLaws.{picks}
use Rattle.codes.specs.Codes.{among}
use Rattle.codes.specs.Flags.{has_bit, ctls_feature}
use Rattle.codes.specs.Events.{event_codes, event_codes_of}
use Rattle.codes.specs.EventsLaws.{among-others}
use Rattle.codes.specs.Versions.{has_controls}
use Rattle.records.specs.Records.{event}
use Rattle.records.specs.Config.{config_row, config_says, config_of, read_of, config_values, config_written}
use Rattle.records.specs.ConfigLaws.{fit, write-then-config, config-then-write}
use Rattle.records.specs.Notice.{ctl_event, event_row, notice_says, notice_says_of}
use Rattle.records.specs.declared.config.Config.{Config}

-- ---- the mode

-- 1.2 has no control elements, whatever bits are named
pub none-in-1-2 : (features : ℕ) → has_controls 0x0102 features ≡ false
none-in-1-2 features = refl

-- 1.3 has them "where their feature is negotiated"
pub by-feature-in-1-3 : (features : ℕ) → has_controls 0x0103 features ≡ has_bit ctls_feature features
by-feature-in-1-3 features = refl

-- bit 0 alone decides
pub bit-0 : (has_controls 0x0103 1 ≡ true) × (has_controls 0x0103 2 ≡ false) × (has_controls 0x0103 3 ≡ true) × (has_controls 0x0102 1 ≡ false) × (has_controls 0x0104 1 ≡ false)
bit-0 = (refl, refl, refl, refl, refl)

-- ---- "1.3 without the feature reads as 1.2": the configuration and the events

pub config-as-1-2 : (version features : ℕ) (s : List ℕ) → has_controls version features ≡ false → config_says (has_controls version features) s ≡ config_says false s
config-as-1-2 version features s e = ap (λ (controls : Bool). config_says controls s) e

pub notice-as-1-2 : (version features : ℕ) (s : List ℕ) → has_controls version features ≡ false → notice_says_of (has_controls version features) s ≡ notice_says s
notice-as-1-2 version features s e = ap (λ (controls : Bool). notice_says_of controls s) e

-- what an event of 1.2 says, as it stood before this request
pub as-it-stood : (s : List ℕ) → notice_says s ≡ pick (eqb (length s) 8) (pick (among (num_at 0 4 s) event_codes) (says 0 (read event s)) (says 2 [])) (says 0 [])
as-it-stood s = refl

-- ---- the first three counts of 16 bytes are the counts of their first 12: a host that lends these reads as 1.2

pub three-shared : (s : List ℕ) → length s ≡ 16 → take 3 (config_says true s).values ≡ (config_says false (take 12 s)).values
three-shared s h =
    let n : length (take 12 s) ≡ 12 = length-take-le 12 s (omega arith) in
    ap (λ (x : Says). take 3 x.values) (picks _ _ _ (fit true s h))
    ∙ sym (ap (λ (x : Says). x.values) (picks _ _ _ (fit false (take 12 s) n)) ∙ read-part 12 0 (config_row false) s (omega arith))

-- ---- every other event says the same in both

pub others-shared : (s : List ℕ) → (num_at 0 4 s ≡ 0x1200 → ⊥) → notice_says_of true s ≡ notice_says_of false s
others-shared s h =
    let n = num_at 0 4 s in
    let o = ne_eqb n 0x1200 h in
    λ i. pick (eqb (length s) 8) (pick (sym (among-others true n o) i) (says 0 (read (pick (o i) ctl_event event) s)) (says 2 [])) (says 0 [])

-- ---- "an event 0x1200 for a control change": which element and the mask, any values; elsewhere "0x1200 stays IoError"

by_code : Bool → List ℕ → ℕ → Says
by_code controls s n = pick (among n (event_codes_of controls)) (says 0 (read (event_row controls n) s)) (says 2 [])

pub ctl-says : (s : List ℕ) → length s ≡ 8 → num_at 0 4 s ≡ 0x1200 → (notice_says_of true s ≡ says 0 (0x1200 ∷ num_at 4 2 s ∷ num_at 6 2 s ∷ [])) × (notice_says_of false s ≡ says 2 [])
unfolding by_code
ctl-says s h e =
    let t = eq-eqb (length s) 8 h in
    (picks _ _ _ t ∙ ap (by_code true s) e ∙ ap (λ (n : ℕ). says 0 (n ∷ num_at 4 2 s ∷ num_at 6 2 s ∷ [])) e, picks _ _ _ t ∙ ap (by_code false s) e)

-- ---- both round trips of the configuration, in both modes

-- without control elements a record's count of them is 0
same-record : (controls : Bool) (c : Config) → (controls ≡ false → c.controls ≡ 0) → config_of (config_values controls c) ≡ c
same-record true c h = refl
same-record false c h = λ i. record { jacks = c.jacks; streams = c.streams; chmaps = c.chmaps; controls = sym (h refl) i }

-- "Writing a record and reading it gives it back"; `Fit` holds of every value of a Rattle struct
pub config-back : (controls : Bool) (c : Config) (l : List ℕ) → length l ≡ size (config_row controls) → Fit (config_row controls) (config_values controls c) → (controls ≡ false → c.controls ≡ 0)
    → read_of (config_says controls (config_written controls c l)) ≡ Ok c
config-back controls c l h f z = ap read_of (write-then-config controls c l h f) ∙ ap Ok (same-record controls c z)

-- "reading then writing gives the bytes"
pub config-same : (controls : Bool) (s : List ℕ) → length s ≡ size (config_row controls) → Bytes s → config_written controls (config_of (read (config_row controls) s)) s ≡ s
config-same = config-then-write

-- ---- instances: a device with 1 jack, 2 streams, 3 channel maps and 4 control elements, and a change of element 3

abbrev pub sixteen : List ℕ
sixteen = 1 ∷ 0 ∷ 0 ∷ 0 ∷ 2 ∷ 0 ∷ 0 ∷ 0 ∷ 3 ∷ 0 ∷ 0 ∷ 0 ∷ 4 ∷ 0 ∷ 0 ∷ 0 ∷ []

pub sixteen-says : (config_says true sixteen ≡ says 0 (1 ∷ 2 ∷ 3 ∷ 4 ∷ [])) × (config_says false sixteen ≡ says 10 [])
unfolding num_at un bytes_at
sixteen-says = (refl, refl)

pub twelve-says : (config_says false (take 12 sixteen) ≡ says 0 (1 ∷ 2 ∷ 3 ∷ [])) × (config_says true (take 12 sixteen) ≡ says 10 [])
unfolding num_at un bytes_at
twelve-says = (refl, refl)

pub sixteen-shared : take 3 (config_says true sixteen).values ≡ (config_says false (take 12 sixteen)).values
sixteen-shared = three-shared sixteen refl

abbrev pub change : List ℕ
change = 0x00 ∷ 0x12 ∷ 0 ∷ 0 ∷ 3 ∷ 0 ∷ 1 ∷ 0x80 ∷ []

pub change-says : (notice_says_of true change ≡ says 0 (0x1200 ∷ 3 ∷ 0x8001 ∷ [])) × (notice_says_of false change ≡ says 2 [])
unfolding num_at un bytes_at
change-says = ctl-says change refl refl

-- an underrun of stream 2 is the same in both
abbrev pub xrun : List ℕ
xrun = 0x01 ∷ 0x11 ∷ 0 ∷ 0 ∷ 2 ∷ 0 ∷ 0 ∷ 0 ∷ []

pub xrun-says : (notice_says_of true xrun ≡ says 0 (0x1101 ∷ 2 ∷ [])) × (notice_says_of false xrun ≡ says 0 (0x1101 ∷ 2 ∷ []))
unfolding num_at un bytes_at
xrun-says = (refl, refl)

abbrev pub counts : Config
counts = record { jacks = 1; streams = 2; chmaps = 3; controls = 4 }

pub counts-written : (config_written true counts (zeros 16) ≡ sixteen) × (config_written false counts (zeros 12) ≡ take 12 sixteen) × (config_written false counts (zeros 16) ≡ zeros 16)
unfolding le zeros
counts-written = (refl, refl, refl)

pub counts-back : read_of (config_says true (config_written true counts (zeros 16))) ≡ Ok counts
unfolding zeros
counts-back = config-back true counts (zeros 16) refl (lit< tt, (lit< tt, (lit< tt, (lit< tt, tt)))) (λ e. absurd (no_such e))
  where
    no_such : ◌≡◌ {A = Bool} true false → ⊥
    no_such e = let z : ◌≡◌ {A = ℕ} 1 0 = ap (λ (t : Bool). pick t 1 0) e in omega arith

pub sixteen-same : config_written true (config_of (read (config_row true) sixteen)) sixteen ≡ sixteen
unfolding le num_at un bytes_at
sixteen-same = refl
