-- Request 2026-08 at the C boundary: "1.3 without the feature reads as 1.2", in every answer and in every byte of the result; and the order of the refusals.
-- Assumes nothing.
use Rattle.std.specs.Prelude.{◌≡◌, ℕ, true, false, List, length, ◌≢◌, nat_le, refl}
use Rattle.std.proofs.lemmas.List.Edits.{sets}
use Rattle.std.proofs.Common.{eq-eqb, ne_eqb}
use Rattle.layout.specs.Layout.{read, write}
use Rattle.layout.specs.Lent.{shown, result_size}
use Rattle.codes.specs.Says.{guard}
use Rattle.codes.specs.SaysLaws.{passes, stops}
use Rattle.codes.specs.Codes.{among}
use Rattle.codes.specs.Versions.{version_numbers, has_controls}
use Rattle.records.specs.Config.{config_row, fits}
use Rattle.console.specs.Entries.{notice_shown, notice_entry, notice_entry_in, config_entry}

-- an event of 1.2, or of 1.3 without the feature: the old entry and the new one are one
pub event-as-1-2 : (e : List ℕ) (version features : ℕ) (r : List ℕ) → among version version_numbers ≡ true → has_controls version features ≡ false → notice_entry_in e version features r ≡ notice_entry e r
unfolding notice_entry_in notice_entry guard
event-as-1-2 e version features r k m = λ i. guard (nat_le result_size (length r)) (shown 10 r) (guard (k i) (shown 1 r) (notice_shown (m i) e r))

-- the configuration of 1.3 without the feature is that of 1.2, whatever other bits are named
pub config-as-1-2 : (s : List ℕ) (features : ℕ) (r : List ℕ) → has_controls 0x0103 features ≡ false → config_entry s 0x0103 features r ≡ config_entry s 0x0102 0 r
unfolding config_entry
config-as-1-2 s features r m = λ i. guard (nat_le result_size (length r)) (shown 10 r) (guard (fits (m i) s) (shown 10 r) (guard true (shown 1 r) (shown 0 (sets r 0 (write (config_row (m i)) (read (config_row (m i)) s))))))

-- instances: other bits of 1.3, and bit 0 of 1.2
pub other-bits : (e s r : List ℕ) → (notice_entry_in e 0x0103 6 r ≡ notice_entry e r) × (notice_entry_in e 0x0102 1 r ≡ notice_entry e r) × (config_entry s 0x0103 6 r ≡ config_entry s 0x0102 0 r)
other-bits e s r = (event-as-1-2 e 0x0103 6 r refl refl, event-as-1-2 e 0x0102 1 r refl refl, config-as-1-2 s 6 r refl)

-- the length first, then the version; a number that is no version has no control elements
pub length-first : (s r : List ℕ) → nat_le result_size (length r) ≡ true → (length s ≢ 12) → shown 10 r ≡ config_entry s 0x0104 1 r
unfolding config_entry
length-first s r long h = passes _ _ _ long (stops _ _ _ (ne_eqb (length s) 12 h) refl)

pub then-version : (s r : List ℕ) → nat_le result_size (length r) ≡ true → length s ≡ 12 → shown 1 r ≡ config_entry s 0x0104 1 r
unfolding config_entry
then-version s r long h = passes _ _ _ long (passes _ _ _ (eq-eqb (length s) 12 h) (stops _ _ _ refl refl))

-- of an event the version comes before its length
pub version-first : (e r : List ℕ) → nat_le result_size (length r) ≡ true → shown 1 r ≡ notice_entry_in e 0x0104 1 r
unfolding notice_entry_in
version-first e r long = passes _ _ _ long (stops _ _ _ refl refl)
