-- What the proofs of the entries for an event and a configuration cite.
-- Assumes nothing.
use Rattle.std.specs.Prelude.{◌≡◌, ℕ, Bool, true, false, ◌&&◌, List, [], ◌∷◌, length, ◌==◌, ◌≢◌, refl, Option, Some, None, Result, Ok, Err}
use Rattle.std.proofs.Common.{sym, ap, ◌∙◌, arith}
use Rattle.std.proofs.lemmas.Bool.{false≢true}
use Rattle.std.proofs.lemmas.List.Edits.{sets}
use Rattle.layout.specs.Bytes.{le, num_at}
use Rattle.layout.specs.Layout.{read, write}
use Rattle.layout.specs.Rows.{rows_bytes}
use Rattle.layout.specs.Lent.{shown}
use Rattle.codes.specs.Says.{Says, says, pick, guard}
use Rattle.codes.specs.SaysLaws.{took}
use Rattle.codes.specs.RefusalLaws.{refusal-is}
use Rattle.codes.specs.Codes.{among, code_says}
use Rattle.codes.specs.Events.{event_codes_of}
use Rattle.codes.specs.Answers.{refusal_word}
use Rattle.codes.specs.declared.answers.Cause.TheVariants.{NoStatus}
use Rattle.codes.specs.declared.answers.Refusal.TheVariants.{InvalidParam, IoError}
use Rattle.codes.specs.Versions.{version_numbers, version_number, says_version}
use Rattle.codes.specs.declared.versions.Version.{Version}
use Rattle.codes.specs.declared.answers.Refusal.{Refusal}
use Rattle.records.specs.Config.{config_row, fits, config_says, config_of, read_of, config_values}
use Rattle.records.specs.declared.config.Config.{Config}
use Rattle.records.specs.Records.{event}
use Rattle.records.specs.Notice.{says_notice, ctl_event, event_row, notice_says_of}
use Rattle.records.specs.declared.event.Notice.{Notice}
use Rattle.records.specs.declared.event.Notice.TheVariants as notice
use Rattle.console.specs.Entries.{notice_shown}
use Rattle.console.specs.Private.{noticed}

-- ---- an event

notice-by : (t u : Bool) (vs r : List ℕ) (n : Result (Option Notice) Refusal) → says_notice n ≡ pick t (pick u (says 0 vs) (says 2 [])) (says 0 []) → (length vs ≢ 0)
    → noticed n r ≡ guard t (shown 513 r) (guard u (shown (refusal_word (IoError NoStatus)) r) (shown 0 (sets r 0 (rows_bytes (le 4) vs))))
unfolding guard rows_bytes
notice-by true true vs r (Ok (Some (notice.Event k d))) e h = ap (λ (y : Says). shown 0 (sets r 0 (rows_bytes (le 4) y.values))) e
notice-by true true vs r (Ok (Some (notice.Control id mask))) e h = ap (λ (y : Says). shown 0 (sets r 0 (rows_bytes (le 4) y.values))) e
notice-by true true vs r (Ok None) e h = absurd (h (sym (ap (λ (y : Says). length y.values) e)))
notice-by true true vs r (Err q) e h = absurd (false≢true (sym (refusal-is true vs q (IoError NoStatus) e).0))
notice-by true false vs r (Ok (Some (notice.Event k d))) e h = let z : ◌≡◌ {A = ℕ} 0 2 = ap (λ (y : Says). y.number) e in absurd (omega arith)
notice-by true false vs r (Ok (Some (notice.Control id mask))) e h = let z : ◌≡◌ {A = ℕ} 0 2 = ap (λ (y : Says). y.number) e in absurd (omega arith)
notice-by true false vs r (Ok None) e h = let z : ◌≡◌ {A = ℕ} 0 2 = ap (λ (y : Says). y.number) e in absurd (omega arith)
notice-by true false vs r (Err q) e h = ap (λ (x : Refusal). shown (refusal_word x) r) (refusal-is false vs q (IoError NoStatus) e).1
notice-by false u vs r (Ok (Some (notice.Event k d))) e h = let z : ◌≡◌ {A = ℕ} 2 0 = ap (λ (y : Says). length y.values) e in absurd (omega arith)
notice-by false u vs r (Ok (Some (notice.Control id mask))) e h = let z : ◌≡◌ {A = ℕ} 3 0 = ap (λ (y : Says). length y.values) e in absurd (omega arith)
notice-by false u vs r (Ok None) e h = refl
notice-by false u vs r (Err q) e h = absurd (false≢true (sym (refusal-is true [] q (IoError NoStatus) e).0))

-- an event of 8 bytes says something
says-something : (control : Bool) (s : List ℕ) → length (read (pick control ctl_event event) s) ≢ 0
says-something true s e = let z : ◌≡◌ {A = ℕ} 3 0 = e in omega arith
says-something false s e = let z : ◌≡◌ {A = ℕ} 2 0 = e in omega arith

pub noticed-is : (controls : Bool) (e r : List ℕ) (n : Result (Option Notice) Refusal) → says_notice n ≡ notice_says_of controls e → noticed n r ≡ notice_shown controls e r
noticed-is controls e r n h =
    let code = num_at 0 4 e in
    notice-by (length e == 8) (among code (event_codes_of controls)) (read (event_row controls code) e) r n h (says-something (controls && code == 0x1200) e)

-- ---- a version

pub version-known : (n : ℕ) (f : Result Version Refusal) (v : Version) → f ≡ Ok v → says_version f ≡ code_says version_numbers 1 n → among n version_numbers ≡ true
version-known n f v e q = (took (among n version_numbers) 0 (n ∷ []) (version_number v ∷ []) (sym (ap says_version e) ∙ q)).0

pub version-unknown : (n : ℕ) (f : Result Version Refusal) (r : Refusal) → f ≡ Err r → says_version f ≡ code_says version_numbers 1 n → among n version_numbers ≡ false
version-unknown n f r e q = (refusal-is (among n version_numbers) (n ∷ []) r InvalidParam (sym (ap says_version e) ∙ q)).0

-- ---- a configuration: from what its reader returned to its length and its counts

counts_in : Result Config Refusal → Config
counts_in (Ok c) = c
counts_in (Err r) = config_of []

size_refusal : Result Config Refusal → ℕ
size_refusal (Ok c) = 0
size_refusal (Err r) = 10

read_by : (t : Bool) (vs : List ℕ) (c : Config) → Ok c ≡ read_of (pick t (says 0 vs) (says 10 [])) → (t ≡ true) × (c ≡ config_of vs)
unfolding counts_in size_refusal
read_by true vs c e = (refl, ap counts_in e)
read_by false vs c e = let z : ◌≡◌ {A = ℕ} 0 10 = ap size_refusal e in absurd (omega arith)

bad-by : (t : Bool) (vs : List ℕ) (r : Refusal) → Err r ≡ read_of (pick t (says 0 vs) (says 10 [])) → t ≡ false
unfolding size_refusal
bad-by true vs r e = let z : ◌≡◌ {A = ℕ} 10 0 = ap size_refusal e in absurd (omega arith)
bad-by false vs r e = refl

counts_of : (controls : Bool) (s : List ℕ) → config_values controls (config_of (read (config_row controls) s)) ≡ read (config_row controls) s
counts_of true s = refl
counts_of false s = refl

module _ (controls mode : Bool) (s : List ℕ) (x : Result Config Refusal) (m : mode ≡ controls) (h : x ≡ read_of (config_says mode s)) where
  pub config-refused : (r : Refusal) → x ≡ Err r → fits controls s ≡ false
  config-refused r e = ap (λ (t : Bool). fits t s) (sym m) ∙ bad-by (fits mode s) (read (config_row mode) s) r (sym e ∙ h)

  pub config-fits : (c : Config) → x ≡ Ok c → fits controls s ≡ true
  config-fits c e = ap (λ (t : Bool). fits t s) (sym m) ∙ (read_by (fits mode s) (read (config_row mode) s) c (sym e ∙ h)).0

  pub config-counts : (c : Config) → x ≡ Ok c → write (config_row mode) (config_values mode c) ≡ write (config_row controls) (read (config_row controls) s)
  config-counts c e =
      ap (λ (k : Config). write (config_row mode) (config_values mode k)) (read_by (fits mode s) (read (config_row mode) s) c (sym e ∙ h)).1
      ∙ ap (write (config_row mode)) (counts_of mode s)
      ∙ ap (λ (t : Bool). write (config_row t) (read (config_row t) s)) m
