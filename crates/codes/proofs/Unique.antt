-- A public function's contract leaves one outcome: any two that it permits, for the same arguments, are equal. `Post` is the contract itself, as
-- Rattle reads it off the source, so no statement here repeats a clause.
-- Assumes nothing.
use mathlib.Core.Path.{◌≡◌, refl, ap}
use mathlib.Core.Bool.{true}
use mathlib.Core.List.{[], ◌∷◌}
use Prim.Native.Nat.{ℕ}
use lib.Dec.{eqb}
use lib.ListN.{get_or}
use Rattle.std.specs.Prelude.{Result, Ok, Err}
use Rattle.codes.specs.Says.{Says, pick}
use Rattle.codes.specs.SaysLaws.{same, one}
use Rattle.codes.specs.ResultLaws.{one-result}
use Rattle.codes.specs.Formats.{format_number}
use Rattle.codes.specs.Rates.{rate_number, place_of}
use Rattle.codes.specs.Events.{event_codes_of, event_code}
use Rattle.codes.specs.Requests.{request_codes, request_code}
use Rattle.codes.specs.Statuses.{status_codes, status_code, says_status}
use Rattle.codes.specs.Versions.{version_number}
use Rattle.codes.specs.declared.formats.PcmFormat.{PcmFormat}
use Rattle.codes.specs.declared.formats.PcmFormat.TheVariants.{ImaAdpcm, MuLaw, ALaw, S8, U8, S16, U16, S18_3, U18_3, S20_3, U20_3, S24_3, U24_3, S20, U20, S24, U24, S32, U32, FLOAT, FLOAT64, DsdU8, DsdU16, DsdU32, Iec958Subframe}
use Rattle.codes.specs.declared.rates.PcmRate.{PcmRate}
use Rattle.codes.specs.declared.rates.PcmRate.TheVariants.{Rate5512, Rate8000, Rate11025, Rate16000, Rate22050, Rate32000, Rate44100, Rate48000, Rate64000, Rate88200, Rate96000, Rate176400, Rate192000, Rate384000}
use Rattle.codes.specs.declared.events.NotificationType.{NotificationType}
use Rattle.codes.specs.declared.events.NotificationType.TheVariants.{JackConnected, JackDisconnected, PcmPeriodElapsed, PcmXrun, CtlNotify}
use Rattle.codes.specs.declared.requests.RequestCode.{RequestCode}
use Rattle.codes.specs.declared.requests.RequestCode.TheVariants.{RJackInfo, RJackRemap, RPcmInfo, RPcmSetParams, RPcmPrepare, RPcmRelease, RPcmStart, RPcmStop, RChmapInfo}
use Rattle.codes.specs.declared.statuses.StatusCode.{StatusCode}
use Rattle.codes.specs.declared.statuses.StatusCode.TheVariants.{SOk, SBadMsg, SNotSupp, SIoErr}
use Rattle.codes.specs.declared.statuses.UnknownStatus.{UnknownStatus}
use Rattle.codes.specs.declared.versions.Version.{Version}
use Rattle.codes.specs.declared.versions.Version.TheVariants.{V12, V13}
use Rattle.codes.specs.declared.flags.JackFeatures.{JackFeatures}
use Rattle.codes.specs.declared.flags.PcmFeatures.{PcmFeatures}
use Rattle.codes.specs.declared.flags.PcmFormats.{PcmFormats}
use Rattle.codes.specs.declared.flags.PcmRates.{PcmRates}
use Rattle.codes.proofs.formats.PcmFormat.number.Reads as format-number
use Rattle.codes.proofs.formats.PcmFormatTryFromU8.try_from.Reads as format-from-number
use Rattle.codes.proofs.rates.PcmRate.number.Reads as rate-number
use Rattle.codes.proofs.rates.PcmRateTryFromU8.try_from.Reads as rate-from-number
use Rattle.codes.proofs.formats.PcmFormat.sample_bits.Reads as sample-bits
use Rattle.codes.proofs.formats.PcmFormat.storage_bits.Reads as storage-bits
use Rattle.codes.proofs.rates.PcmRate.hz.Reads as rate-hz
use Rattle.codes.proofs.rates.PcmRate.from_hz.Reads as rate-from-hz
use Rattle.codes.proofs.events.NotificationType.code.Reads as kind-code
use Rattle.codes.proofs.events.NotificationTypeTryFromU32.try_from.Reads as kind-from-code
use Rattle.codes.proofs.events.NotificationType.from_code_in.Reads as kind-from-code-in
use Rattle.codes.proofs.requests.RequestCode.code.Reads as request-code
use Rattle.codes.proofs.requests.RequestCodeTryFromU32.try_from.Reads as request-from-code
use Rattle.codes.proofs.statuses.StatusCode.code.Reads as status-code
use Rattle.codes.proofs.statuses.StatusCodeTryFromU32.try_from.Reads as status-from-code
use Rattle.codes.proofs.statuses.status_is_ok.Reads as status-is-ok
use Rattle.codes.proofs.life.permits.Reads as permits
use Rattle.codes.proofs.life.takes.Reads as takes
use Rattle.codes.proofs.tests.both.Reads as both
use Rattle.codes.proofs.versions.Version.number.Reads as version-number
use Rattle.codes.proofs.versions.VersionTryFromU32.try_from.Reads as version-from-number
use Rattle.codes.proofs.versions.has_controls.Reads as has-controls
use Rattle.codes.proofs.flags.DeviceFeatures.has_ctls.Reads as device-features-has-ctls
use Rattle.codes.proofs.flags.JackFeatures.from_bits_retain.Reads as jack-features-from-bits-retain
use Rattle.codes.proofs.flags.JackFeatures.has_remap.Reads as jack-features-has-remap
use Rattle.codes.proofs.flags.PcmFeatures.from_bits_retain.Reads as features-from-bits-retain
use Rattle.codes.proofs.flags.PcmFeaturesFromPcmFeature.from.Reads as features-from-feature
use Rattle.codes.proofs.flags.PcmFeatures.contains.Reads as features-contains
use Rattle.codes.proofs.flags.PcmFormats.from_bits_retain.Reads as formats-from-bits-retain
use Rattle.codes.proofs.flags.PcmFormatsFromPcmFormat.from.Reads as formats-from-format
use Rattle.codes.proofs.flags.PcmFormats.from_number.Reads as formats-from-number
use Rattle.codes.proofs.flags.PcmFormats.contains.Reads as formats-contains
use Rattle.codes.proofs.flags.PcmRates.from_bits_retain.Reads as rates-from-bits-retain
use Rattle.codes.proofs.flags.PcmRatesFromPcmRate.from.Reads as rates-from-rate
use Rattle.codes.proofs.flags.PcmRates.from_number.Reads as rates-from-number
use Rattle.codes.proofs.flags.PcmRates.contains.Reads as rates-contains
use Rattle.codes.proofs.answers.Refusal.number.Reads as refusal-number
use Rattle.codes.proofs.answers.Refusal.word.Reads as refusal-word
use Rattle.codes.proofs.answers.Cause.word.Reads as cause-word

-- ---- the way back from what is said to what was returned: the case is found by its value; refusals are the same law for all (`one-result`)

format_of : ℕ → PcmFormat
format_of n = get_or (ImaAdpcm ∷ MuLaw ∷ ALaw ∷ S8 ∷ U8 ∷ S16 ∷ U16 ∷ S18_3 ∷ U18_3 ∷ S20_3 ∷ U20_3 ∷ S24_3 ∷ U24_3 ∷ S20 ∷ U20 ∷ S24 ∷ U24 ∷ S32 ∷ U32 ∷ FLOAT ∷ FLOAT64 ∷ DsdU8 ∷ DsdU16 ∷ DsdU32 ∷ Iec958Subframe ∷ []) n ImaAdpcm

format-of : (c : PcmFormat) → format_of (format_number c) ≡ c
unfolding format_of
format-of ImaAdpcm = refl
format-of MuLaw = refl
format-of ALaw = refl
format-of S8 = refl
format-of U8 = refl
format-of S16 = refl
format-of U16 = refl
format-of S18_3 = refl
format-of U18_3 = refl
format-of S20_3 = refl
format-of U20_3 = refl
format-of S24_3 = refl
format-of U24_3 = refl
format-of S20 = refl
format-of U20 = refl
format-of S24 = refl
format-of U24 = refl
format-of S32 = refl
format-of U32 = refl
format-of FLOAT = refl
format-of FLOAT64 = refl
format-of DsdU8 = refl
format-of DsdU16 = refl
format-of DsdU32 = refl
format-of Iec958Subframe = refl

rate_of : ℕ → PcmRate
rate_of n = get_or (Rate5512 ∷ Rate8000 ∷ Rate11025 ∷ Rate16000 ∷ Rate22050 ∷ Rate32000 ∷ Rate44100 ∷ Rate48000 ∷ Rate64000 ∷ Rate88200 ∷ Rate96000 ∷ Rate176400 ∷ Rate192000 ∷ Rate384000 ∷ []) n Rate5512

rate-of : (c : PcmRate) → rate_of (rate_number c) ≡ c
unfolding rate_of
rate-of Rate5512 = refl
rate-of Rate8000 = refl
rate-of Rate11025 = refl
rate-of Rate16000 = refl
rate-of Rate22050 = refl
rate-of Rate32000 = refl
rate-of Rate44100 = refl
rate-of Rate48000 = refl
rate-of Rate64000 = refl
rate-of Rate88200 = refl
rate-of Rate96000 = refl
rate-of Rate176400 = refl
rate-of Rate192000 = refl
rate-of Rate384000 = refl

pub kind_of : ℕ → NotificationType
kind_of n = get_or (JackConnected ∷ JackDisconnected ∷ PcmPeriodElapsed ∷ PcmXrun ∷ CtlNotify ∷ []) (place_of n (event_codes_of true)) JackConnected

pub kind-of : (c : NotificationType) → kind_of (event_code c) ≡ c
unfolding kind_of place_of
kind-of JackConnected = refl
kind-of JackDisconnected = refl
kind-of PcmPeriodElapsed = refl
kind-of PcmXrun = refl
kind-of CtlNotify = refl

request_of : ℕ → RequestCode
request_of n = get_or (RJackInfo ∷ RJackRemap ∷ RPcmInfo ∷ RPcmSetParams ∷ RPcmPrepare ∷ RPcmRelease ∷ RPcmStart ∷ RPcmStop ∷ RChmapInfo ∷ []) (place_of n request_codes) RJackInfo

request-of : (c : RequestCode) → request_of (request_code c) ≡ c
unfolding request_of place_of
request-of RJackInfo = refl
request-of RJackRemap = refl
request-of RPcmInfo = refl
request-of RPcmSetParams = refl
request-of RPcmPrepare = refl
request-of RPcmRelease = refl
request-of RPcmStart = refl
request-of RPcmStop = refl
request-of RChmapInfo = refl

status_of : ℕ → StatusCode
status_of n = get_or (SOk ∷ SBadMsg ∷ SNotSupp ∷ SIoErr ∷ []) (place_of n status_codes) SOk

status-of : (c : StatusCode) → status_of (status_code c) ≡ c
unfolding status_of place_of
status-of SOk = refl
status-of SBadMsg = refl
status-of SNotSupp = refl
status-of SIoErr = refl

found_of : Says → Result StatusCode UnknownStatus
found_of s = pick (eqb s.number 0) (Ok (status_of (get_or s.values 0 0))) (Err (record { word = get_or s.values 0 0 }))

status-answer : (a : Result StatusCode UnknownStatus) → found_of (says_status a) ≡ a
unfolding found_of
status-answer (Ok c) = ap Ok (status-of c)
status-answer (Err u) = refl

version_of : ℕ → Version
version_of n = pick (eqb n 0x0102) V12 V13

version_of_lem : (c : Version) → version_of (version_number c) ≡ c
unfolding version_of
version_of_lem V12 = refl
version_of_lem V13 = refl

-- ---- one outcome

pub format-number-one : (κs : _) (a : _) (r₁ r₂ : _) (e₁ e₂ : _) → format-number.Post κs a r₁ e₁ → format-number.Post κs a r₂ e₂ → r₁ ≡ r₂
format-number-one κs a r₁ r₂ e₁ e₂ p q = same p q

pub format-from-number-one : (κs : _) (a : _) (r₁ r₂ : _) (e₁ e₂ : _) → format-from-number.Post κs a r₁ e₁ → format-from-number.Post κs a r₂ e₂ → r₁ ≡ r₂
format-from-number-one κs a r₁ r₂ e₁ e₂ p q = one-result (λ c. format_number c ∷ []) (λ vs. format_of (get_or vs 0 0)) format-of p q

pub rate-number-one : (κs : _) (a : _) (r₁ r₂ : _) (e₁ e₂ : _) → rate-number.Post κs a r₁ e₁ → rate-number.Post κs a r₂ e₂ → r₁ ≡ r₂
rate-number-one κs a r₁ r₂ e₁ e₂ p q = same p q

pub rate-from-number-one : (κs : _) (a : _) (r₁ r₂ : _) (e₁ e₂ : _) → rate-from-number.Post κs a r₁ e₁ → rate-from-number.Post κs a r₂ e₂ → r₁ ≡ r₂
rate-from-number-one κs a r₁ r₂ e₁ e₂ p q = one-result (λ c. rate_number c ∷ []) (λ vs. rate_of (get_or vs 0 0)) rate-of p q

pub sample-bits-one : (κs : _) (a : _) (r₁ r₂ : _) (e₁ e₂ : _) → sample-bits.Post κs a r₁ e₁ → sample-bits.Post κs a r₂ e₂ → r₁ ≡ r₂
sample-bits-one κs a r₁ r₂ e₁ e₂ p q = same p q

pub storage-bits-one : (κs : _) (a : _) (r₁ r₂ : _) (e₁ e₂ : _) → storage-bits.Post κs a r₁ e₁ → storage-bits.Post κs a r₂ e₂ → r₁ ≡ r₂
storage-bits-one κs a r₁ r₂ e₁ e₂ p q = same p q

pub rate-hz-one : (κs : _) (a : _) (r₁ r₂ : _) (e₁ e₂ : _) → rate-hz.Post κs a r₁ e₁ → rate-hz.Post κs a r₂ e₂ → r₁ ≡ r₂
rate-hz-one κs a r₁ r₂ e₁ e₂ p q = same p q

pub rate-from-hz-one : (κs : _) (a : _) (r₁ r₂ : _) (e₁ e₂ : _) → rate-from-hz.Post κs a r₁ e₁ → rate-from-hz.Post κs a r₂ e₂ → r₁ ≡ r₂
rate-from-hz-one κs a r₁ r₂ e₁ e₂ p q = one-result (λ c. rate_number c ∷ []) (λ vs. rate_of (get_or vs 0 0)) rate-of p q

pub kind-code-one : (κs : _) (a : _) (r₁ r₂ : _) (e₁ e₂ : _) → kind-code.Post κs a r₁ e₁ → kind-code.Post κs a r₂ e₂ → r₁ ≡ r₂
kind-code-one κs a r₁ r₂ e₁ e₂ p q = same p q

pub kind-from-code-one : (κs : _) (a : _) (r₁ r₂ : _) (e₁ e₂ : _) → kind-from-code.Post κs a r₁ e₁ → kind-from-code.Post κs a r₂ e₂ → r₁ ≡ r₂
kind-from-code-one κs a r₁ r₂ e₁ e₂ p q = one-result (λ c. event_code c ∷ []) (λ vs. kind_of (get_or vs 0 0)) kind-of p q

pub kind-from-code-in-one : (κs : _) (a : _) (r₁ r₂ : _) (e₁ e₂ : _) → kind-from-code-in.Post κs a r₁ e₁ → kind-from-code-in.Post κs a r₂ e₂ → r₁ ≡ r₂
kind-from-code-in-one κs a r₁ r₂ e₁ e₂ p q = one-result (λ c. event_code c ∷ []) (λ vs. kind_of (get_or vs 0 0)) kind-of p q

pub request-code-one : (κs : _) (a : _) (r₁ r₂ : _) (e₁ e₂ : _) → request-code.Post κs a r₁ e₁ → request-code.Post κs a r₂ e₂ → r₁ ≡ r₂
request-code-one κs a r₁ r₂ e₁ e₂ p q = same p q

pub request-from-code-one : (κs : _) (a : _) (r₁ r₂ : _) (e₁ e₂ : _) → request-from-code.Post κs a r₁ e₁ → request-from-code.Post κs a r₂ e₂ → r₁ ≡ r₂
request-from-code-one κs a r₁ r₂ e₁ e₂ p q = one-result (λ c. request_code c ∷ []) (λ vs. request_of (get_or vs 0 0)) request-of p q

pub status-code-one : (κs : _) (a : _) (r₁ r₂ : _) (e₁ e₂ : _) → status-code.Post κs a r₁ e₁ → status-code.Post κs a r₂ e₂ → r₁ ≡ r₂
status-code-one κs a r₁ r₂ e₁ e₂ p q = same p q

pub status-from-code-one : (κs : _) (a : _) (r₁ r₂ : _) (e₁ e₂ : _) → status-from-code.Post κs a r₁ e₁ → status-from-code.Post κs a r₂ e₂ → r₁ ≡ r₂
status-from-code-one κs a r₁ r₂ e₁ e₂ p q = one says_status found_of status-answer p q

pub jack-features-from-bits-retain-one : (κs : _) (a : _) (r₁ r₂ : _) (e₁ e₂ : _) → jack-features-from-bits-retain.Post κs a r₁ e₁ → jack-features-from-bits-retain.Post κs a r₂ e₂ → r₁ ≡ r₂
jack-features-from-bits-retain-one κs a r₁ r₂ e₁ e₂ p q = one (λ (x : JackFeatures). x.bits) (λ b. record { bits = b }) (λ x. refl) p q

pub jack-features-has-remap-one : (κs : _) (a : _) (r₁ r₂ : _) (e₁ e₂ : _) → jack-features-has-remap.Post κs a r₁ e₁ → jack-features-has-remap.Post κs a r₂ e₂ → r₁ ≡ r₂
jack-features-has-remap-one κs a r₁ r₂ e₁ e₂ p q = same p q

pub features-from-bits-retain-one : (κs : _) (a : _) (r₁ r₂ : _) (e₁ e₂ : _) → features-from-bits-retain.Post κs a r₁ e₁ → features-from-bits-retain.Post κs a r₂ e₂ → r₁ ≡ r₂
features-from-bits-retain-one κs a r₁ r₂ e₁ e₂ p q = one (λ (x : PcmFeatures). x.bits) (λ b. record { bits = b }) (λ x. refl) p q

pub features-from-feature-one : (κs : _) (a : _) (r₁ r₂ : _) (e₁ e₂ : _) → features-from-feature.Post κs a r₁ e₁ → features-from-feature.Post κs a r₂ e₂ → r₁ ≡ r₂
features-from-feature-one κs a r₁ r₂ e₁ e₂ p q = one (λ (x : PcmFeatures). x.bits) (λ b. record { bits = b }) (λ x. refl) p q

pub features-contains-one : (κs : _) (a : _) (r₁ r₂ : _) (e₁ e₂ : _) → features-contains.Post κs a r₁ e₁ → features-contains.Post κs a r₂ e₂ → r₁ ≡ r₂
features-contains-one κs a r₁ r₂ e₁ e₂ p q = same p q

pub formats-from-bits-retain-one : (κs : _) (a : _) (r₁ r₂ : _) (e₁ e₂ : _) → formats-from-bits-retain.Post κs a r₁ e₁ → formats-from-bits-retain.Post κs a r₂ e₂ → r₁ ≡ r₂
formats-from-bits-retain-one κs a r₁ r₂ e₁ e₂ p q = one (λ (x : PcmFormats). x.bits) (λ b. record { bits = b }) (λ x. refl) p q

pub formats-from-format-one : (κs : _) (a : _) (r₁ r₂ : _) (e₁ e₂ : _) → formats-from-format.Post κs a r₁ e₁ → formats-from-format.Post κs a r₂ e₂ → r₁ ≡ r₂
formats-from-format-one κs a r₁ r₂ e₁ e₂ p q = one (λ (x : PcmFormats). x.bits) (λ b. record { bits = b }) (λ x. refl) p q

pub formats-from-number-one : (κs : _) (a : _) (r₁ r₂ : _) (e₁ e₂ : _) → formats-from-number.Post κs a r₁ e₁ → formats-from-number.Post κs a r₂ e₂ → r₁ ≡ r₂
formats-from-number-one κs a r₁ r₂ e₁ e₂ p q = one-result (λ b. b ∷ []) (λ vs. get_or vs 0 0) (λ b. refl) p q

pub formats-contains-one : (κs : _) (a : _) (r₁ r₂ : _) (e₁ e₂ : _) → formats-contains.Post κs a r₁ e₁ → formats-contains.Post κs a r₂ e₂ → r₁ ≡ r₂
formats-contains-one κs a r₁ r₂ e₁ e₂ p q = same p q

pub rates-from-bits-retain-one : (κs : _) (a : _) (r₁ r₂ : _) (e₁ e₂ : _) → rates-from-bits-retain.Post κs a r₁ e₁ → rates-from-bits-retain.Post κs a r₂ e₂ → r₁ ≡ r₂
rates-from-bits-retain-one κs a r₁ r₂ e₁ e₂ p q = one (λ (x : PcmRates). x.bits) (λ b. record { bits = b }) (λ x. refl) p q

pub rates-from-rate-one : (κs : _) (a : _) (r₁ r₂ : _) (e₁ e₂ : _) → rates-from-rate.Post κs a r₁ e₁ → rates-from-rate.Post κs a r₂ e₂ → r₁ ≡ r₂
rates-from-rate-one κs a r₁ r₂ e₁ e₂ p q = one (λ (x : PcmRates). x.bits) (λ b. record { bits = b }) (λ x. refl) p q

pub rates-from-number-one : (κs : _) (a : _) (r₁ r₂ : _) (e₁ e₂ : _) → rates-from-number.Post κs a r₁ e₁ → rates-from-number.Post κs a r₂ e₂ → r₁ ≡ r₂
rates-from-number-one κs a r₁ r₂ e₁ e₂ p q = one-result (λ b. b ∷ []) (λ vs. get_or vs 0 0) (λ b. refl) p q

pub rates-contains-one : (κs : _) (a : _) (r₁ r₂ : _) (e₁ e₂ : _) → rates-contains.Post κs a r₁ e₁ → rates-contains.Post κs a r₂ e₂ → r₁ ≡ r₂
rates-contains-one κs a r₁ r₂ e₁ e₂ p q = same p q

pub refusal-number-one : (κs : _) (a : _) (r₁ r₂ : _) (e₁ e₂ : _) → refusal-number.Post κs a r₁ e₁ → refusal-number.Post κs a r₂ e₂ → r₁ ≡ r₂
refusal-number-one κs a r₁ r₂ e₁ e₂ p q = same p q

pub refusal-word-one : (κs : _) (a : _) (r₁ r₂ : _) (e₁ e₂ : _) → refusal-word.Post κs a r₁ e₁ → refusal-word.Post κs a r₂ e₂ → r₁ ≡ r₂
refusal-word-one κs a r₁ r₂ e₁ e₂ p q = same p q

pub cause-word-one : (κs : _) (a : _) (r₁ r₂ : _) (e₁ e₂ : _) → cause-word.Post κs a r₁ e₁ → cause-word.Post κs a r₂ e₂ → r₁ ≡ r₂
cause-word-one κs a r₁ r₂ e₁ e₂ p q = same p q

pub status-is-ok-one : (κs : _) (a : _) (r₁ r₂ : _) (e₁ e₂ : _) → status-is-ok.Post κs a r₁ e₁ → status-is-ok.Post κs a r₂ e₂ → r₁ ≡ r₂
status-is-ok-one κs a r₁ r₂ e₁ e₂ p q = same p q

pub both_one : (κs : _) (a : _) (r₁ r₂ : _) (e₁ e₂ : _) → both.Post κs a r₁ e₁ → both.Post κs a r₂ e₂ → r₁ ≡ r₂
both_one κs a r₁ r₂ e₁ e₂ p q = same p q

pub permits-one : (κs : _) (a : _) (r₁ r₂ : _) (e₁ e₂ : _) → permits.Post κs a r₁ e₁ → permits.Post κs a r₂ e₂ → r₁ ≡ r₂
permits-one κs a r₁ r₂ e₁ e₂ p q = same p q

pub takes_one : (κs : _) (a : _) (r₁ r₂ : _) (e₁ e₂ : _) → takes.Post κs a r₁ e₁ → takes.Post κs a r₂ e₂ → r₁ ≡ r₂
takes_one κs a r₁ r₂ e₁ e₂ p q = same p q

pub version-number-one : (κs : _) (a : _) (r₁ r₂ : _) (e₁ e₂ : _) → version-number.Post κs a r₁ e₁ → version-number.Post κs a r₂ e₂ → r₁ ≡ r₂
version-number-one κs a r₁ r₂ e₁ e₂ p q = same p q

pub version-from-number-one : (κs : _) (a : _) (r₁ r₂ : _) (e₁ e₂ : _) → version-from-number.Post κs a r₁ e₁ → version-from-number.Post κs a r₂ e₂ → r₁ ≡ r₂
version-from-number-one κs a r₁ r₂ e₁ e₂ p q = one-result (λ c. version_number c ∷ []) (λ vs. version_of (get_or vs 0 0)) version_of_lem p q

pub has-controls-one : (κs : _) (a : _) (r₁ r₂ : _) (e₁ e₂ : _) → has-controls.Post κs a r₁ e₁ → has-controls.Post κs a r₂ e₂ → r₁ ≡ r₂
has-controls-one κs a r₁ r₂ e₁ e₂ p q = same p q

pub device-features-has-ctls-one : (κs : _) (a : _) (r₁ r₂ : _) (e₁ e₂ : _) → device-features-has-ctls.Post κs a r₁ e₁ → device-features-has-ctls.Post κs a r₂ e₂ → r₁ ≡ r₂
device-features-has-ctls-one κs a r₁ r₂ e₁ e₂ p q = same p q
