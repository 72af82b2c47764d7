-- Request 2026-08: "Decode 12 or 16 configuration bytes and events by the version and feature the caller names". A version is named 0x0102 or 0x0103; any other number is a bad one.
-- Assumes nothing.
use Rattle.std.specs.Prelude.{Bool, ◌&&◌, List, [], ◌∷◌, ℕ, eqb, Result}
use Rattle.codes.specs.Says.{Says}
use Rattle.codes.specs.Answers.{says_result}
use Rattle.codes.specs.Flags.{has_bit, ctls_feature}
use Rattle.codes.specs.declared.versions.Version.{Version}
use Rattle.codes.specs.declared.versions.Version.TheVariants.{V12, V13}
use Rattle.codes.specs.declared.answers.Refusal.{Refusal}

abbrev pub version_numbers : List ℕ
version_numbers = 0x0102 ∷ 0x0103 ∷ []

abbrev pub version_number : Version → ℕ
version_number V12 = 0x0102
version_number V13 = 0x0103

abbrev pub says_version : Result Version Refusal → Says
says_version = says_result (λ v. version_number v ∷ [])

-- THE MODE, the one Boolean that every definition of this request takes: control elements are there "where their feature is negotiated", in 1.3. 1.2 has no such
-- feature, and no other number is a version
abbrev pub has_controls : ℕ → ℕ → Bool
has_controls version features = eqb version 0x0103 && has_bit ctls_feature features
