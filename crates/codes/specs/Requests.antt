-- "Codes: jack info 1, remap 2; PCM info 0x0100, set 0x0101, prepare 0x0102, release 0x0103, start 0x0104, stop 0x0105; channel map 0x0200."
-- Assumes nothing.
use Rattle.std.specs.Prelude.{List, [], ◌∷◌, ℕ, Result}
use Rattle.codes.specs.Says.{Says}
use Rattle.codes.specs.Answers.{says_result}
use Rattle.codes.specs.declared.requests.RequestCode.{RequestCode}
use Rattle.codes.specs.declared.requests.RequestCode.TheVariants.{RJackInfo, RJackRemap, RPcmInfo, RPcmSetParams, RPcmPrepare, RPcmRelease, RPcmStart, RPcmStop, RChmapInfo}
use Rattle.codes.specs.declared.answers.Refusal.{Refusal}

abbrev pub request_codes : List ℕ
request_codes = 1 ∷ 2 ∷ 0x0100 ∷ 0x0101 ∷ 0x0102 ∷ 0x0103 ∷ 0x0104 ∷ 0x0105 ∷ 0x0200 ∷ []

abbrev pub request_code : RequestCode → ℕ
request_code RJackInfo = 1
request_code RJackRemap = 2
request_code RPcmInfo = 0x0100
request_code RPcmSetParams = 0x0101
request_code RPcmPrepare = 0x0102
request_code RPcmRelease = 0x0103
request_code RPcmStart = 0x0104
request_code RPcmStop = 0x0105
request_code RChmapInfo = 0x0200

-- a code that is no request's is a bad number
abbrev pub says_request : Result RequestCode Refusal → Says
says_request = says_result (λ c. request_code c ∷ [])
