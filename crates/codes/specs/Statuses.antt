-- "Status 0x8000 ok, 0x8001 bad message, 0x8002 not supported, 0x8003 I/O error."
-- Assumes nothing.
use Rattle.std.specs.Prelude.{Bool, false, List, [], ◌∷◌, ℕ, eqb, Result, Ok, Err}
use Rattle.codes.specs.Says.{Says, says, pick}
use Rattle.codes.specs.Codes.{among}
use Rattle.codes.specs.declared.statuses.StatusCode.{StatusCode}
use Rattle.codes.specs.declared.statuses.StatusCode.TheVariants.{SOk, SBadMsg, SNotSupp, SIoErr}
use Rattle.codes.specs.declared.statuses.UnknownStatus.{UnknownStatus}

abbrev pub status_codes : List ℕ
status_codes = 0x8000 ∷ 0x8001 ∷ 0x8002 ∷ 0x8003 ∷ []

abbrev pub status_code : StatusCode → ℕ
status_code SOk = 0x8000
status_code SBadMsg = 0x8001
status_code SNotSupp = 0x8002
status_code SIoErr = 0x8003

-- "The status reader is to answer which of 0x8001, 0x8002, 0x8003 came, or the unknown number": a number that is no status is a status not ok
abbrev pub says_status : Result StatusCode UnknownStatus → Says
says_status (Ok c) = says 0 (status_code c ∷ [])
says_status (Err u) = says 2 (u.word ∷ [])

abbrev pub status_says : ℕ → Says
status_says code = pick (among code status_codes) (says 0 (code ∷ [])) (says 2 (code ∷ []))

abbrev pub is_ok : Result StatusCode UnknownStatus → Bool
is_ok (Ok c) = eqb (status_code c) 0x8000
is_ok (Err u) = false
