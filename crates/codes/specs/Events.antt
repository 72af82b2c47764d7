-- "An event of 8 bytes with code 0x1000, 0x1001, 0x1100 or 0x1101 gives its kind and data. Another code gives 2."
-- Request 2026-08: "an event 0x1200 for a control change", in 1.3 with control elements; elsewhere "0x1200 stays IoError".
-- Assumes nothing.
use Rattle.std.specs.Prelude.{Bool, List, [], ◌∷◌, ◌++◌, ℕ, Result}
use Rattle.codes.specs.Says.{Says, pick}
use Rattle.codes.specs.Answers.{says_result}
use Rattle.codes.specs.declared.events.NotificationType.{NotificationType}
use Rattle.codes.specs.declared.events.NotificationType.TheVariants.{JackConnected, JackDisconnected, PcmPeriodElapsed, PcmXrun, CtlNotify}
use Rattle.codes.specs.declared.answers.Refusal.{Refusal}

abbrev pub event_codes : List ℕ
event_codes = 0x1000 ∷ 0x1001 ∷ 0x1100 ∷ 0x1101 ∷ []

-- with control elements or without; without, they are document 01's
abbrev pub event_codes_of : Bool → List ℕ
event_codes_of controls = event_codes ++ pick controls (0x1200 ∷ []) []

abbrev pub event_code : NotificationType → ℕ
event_code JackConnected = 0x1000
event_code JackDisconnected = 0x1001
event_code PcmPeriodElapsed = 0x1100
event_code PcmXrun = 0x1101
event_code CtlNotify = 0x1200

abbrev pub says_kind : Result NotificationType Refusal → Says
says_kind = says_result (λ k. event_code k ∷ [])
