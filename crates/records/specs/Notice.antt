-- "An event of 8 bytes with code 0x1000, 0x1001, 0x1100 or 0x1101 gives its kind and data. Another code gives 2; another length gives "nothing"."
-- Request 2026-08: "events by the version and feature the caller names": the same with control elements and without, with one code and its layout more.
-- Assumes nothing.
use Rattle.std.specs.Prelude.{Bool, false, ◌&&◌, List, [], ◌∷◌, ℕ, eqb, length, Option, Some, None, Result}
use Rattle.layout.specs.Bytes.{num_at}
use Rattle.layout.specs.Layout.{read}
use Rattle.codes.specs.Says.{Says, says, pick}
use Rattle.codes.specs.Answers.{says_result}
use Rattle.codes.specs.Codes.{among}
use Rattle.codes.specs.declared.answers.Refusal.{Refusal}
use Rattle.codes.specs.Events.{event_codes_of, event_code}
use Rattle.records.specs.Records.{event}
use Rattle.records.specs.declared.event.Notice.{Notice}
use Rattle.records.specs.declared.event.Notice.TheVariants as notice

-- "nothing" has no number of its own: 0, with no values
abbrev pub notice_values : Option Notice → List ℕ
notice_values None = []
notice_values (Some (notice.Event k d)) = event_code k ∷ d ∷ []
notice_values (Some (notice.Control id mask)) = 0x1200 ∷ id ∷ mask ∷ []

abbrev pub says_notice : Result (Option Notice) Refusal → Says
says_notice = says_result notice_values

-- a control change: VirtIO 1.3, 5.14.6, "code 4, control 2, mask 2"
abbrev pub ctl_event : List ℕ
ctl_event = 4 ∷ 2 ∷ 2 ∷ []

-- the layout of an event by its code
abbrev pub event_row : Bool → ℕ → List ℕ
event_row controls code = pick (controls && eqb code 0x1200) ctl_event event

-- the 8 bytes of an event
abbrev pub event_says_of : Bool → List ℕ → Says
event_says_of controls s = let code = num_at 0 4 s in pick (among code (event_codes_of controls)) (says 0 (read (event_row controls code) s)) (says 2 [])

abbrev pub notice_says_of : Bool → List ℕ → Says
notice_says_of controls s = pick (eqb (length s) 8) (event_says_of controls s) (says 0 [])

-- document 01's: without control elements
abbrev pub notice_says : List ℕ → Says
notice_says s = notice_says_of false s
