-- The start of a transfer, of a playback or a capture, and a playback over a whole script. "Checks: Busy (8), set-up, stream range (1), parameters set (2)."
-- Assumes nothing.
use Rattle.std.specs.Prelude.{◌≡◌, ℕ, ◌+◌, ◌%◌, Bool, true, false, ◌&&◌, List, [], length, ◌==◌, nat_le, Result}
use Rattle.layout.specs.Lent.{message_size}
use Rattle.codes.specs.Says as answers
use Rattle.codes.specs.Answers.{says_refusal}
use Rattle.turns.specs.Calls.{start_call, start_traced, started_of}
use Rattle.turns.specs.Capture.{capture_start}
use Rattle.turns.specs.Script.{transfer_of}
use Rattle.turns.specs.declared.ring.Step as ring
use Rattle.turns.specs.declared.ring.Said.TheVariants as said
use Rattle.pending.specs.Table.{none_in}
use Rattle.sound_core.specs.State.{with_stage}
use Rattle.sound_core.specs.Plan.{query_of, send_of}
use Rattle.sound_core.specs.Gate.{gate_by, gate_of}
use Rattle.sound_core.specs.Reply.{message_after}
use Rattle.exchange.specs.State.{params_of, life_of, pcm_of, with_core}
use Rattle.exchange.specs.declared.xfer.XferReply.TheVariants.{Send}
use Rattle.exchange.specs.Types.{Refusal, Track, Gate, Ring, Turned, Transferred, Call, Xfer, Capture, JacksAsked, Sound, Nothing, Plan, XferReply, Says, XferStep}
use Rattle.turns.specs.Ring.{says_said, said_word}

-- the checks, of a capture or not
abbrev pub xfer_as : {A : Type 0} → Bool → Bool → Bool → Sound → Track → ℕ → (Refusal → A) → A → (ℕ → A) → A
xfer_as capture lengths clear s t stream refuse set_up go =
    gate_by capture lengths clear s.core (params_of s stream) (life_of s stream) (pcm_of s stream).direction t stream refuse set_up go

-- the checks themselves, of a capture or not
abbrev pub gate_as : Bool → Bool → Bool → Sound → Track → ℕ → Result Gate Refusal
gate_as capture lengths clear s t stream = gate_of capture lengths clear s.core (params_of s stream) (life_of s stream) (pcm_of s stream).direction t stream

abbrev pub xfer_by : {A : Type 0} → Bool → Bool → Sound → Track → ℕ → (Refusal → A) → A → (ℕ → A) → A
xfer_by lengths clear s t stream refuse set_up go = xfer_as false lengths clear s t stream refuse set_up go

-- what waits for set-up
abbrev pub waiting_as : Bool → ℕ → Call
waiting_as true stream = Capture stream
waiting_as false stream = Xfer stream

-- the state waits for the answer to the first query of set-up
abbrev pub set_up_with : Sound → Call → Plan
set_up_with s call = send_of s.core (JacksAsked call) (query_of 0x0001 s.core.counts.jacks 24) Nothing

abbrev pub set_up_plan : Sound → ℕ → Plan
set_up_plan s stream = set_up_with s (Xfer stream)

abbrev pub refused_step : Sound → Ring → Refusal → XferStep
refused_step s r x = record { sound = s; ring = r; reply = Says (said.Refused x); turns = 0 }

abbrev pub set_up_step_with : Sound → Ring → Call → XferStep
set_up_step_with s r call = record { sound = with_core (with_stage s.core (JacksAsked call)) s; ring = r; reply = Send 16; turns = 0 }

abbrev pub set_up_step : Sound → Ring → ℕ → XferStep
set_up_step s r stream = set_up_step_with s r (Xfer stream)

abbrev pub start_step : Sound → Ring → Turned → XferStep
start_step s r u = record { sound = s; ring = u.ring; reply = Says u.said; turns = 0 }

abbrev pub done_step : Sound → Transferred → XferStep
done_step s d = record { sound = s; ring = d.ring; reply = Says d.said; turns = d.turns }

-- the start of a transfer, over what it does to the ring where a period is so long
abbrev pub start_as : Bool → (ℕ → ring.Step) → Sound → Ring → ℕ → ℕ → XferStep
start_as capture begin s r stream n =
    xfer_as capture (nat_le message_size n) (none_in s.pending) s r.track stream (refused_step s r) (set_up_step_with s r (waiting_as capture stream))
    (λ period. start_step s r (started_of r (begin period)))

-- THE START of a transfer of frames of some length, with a message buffer of n bytes: it goes on, is refused, or begins set-up
unfoldable pub start_of : Sound → Ring → ℕ → ℕ → ℕ → ℕ → XferStep
start_of s r stream len budget n = start_as false (λ period. start_call r.track stream len period budget) s r stream n

-- 2026-11, THE START OF ONE THAT WRITES A TRACE, lent room of some length: the same checks, "the writer gives 10, last before the first turn"
unfoldable pub start_traced_of : Sound → Ring → ℕ → ℕ → ℕ → ℕ → ℕ → XferStep
start_traced_of s r stream len budget room n = start_as false (λ period. start_traced r.track stream len period budget room) s r stream n

-- THE START OF A CAPTURE of so many periods into a recording of some length: the same checks, "stream direction not 1 gives 1, after the range check"
unfoldable pub capture_of : Sound → Ring → ℕ → ℕ → ℕ → ℕ → ℕ → XferStep
capture_of s r stream periods lent budget n = start_as true (λ period. capture_start r.track stream periods period lent budget) s r stream n

-- A TRANSFER over a script: the same checks, then turns until an answer. A script that is no whole number of readings gets 10
unfoldable pub xfer_of : Sound → Ring → ℕ → ℕ → ℕ → List ℕ → ℕ → XferStep
xfer_of s r stream len budget script n =
    xfer_by (nat_le message_size n && length script % 12 == 0) (none_in s.pending) s r.track stream (refused_step s r) (set_up_step s r stream)
    (λ period. done_step s (transfer_of r stream len period budget script))

-- what the message buffer holds then: the query of set-up, or what it held
abbrev pub xfer_message : XferReply → Sound → ℕ → List ℕ → List ℕ
xfer_message (Send n) s stream l = message_after (set_up_plan s stream).say l
xfer_message (Says x) s stream l = l

-- a request of n bytes to send is 256 + n; else what the ring says
abbrev pub says_xfer : XferReply → answers.Says
says_xfer (Send n) = answers.says (256 + n) []
says_xfer (Says x) = says_said x

-- the same as one word at the C boundary
abbrev pub xfer_word : XferReply → ℕ
xfer_word (Send n) = 256 + n
xfer_word (Says x) = said_word x

-- document 01's number and values of the start, and of a transfer over a script: a refusal's, 256 + 16 for set-up's first query, or what the ring says
abbrev pub start_says_as : Bool → (ℕ → ring.Step) → Sound → Ring → ℕ → ℕ → answers.Says
start_says_as capture begin s r stream n =
    xfer_as capture (nat_le message_size n) (none_in s.pending) s r.track stream says_refusal (answers.says (256 + 16) []) (λ period. says_said (begin period).said)

abbrev pub start_says : Sound → Ring → ℕ → ℕ → ℕ → ℕ → answers.Says
start_says s r stream len budget n = start_says_as false (λ period. start_call r.track stream len period budget) s r stream n

abbrev pub start_traced_says : Sound → Ring → ℕ → ℕ → ℕ → ℕ → ℕ → answers.Says
start_traced_says s r stream len budget room n = start_says_as false (λ period. start_traced r.track stream len period budget room) s r stream n

abbrev pub capture_says : Sound → Ring → ℕ → ℕ → ℕ → ℕ → ℕ → answers.Says
capture_says s r stream periods lent budget n = start_says_as true (λ period. capture_start r.track stream periods period lent budget) s r stream n

abbrev pub xfer_says : Sound → Ring → ℕ → ℕ → ℕ → List ℕ → ℕ → answers.Says
xfer_says s r stream len budget script n =
    xfer_by (nat_le message_size n && length script % 12 == 0) (none_in s.pending) s r.track stream says_refusal (answers.says (256 + 16) [])
    (λ period. says_said (transfer_of r stream len period budget script).said)

-- what a transfer returns, its number and values, and what it leaves in the message buffer: m before, n after
pub record Transfers (x : XferStep) (said : answers.Says) (s : Sound) (stream : ℕ) (m n : List ℕ) (r : XferStep) : Type 0 where
  pub step : r ≡ x
  pub says : says_xfer r.reply ≡ said
  pub message : n ≡ xfer_message x.reply s stream m
