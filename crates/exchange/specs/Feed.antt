-- A feed of either kind, a page or a queue failure, so that each theorem is stated once: "The caller then feeds the 4,096-byte answer page or a queue failure."
-- Assumes nothing.
use Rattle.std.specs.Prelude.{◌≡◌, ℕ, ◌≤◌, Bool, true, false, ◌&&◌, ◌⊎◌, List, [], ◌∷◌, nat_le, Err, None}
use Rattle.tables.specs.Tables.{page_ok}
use Rattle.layout.specs.Lent.{message_size}
use Rattle.tables.specs.declared.verdict.Fault.TheVariants as fault
use Rattle.sound_core.specs.Plan.{verdict_by}
use Rattle.exchange.specs.Exchange.{step_of, feed_of, fail_of}
use Rattle.exchange.specs.Types.{Written, Verdict, QueueFailed, Sound, Plan, Step, Call, SetParams, Command, Remap, Streams, Supported, Xfer, Capture, Stage, Idle, JacksAsked, StreamsAsked, MapsAsked, Sent}

-- a page, of which so much was written, or a failure; with a message buffer of n bytes
pub data Feed : Type 0 where
  paged : (w : Written) (bytes : List ℕ) (n : ℕ) → Feed
  failed : (n : ℕ) → Feed

-- a failure carries no page
abbrev pub page_of : Feed → List ℕ
page_of (paged w bytes n) = bytes
page_of (failed n) = []

-- how much of it was written
abbrev pub written_of : Feed → Written
written_of (paged w bytes n) = w
written_of (failed n) = None

abbrev pub plan_of : Sound → Feed → Plan
plan_of s (paged w bytes n) = feed_of w s bytes n
plan_of s (failed n) = fail_of s n

abbrev pub fed_of : Sound → Feed → Step
fed_of s f = step_of (plan_of s f) s (page_of f)

abbrev pub verdict_of : Sound → Feed → Verdict
verdict_of s (paged w bytes n) = verdict_by w s.core.stage s.core.counts bytes
verdict_of s (failed n) = Err (fault.Refused QueueFailed)

-- a feed that 10 does not refuse
abbrev pub long_of : Feed → Bool
long_of (paged w bytes n) = page_ok w bytes && nat_le message_size n
long_of (failed n) = nat_le message_size n

abbrev pub Long : Feed → Type 0
Long (paged w bytes n) = (page_ok w bytes ≡ true) × (message_size ≤ n)
Long (failed n) = message_size ≤ n

-- a number of a list
abbrev pub One : ℕ → List ℕ → Type 0
One n [] = ⊥
One n (x ∷ xs) = (n ≡ x) ⊎ One n xs

-- with what a call may be refused once set-up is done
abbrev pub own_refusals : Call → List ℕ
own_refusals (SetParams stream to) = 1 ∷ 12 ∷ []
own_refusals (Command kind stream) = 1 ∷ 12 ∷ []
own_refusals (Remap jack association sequence) = 1 ∷ 3 ∷ 4 ∷ []
own_refusals (Streams direction) = []
own_refusals (Supported field stream) = 1 ∷ []
own_refusals (Xfer stream) = 1 ∷ 2 ∷ 12 ∷ []
own_refusals (Capture stream) = 1 ∷ 2 ∷ 12 ∷ []

-- a query of set-up is out
abbrev pub asking : Stage → Bool
asking Idle = false
asking (JacksAsked call) = true
asking (StreamsAsked call) = true
asking (MapsAsked call) = true
asking (Sent call) = false

-- the call that waits
abbrev pub call_at : Stage → Call
call_at Idle = Streams 0
call_at (JacksAsked call) = call
call_at (StreamsAsked call) = call
call_at (MapsAsked call) = call
call_at (Sent call) = call
