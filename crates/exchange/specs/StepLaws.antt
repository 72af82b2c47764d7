-- A plan comes to one step and one content of the message buffer: the laws for the code that goes from one to the other.
-- Assumes nothing.
use Rattle.std.specs.Prelude.{◌≡◌, ℕ, ◌%◌, Bool, true, false, ◌&&◌, List, ◌++◌, length, take, ◌==◌, nat_le, refl, Result, Ok, Err}
use Rattle.std.proofs.Math.Path.{ap}
use Rattle.std.proofs.Common.{sym, ◌∙◌, subst, arith, take_at}
use Rattle.layout.specs.Lent.{message_size}
use Rattle.codes.specs.Says as answers
use Rattle.codes.specs.Says.{says, guard}
use Rattle.codes.specs.SaysLaws.{guard-ap}
use Rattle.turns.specs.Calls.{start_call, start_traced, started_of}
use Rattle.turns.specs.Capture.{capture_start}
use Rattle.turns.specs.Script.{transfer_of}
use Rattle.turns.specs.declared.ring.Step as ring
use Rattle.pending.specs.Table.{none_in}
use Rattle.sound_core.specs.Reply.{message_after, reply_of}
use Rattle.exchange.specs.State.{pcms_of}
use Rattle.exchange.specs.Exchange.{ids_by, list_of, step_of, list_values, says_beside, says_step, says_say, Stepped}
use Rattle.exchange.specs.Xfer.{xfer_as, gate_as, xfer_by, waiting_as, refused_step, set_up_step_with, set_up_step, start_step, done_step, start_as, start_of, start_traced_of, xfer_of, capture_of, xfer_message, says_xfer, start_says_as, start_says, start_traced_says, xfer_says, capture_says, Transfers}
use Rattle.exchange.specs.Types.{Refusal, Track, Ring, PcmInfo, Say, Send, Done, Sound, Plan, Step, Gate, SetUp, Open, XferStep}

-- a list of ids is told as it is
listed-ids : (ids : List ℕ) (rest : List ℕ) → take (length ids) (ids ++ rest) ≡ ids
listed-ids ids rest = take_at ids rest (length ids) refl

says-step : (a : Result Say Refusal) (n : ℕ) (pcms : List PcmInfo) → says_beside (reply_of a) (list_of a n pcms) ≡ says_say a n pcms
says-step (Ok (Send q)) n pcms = refl
says-step (Ok (Done v)) n pcms = ap (λ (ids : List ℕ). says 0 (list_values v ids)) (listed-ids (ids_by v n pcms) _)
says-step (Err r) n pcms = refl

pub stepped : {p : Plan} {s : Sound} {page m n : List ℕ} {r : Step} → r ≡ step_of p s page → n ≡ message_after p.say m → Stepped p s page m n r
stepped {p} {s} e h = record { step = e; said = ap says_step e ∙ says-step p.say p.core.read.streams (pcms_of s); message = h }

-- a plan that is equal comes to the same
pub moved : {p : Plan} (q : Plan) (s : Sound) (page l : List ℕ) {n : List ℕ} {r : Step} → p ≡ q → Stepped p s page l n r → Stepped q s page l n r
moved q s page l {n} {r} e h = subst (λ (p : Plan). Stepped p s page l n r) e h

-- ---- the checks of a transfer

-- what is made of the outcome of the checks is made at each end of them
pub xfer-as-ap : {A B : Type 0} (f : A → B) (capture lengths clear : Bool) (s : Sound) (t : Track) (stream : ℕ) (refuse : Refusal → A) (set_up : A) (go : ℕ → A)
    → f (xfer_as capture lengths clear s t stream refuse set_up go) ≡ xfer_as capture lengths clear s t stream (λ x. f (refuse x)) (f set_up) (λ p. f (go p))
xfer-as-ap f true lengths clear s t stream refuse set_up go = simp (guard-ap f)
xfer-as-ap f false lengths clear s t stream refuse set_up go = simp (guard-ap f)

pub xfer-ap : {A B : Type 0} (f : A → B) (lengths clear : Bool) (s : Sound) (t : Track) (stream : ℕ) (refuse : Refusal → A) (set_up : A) (go : ℕ → A)
    → f (xfer_by lengths clear s t stream refuse set_up go) ≡ xfer_by lengths clear s t stream (λ x. f (refuse x)) (f set_up) (λ p. f (go p))
xfer-ap f lengths clear s t stream refuse set_up go = xfer-as-ap f false lengths clear s t stream refuse set_up go

-- what came of the checks, where a `match` found first that they refuse nothing, then the case
pub came : {r : Result Gate Refusal} {x y : Gate} → r ≡ Ok x → x ≡ y → Ok y ≡ r
came p q = sym (p ∙ ap (λ (g : Gate). Ok g) q)

-- set-up is begun only where the lengths are right
pub set-up-long : (capture lengths clear : Bool) (s : Sound) (t : Track) (stream : ℕ) → (Ok SetUp) ≡ gate_as capture lengths clear s t stream → lengths ≡ true
unfolding guard
set-up-long capture true clear s t stream e = refl
set-up-long capture false clear s t stream e = let z : ◌≡◌ {A = ℕ} 0 1 = cc in absurd (omega arith)

-- the start of either direction
module _ (capture : Bool) (begin : ℕ → ring.Step) (s : Sound) (r : Ring) (stream : ℕ) where
  abbrev pub start_by : Result Gate Refusal → XferStep
  start_by (Err x) = refused_step s r x
  start_by (Ok SetUp) = set_up_step_with s r (waiting_as capture stream)
  start_by (Ok (Open period)) = start_step s r (started_of r (begin period))

  pub started-as : (n : ℕ) (clear : Bool) (g : Result Gate Refusal) → clear ≡ none_in s.pending → g ≡ gate_as capture (nat_le message_size n) clear s r.track stream → start_by g ≡ start_as capture begin s r stream n
  started-as n clear g z e =
      ap start_by (e ∙ ap (λ (t : Bool). gate_as capture (nat_le message_size n) t s r.track stream) z)
      ∙ xfer-as-ap start_by capture (nat_le message_size n) (none_in s.pending) s r.track stream Err (Ok SetUp) (λ (n : ℕ). Ok (Open n))

  start-as-says : (n : ℕ) → says_xfer (start_as capture begin s r stream n).reply ≡ start_says_as capture begin s r stream n
  start-as-says n =
      xfer-as-ap (λ (x : XferStep). says_xfer x.reply) capture (nat_le message_size n) (none_in s.pending) s r.track stream (refused_step s r) (set_up_step_with s r (waiting_as capture stream))
      (λ period. start_step s r (started_of r (begin period)))

module _ (s : Sound) (r : Ring) (stream len budget : ℕ) where
  pub started-by : (n : ℕ) (clear : Bool) (g : Result Gate Refusal) → clear ≡ none_in s.pending → g ≡ gate_as false (nat_le message_size n) clear s r.track stream
      → start_by false (λ period. start_call r.track stream len period budget) s r stream g ≡ start_of s r stream len budget n
  unfolding start_of
  started-by n clear g z e = started-as false (λ period. start_call r.track stream len period budget) s r stream n clear g z e

  abbrev pub run_by : List ℕ → Result Gate Refusal → XferStep
  run_by script (Err x) = refused_step s r x
  run_by script (Ok SetUp) = set_up_step s r stream
  run_by script (Ok (Open period)) = done_step s (transfer_of r stream len period budget script)

  pub run-by : (script : List ℕ) (n : ℕ) (b clear : Bool) (g : Result Gate Refusal) → clear ≡ none_in s.pending → b ≡ (nat_le message_size n && length script % 12 == 0)
      → g ≡ gate_as false b clear s r.track stream → run_by script g ≡ xfer_of s r stream len budget script n
  unfolding xfer_of
  run-by script n b clear g z p e =
      ap (run_by script) (e ∙ (λ i. gate_as false (p i) (z i) s r.track stream))
      ∙ xfer-ap (run_by script) (nat_le message_size n && length script % 12 == 0) (none_in s.pending) s r.track stream Err (Ok SetUp) (λ (n : ℕ). Ok (Open n))

-- what the checks say is what they come to
pub start-says : (s : Sound) (r : Ring) (stream len budget n : ℕ) → says_xfer (start_of s r stream len budget n).reply ≡ start_says s r stream len budget n
unfolding start_of
start-says s r stream len budget n = start-as-says false (λ period. start_call r.track stream len period budget) s r stream n

-- of one that writes a trace
module _ (s : Sound) (r : Ring) (stream len budget room : ℕ) where
  abbrev pub tracing : ℕ → ring.Step
  tracing period = start_traced r.track stream len period budget room

  pub traced-by : (n : ℕ) (clear : Bool) (g : Result Gate Refusal) → clear ≡ none_in s.pending → g ≡ gate_as false (nat_le message_size n) clear s r.track stream
      → start_by false tracing s r stream g ≡ start_traced_of s r stream len budget room n
  unfolding start_traced_of
  traced-by n clear g z e = started-as false tracing s r stream n clear g z e

  pub traced-says : (n : ℕ) → says_xfer (start_traced_of s r stream len budget room n).reply ≡ start_traced_says s r stream len budget room n
  unfolding start_traced_of
  traced-says n = start-as-says false tracing s r stream n

-- of a capture
module _ (s : Sound) (r : Ring) (stream periods lent budget : ℕ) where
  abbrev pub begins : ℕ → ring.Step
  begins period = capture_start r.track stream periods period lent budget

  pub captured-by : (n : ℕ) (clear : Bool) (g : Result Gate Refusal) → clear ≡ none_in s.pending → g ≡ gate_as true (nat_le message_size n) clear s r.track stream
      → start_by true begins s r stream g ≡ capture_of s r stream periods lent budget n
  unfolding capture_of
  captured-by n clear g z e = started-as true begins s r stream n clear g z e

  pub capture-says : (n : ℕ) → says_xfer (capture_of s r stream periods lent budget n).reply ≡ capture_says s r stream periods lent budget n
  unfolding capture_of
  capture-says n = start-as-says true begins s r stream n

pub xfer-says : (s : Sound) (r : Ring) (stream len budget : ℕ) (script : List ℕ) (n : ℕ) → says_xfer (xfer_of s r stream len budget script n).reply ≡ xfer_says s r stream len budget script n
unfolding xfer_of
xfer-says s r stream len budget script n =
    xfer-ap (λ (x : XferStep). says_xfer x.reply) (nat_le message_size n && length script % 12 == 0) (none_in s.pending) s r.track stream (refused_step s r) (set_up_step s r stream)
    (λ period. done_step s (transfer_of r stream len period budget script))

-- a step, what it says, and the message that goes with its reply
pub replied : (s : Sound) (stream : ℕ) (l : List ℕ) {n : List ℕ} {r x y : XferStep} {said : answers.Says} → r ≡ x → x ≡ y → says_xfer y.reply ≡ said → n ≡ xfer_message x.reply s stream l
    → Transfers y said s stream l n r
replied s stream l p e w m =
    record { step = p ∙ e; says = ap (λ (x : XferStep). says_xfer x.reply) (p ∙ e) ∙ w; message = m ∙ ap (λ (x : XferStep). xfer_message x.reply s stream l) e }
