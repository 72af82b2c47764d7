-- THE STATUS THAT A REFUSAL CARRIES. "Refusals: 2 and 3 keep number and place and carry the status that caused them, or none."
-- Assumes nothing.
use Rattle.std.specs.Prelude.{◌≡◌, ℕ, Bool, true, false, not, List, [], ◌==◌, ◌≢◌, refl, Option, Some, None, Err, Ok, Result}
use Rattle.std.proofs.Common.{sym, subst}
use Rattle.std.proofs.lemmas.Bool.{false≢true, eqb-false}
use Rattle.layout.specs.Bytes.{num_at}
use Rattle.codes.specs.Says.{pick, guard}
use Rattle.codes.specs.SaysLaws.{guarded-by}
use Rattle.codes.specs.Answers.{says_refusal, refusal_word}
use Rattle.codes.specs.Cause.{NotOk, Caused, word_back}
use Rattle.codes.specs.declared.answers.Refusal.TheVariants as refusal
use Rattle.tables.specs.Tables.{judged, is_good}
use Rattle.tables.specs.declared.verdict.Fault.TheVariants as fault
use Rattle.turns.specs.Rules.{choose_of, comes_to, played_of, is_oldest, judge_of, settle, hear, act, turn_of, submit, sent_of, counted_by, counted_of}
use Rattle.turns.specs.RuleLaws.{Judged, judged as judged-slot, played-fails}
use Rattle.turns.specs.CaseLaws.{last_of}
use Rattle.turns.specs.Consistent as ring
use Rattle.turns.specs.Calls.{traced_call, turn_call, drained, drain_call, start_call, start_traced, started_of}
use Rattle.turns.specs.Capture.{capture_start}
use Rattle.turns.specs.declared.ring.Step as step
use Rattle.turns.specs.declared.ring.Period.{Period}
use Rattle.turns.specs.declared.ring.Said.TheVariants as said
use Rattle.turns.specs.Types.{completion}
use Rattle.turns.specs.declared.rules.Choice.{Choice}
use Rattle.turns.specs.declared.rules.Choice.TheVariants.{Submit, Finish, Wait}
use Rattle.turns.specs.declared.rules.Verdict as rules
use Rattle.turns.specs.declared.rules.Verdict.TheVariants as rule
use Rattle.sound_core.specs.GateLaws.{faced-by}
use Rattle.exchange.specs.State.{params_of, pcm_of}
use Rattle.sound_core.specs.Plan.{send_of, query_of, own_set, own_command, own_remap, own_supported, own_xfer, own_of, begin_of, cause_of, refusal_of, status_refusal, read_to, after_jacks, after_streams, after_maps, after_sent, answer_by, answer_of, verdict_by}
use Rattle.sound_core.specs.Reply.{reply_of}
use Rattle.sound_core.specs.declared.reply.Reply.TheVariants as reply
use Rattle.exchange.specs.Tables.{look_of, pending_look}
use Rattle.exchange.specs.Exchange.{step_of, call_of, feed_of, fail_of}
use Rattle.exchange.specs.Feed.{Feed, paged, failed, plan_of, fed_of, verdict_of}
use Rattle.exchange.specs.Xfer.{refused_step, start_step, start_as, start_of, start_traced_of, capture_of}
use Rattle.exchange.specs.OwnLaws.{picked-by}
use Rattle.exchange.specs.declared.xfer.XferReply.TheVariants as xfer
use Rattle.exchange.specs.Types.{Written, Cause, NoStatus, Status, Refusal, InvalidParam, IoError, Unsupported, Verdict, Counts, Track, Ring, Said, Reading, Kind, Call, SetParams, Command, Remap, Streams, Supported, Xfer, Capture, Stage, Idle, JacksAsked, StreamsAsked, MapsAsked, Sent, Core, Sound, Look, Nothing, Plan, Reply, XferReply, XferStep}

-- 2 carries what is P, and 3 what is Q; no other refusal carries anything
abbrev pub Carry : (Cause → Type 0) → (Cause → Type 0) → Refusal → Type 0
Carry P Q refusal.InvalidParam = Unit {0}
Carry P Q (refusal.IoError c) = P c
Carry P Q (refusal.Unsupported c) = Q c
Carry P Q refusal.NoInfo = Unit {0}
Carry P Q refusal.TooMany = Unit {0}
Carry P Q refusal.WrongToken = Unit {0}
Carry P Q refusal.QueueFailed = Unit {0}
Carry P Q refusal.Busy = Unit {0}
Carry P Q refusal.OutOfTurns = Unit {0}
Carry P Q refusal.BadLength = Unit {0}
Carry P Q refusal.Short = Unit {0}
Carry P Q refusal.BadState = Unit {0}
Carry P Q refusal.Full = Unit {0}
Carry P Q refusal.NotYet = Unit {0}
Carry P Q refusal.BadCapture = Unit {0}

abbrev pub Never : Cause → Type 0
Never c = ⊥

abbrev pub Without : Cause → Type 0
Without c = c ≡ NoStatus

-- neither 2 nor 3
abbrev pub Neither : Refusal → Type 0
Neither = Carry Never Never

-- ".. or none"
abbrev pub Bare : Refusal → Type 0
Bare = Carry Without Without

-- ---- A TURN. "Otherwise free the slot; a status other than 0x8000 ends with 2.": the status of the completion that was read, of the oldest slot

abbrev pub Explained : ℕ → Reading → Cause → Type 0
Explained tail None c = ⊥
Explained tail (Some c₁) c = (c₁.slot ≡ tail) × (c ≡ Status c₁.status) × (c₁.status ≢ 0x8000)

-- what ends a transfer is P, what is refused before is Q
abbrev Telling : (Refusal → Type 0) → (Refusal → Type 0) → Said → Type 0
Telling P Q said.Going = Unit {0}
Telling P Q said.Done = Unit {0}
Telling P Q (said.Ended r) = P r
Telling P Q (said.Refused r) = Q r

module _ (tail : ℕ) (reading : Reading) where
  abbrev Ends : Refusal → Type 0
  Ends = Carry (Explained tail reading) Never

  abbrev Turns : step.Step → Type 0
  Turns x = Telling Ends Neither x.said

  counted-tells : (s : Said) (last : Bool) (x : step.Step) → Telling Ends Neither s → Turns (counted_by s last x)
  counted-tells said.Going true x p = tt
  counted-tells said.Going false x p = tt
  counted-tells said.Done last x p = tt
  counted-tells (said.Ended r) last x p = p
  counted-tells (said.Refused r) last x p = p

settle-tells : (v : rules.Verdict) (s : Option Period) (t : Track) (slot status : ℕ) → Judged t slot (played_of status) v → Turns t.tail (completion slot status) (settle v s t slot status)
settle-tells rule.WrongSlot s t slot status j = tt
settle-tells rule.Good s t slot status j = tt
settle-tells (rule.Bad r) s t slot status j = let f = played-fails status r j.2 in subst (Ends t.tail (completion slot status)) f.1 (j.1, refl, f.0)

hear-tells : (s : Option Period) (t : Track) (reading : Reading) → Turns t.tail reading (hear (comes_to played_of reading) s t reading)
hear-tells s t None = tt
hear-tells s t (Some c) = settle-tells (judge_of t c.slot (played_of c.status)) s t c.slot c.status (judged-slot t c.slot (played_of c.status))

act-tells : (c : Choice) (t : Track) (reading : Reading) → Turns t.tail reading (act c t (comes_to played_of reading) reading)
act-tells Submit t reading = hear-tells (sent_of t) (submit t) reading
act-tells Finish t reading = tt
act-tells Wait t reading = hear-tells None t reading

turn-tells : (t : Track) (len : ℕ) (reading : Reading) → Turns t.tail reading (turn_call t len reading)
unfolding traced_call counted_of turn_of
turn-tells t len reading =
    let P : step.Step → Type 0 = Turns t.tail reading in
    let x = act (choose_of t.descriptors t) t (comes_to played_of reading) reading in
    guarded-by P _ _ _
    (λ _. guarded-by P _ _ _
    (λ _. guarded-by P _ _ _ (λ _. guarded-by P _ _ _ (λ _. counted-tells t.tail reading x.said (last_of x) x (act-tells (choose_of t.descriptors t) t reading)) (λ _. tt)) (λ _. tt))
    (λ _. tt))
    (λ _. tt)

pub carries-turn : (t : Track) (len : ℕ) (reading : Reading) (c : Cause) → (turn_call t len reading).said ≡ said.Ended (IoError c) → Explained t.tail reading c
carries-turn t len reading c e = subst (Telling (Ends t.tail reading) Neither) e (turn-tells t len reading)

-- no turn ends with 3, and none is refused with 2 or 3
pub turn-without-3 : (t : Track) (len : ℕ) (reading : Reading) (c : Cause) → (turn_call t len reading).said ≢ said.Ended (Unsupported c)
turn-without-3 t len reading c e = subst (Telling (Ends t.tail reading) Neither) e (turn-tells t len reading)

pub turn-bare : (t : Track) (len : ℕ) (reading : Reading) (r : Refusal) → (turn_call t len reading).said ≡ said.Refused r → Neither r
turn-bare t len reading r e = subst (Telling (Ends t.tail reading) Neither) e (turn-tells t len reading)

-- "drain turns free owed slots, oldest first, ignoring status"
abbrev Drains : step.Step → Type 0
Drains x = Telling Neither Neither x.said

drained-tells : (t : Track) (reading : Reading) → Drains (drained t reading)
drained-tells t None = tt
drained-tells t (Some c) = guarded-by Drains _ _ _ (λ _. tt) (λ _. tt)

drain-tells : (t : Track) (reading : Reading) → Drains (drain_call t reading)
unfolding drain_call
drain-tells t reading = guarded-by Drains _ _ _ (λ _. guarded-by Drains _ _ _ (λ _. tt) (λ _. drained-tells t reading)) (λ _. tt)

pub drain-bare : (t : Track) (reading : Reading) (r : Refusal) → (drain_call t reading).said ≡ said.Ended r → Neither r
drain-bare t reading r e = subst (Telling Neither Neither) e (drain-tells t reading)

-- ---- A CALL, AND THE START OF A TRANSFER: at once no status has come, so 2 and 3 carry none

abbrev Replies : (Refusal → Type 0) → Result Reply Refusal → Type 0
Replies P (Ok (reply.Send n)) = Unit {0}
Replies P (Ok (reply.Done v)) = Unit {0}
Replies P (Err r) = P r

abbrev Plans : (Refusal → Type 0) → Plan → Type 0
Plans P p = Replies P (reply_of p.say)

abbrev AtOnce : Plan → Type 0
AtOnce = Plans Bare

own_bare : (c : Core) (call : Call) (look : Look) → AtOnce (own_of c call look)
unfolding own_set own_command own_remap own_supported own_xfer
own_bare c (SetParams stream to) look = guarded-by AtOnce _ _ _ (λ _. guarded-by AtOnce _ _ _ (λ _. guarded-by AtOnce _ _ _ (λ _. tt) (λ _. tt)) (λ _. tt)) (λ _. tt)
own_bare c (Command kind stream) look = guarded-by AtOnce _ _ _ (λ _. guarded-by AtOnce _ _ _ (λ _. tt) (λ _. tt)) (λ _. tt)
own_bare c (Remap jack a q) look = guarded-by AtOnce _ _ _ (λ _. guarded-by AtOnce _ _ _ (λ _. guarded-by AtOnce _ _ _ (λ _. tt) (λ _. refl)) (λ _. tt)) (λ _. tt)
own_bare c (Streams direction) look = tt
own_bare c (Supported field stream) look = guarded-by AtOnce _ _ _ (λ _. tt) (λ _. tt)
own_bare c (Xfer stream) look = guarded-by AtOnce _ _ _ (λ _. guarded-by AtOnce _ _ _ (λ _. refl) (λ _. tt)) (λ _. tt)
own_bare c (Capture stream) look = guarded-by AtOnce _ _ _ (λ _. guarded-by AtOnce _ _ _ (λ _. guarded-by AtOnce _ _ _ (λ _. refl) (λ _. tt)) (λ _. tt)) (λ _. tt)

call-bare : (s : Sound) (t : Track) (call : Call) (n : ℕ) → AtOnce (call_of s t call n)
unfolding call_of begin_of
call-bare s t call n =
    let c = s.core in
    let look = look_of s call in
    guarded-by AtOnce _ _ _
    (λ _. guarded-by AtOnce _ _ _
    (λ _. guarded-by AtOnce _ _ _
    (λ _. guarded-by AtOnce _ _ _
    (λ _. picked-by AtOnce c.ready (own_of c call look) (send_of c (JacksAsked call) (query_of 0x0001 c.counts.jacks 24) Nothing) (λ _. own_bare c call look) (λ _. tt))
    (λ _. tt))
    (λ _. tt))
    (λ _. tt))
    (λ _. tt)

pub carries-call : (s : Sound) (t : Track) (call : Call) (n : ℕ) (r : Refusal) → (step_of (call_of s t call n) s []).reply ≡ Err r → Bare r
carries-call s t call n r e = subst (Replies Bare) e (call-bare s t call n)

abbrev Begins : XferReply → Type 0
Begins (xfer.Send n) = Unit {0}
Begins (xfer.Says x) = Telling Neither Bare x

abbrev Starts : step.Step → Type 0
Starts x = Telling Neither Bare x.said

ring-starts : (t : Track) (stream total period budget : ℕ) → Starts (start_call t stream total period budget)
unfolding start_call
ring-starts t stream total period budget =
    guarded-by Starts _ _ _
    (λ _. guarded-by Starts _ _ _ (λ _. guarded-by Starts _ _ _ (λ _. guarded-by Starts _ _ _ (λ _. tt) (λ _. tt)) (λ _. tt)) (λ _. tt))
    (λ _. tt)

capture-starts : (t : Track) (stream periods period lent budget : ℕ) → Starts (capture_start t stream periods period lent budget)
unfolding capture_start
capture-starts t stream periods period lent budget =
    guarded-by Starts _ _ _
    (λ _. guarded-by Starts _ _ _ (λ _. guarded-by Starts _ _ _ (λ _. guarded-by Starts _ _ _ (λ _. guarded-by Starts _ _ _ (λ _. tt) (λ _. tt)) (λ _. tt)) (λ _. tt)) (λ _. tt))
    (λ _. tt)

traced-starts : (t : Track) (stream total period budget room : ℕ) → Starts (start_traced t stream total period budget room)
unfolding start_traced
traced-starts t stream total period budget room =
    guarded-by Starts _ _ _
    (λ _. guarded-by Starts _ _ _
    (λ _. guarded-by Starts _ _ _ (λ _. guarded-by Starts _ _ _ (λ _. guarded-by Starts _ _ _ (λ _. guarded-by Starts _ _ _ (λ _. tt) (λ _. tt)) (λ _. tt)) (λ _. tt)) (λ _. tt))
    (λ _. tt))
    (λ _. tt)

-- the start of either direction
begins-as : (capture : Bool) (begin : ℕ → step.Step) (s : Sound) (r : Ring) (stream n : ℕ) → ((period : ℕ) → Starts (begin period)) → Begins (start_as capture begin s r stream n).reply
begins-as capture begin s r stream n h =
    let P : XferStep → Type 0 = λ (u : XferStep). Begins u.reply in
    guarded-by P _ _ _
    (λ _. guarded-by P _ _ _
    (λ _. guarded-by P _ _ _
    (λ _. guarded-by P _ _ _
    (λ _. guarded-by P _ _ _
    (λ _. guarded-by P _ _ _
    (λ _. faced-by P capture (pcm_of s stream).direction (refused_step s r InvalidParam)
    (guard (not ((params_of s stream).known == 0)) (refused_step s r (IoError NoStatus)) (start_step s r (started_of r (begin (params_of s stream).period))))
    (λ _. guarded-by P _ _ _ (λ _. h _) (λ _. refl)) tt)
    (λ _. tt))
    (λ _. tt))
    (λ _. tt))
    (λ _. tt))
    (λ _. tt))
    (λ _. tt)

start-begins : (s : Sound) (r : Ring) (stream len budget n : ℕ) → Begins (start_of s r stream len budget n).reply
unfolding start_of
start-begins s r stream len budget n = begins-as false (λ period. start_call r.track stream len period budget) s r stream n (λ period. ring-starts r.track stream len period budget)

capture-begins : (s : Sound) (r : Ring) (stream periods lent budget n : ℕ) → Begins (capture_of s r stream periods lent budget n).reply
unfolding capture_of
capture-begins s r stream periods lent budget n =
    begins-as true (λ period. capture_start r.track stream periods period lent budget) s r stream n (λ period. capture-starts r.track stream periods period lent budget)

traced-begins : (s : Sound) (r : Ring) (stream len budget room n : ℕ) → Begins (start_traced_of s r stream len budget room n).reply
unfolding start_traced_of
traced-begins s r stream len budget room n =
    begins-as false (λ period. start_traced r.track stream len period budget room) s r stream n (λ period. traced-starts r.track stream len period budget room)

pub carries-start : (s : Sound) (r : Ring) (stream len budget n : ℕ) (x : Refusal) → (start_of s r stream len budget n).reply ≡ xfer.Says (said.Refused x) → Bare x
carries-start s r stream len budget n x e = subst Begins e (start-begins s r stream len budget n)

pub carries-traced : (s : Sound) (r : Ring) (stream len budget room n : ℕ) (x : Refusal) → (start_traced_of s r stream len budget room n).reply ≡ xfer.Says (said.Refused x) → Bare x
carries-traced s r stream len budget room n x e = subst Begins e (traced-begins s r stream len budget room n)

pub carries-capture : (s : Sound) (r : Ring) (stream periods lent budget n : ℕ) (x : Refusal) → (capture_of s r stream periods lent budget n).reply ≡ xfer.Says (said.Refused x) → Bare x
carries-capture s r stream periods lent budget n x e = subst Begins e (capture-begins s r stream periods lent budget n)

-- ---- A FEED, by what was asked

-- the header's word of the page that was fed, which is not ok
abbrev pub Header : Feed → Cause → Type 0
Header (paged w bytes n) c = (c ≡ Status (num_at 0 4 bytes)) × (num_at 0 4 bytes ≢ 0x8000)
Header (failed n) c = ⊥

-- "On streams it ends the call with 2 or 7"; "a status not ok .. on jacks or channel maps gives an empty table and set-up goes on", so that 2 and 3 are then the call's own
abbrev pub CausedBy : Stage → Feed → Cause → Type 0
CausedBy Idle f c = ⊥
CausedBy (JacksAsked call) f c = ⊥
CausedBy (StreamsAsked call) f c = Header f c
CausedBy (MapsAsked call) f c = Without c
CausedBy (Sent call) f c = Header f c

abbrev pub Carries : Stage → Feed → Refusal → Type 0
Carries g f = Carry (CausedBy g f) (CausedBy g f)

-- a verdict's status is the header's word, and its own refusals are neither 2 nor 3
abbrev Seen : Feed → Verdict → Type 0
Seen f (Ok _) = Unit {0}
Seen f (Err (fault.Status word)) = Header f (Status word)
Seen f (Err (fault.Refused r)) = Neither r

judged-seen : (w : Written) (page : List ℕ) (m n size : ℕ) → Seen (paged w page m) (judged w page n size)
unfolding judged
judged-seen w page m n size =
    let P : Verdict → Type 0 = Seen (paged w page m) in
    guarded-by P _ _ _
    (λ _. guarded-by P _ _ _
    (λ _. guarded-by P _ _ _ (λ _. guarded-by P _ _ _ (λ _. guarded-by P _ _ _ (λ _. tt) (λ _. tt)) (λ _. tt)) (λ f. (refl, eqb-false _ _ f)))
    (λ _. tt))
    (λ _. tt)

seen_by : (w : Written) (page : List ℕ) (m : ℕ) (g : Stage) (n : Counts) → Seen (paged w page m) (verdict_by w g n page)
seen_by w page m Idle n = judged-seen w page m 0 0
seen_by w page m (JacksAsked call) n = judged-seen w page m n.jacks 24
seen_by w page m (StreamsAsked call) n = judged-seen w page m n.streams 32
seen_by w page m (MapsAsked call) n = judged-seen w page m n.maps 24
seen_by w page m (Sent call) n = judged-seen w page m 0 0

seen : (s : Sound) (f : Feed) → Seen f (verdict_of s f)
seen s (paged w bytes n) = seen_by w bytes n s.core.stage s.core.counts
seen s (failed n) = tt

-- neither 2 nor 3 is any of them
neither : (P Q : Cause → Type 0) (r : Refusal) → Neither r → Carry P Q r
neither P Q refusal.InvalidParam h = tt
neither P Q (refusal.IoError c) h = absurd h
neither P Q (refusal.Unsupported c) h = absurd h
neither P Q refusal.NoInfo h = tt
neither P Q refusal.TooMany h = tt
neither P Q refusal.WrongToken h = tt
neither P Q refusal.QueueFailed h = tt
neither P Q refusal.Busy h = tt
neither P Q refusal.OutOfTurns h = tt
neither P Q refusal.BadLength h = tt
neither P Q refusal.Short h = tt
neither P Q refusal.BadState h = tt
neither P Q refusal.Full h = tt
neither P Q refusal.NotYet h = tt
neither P Q refusal.BadCapture h = tt

module _ (f : Feed) where
  abbrev Told : Refusal → Type 0
  Told = Carry (Header f) (Header f)

  told : (of : Cause → Refusal) → ((c : Cause) → Header f c → Told (of c)) → (v : Verdict) → is_good v ≡ false → Seen f v → Told (refusal_of (of (cause_of v)) v)
  told of k (Ok _) e h = absurd (false≢true (sym e))
  told of k (Err (fault.Status word)) e h = k (Status word) h
  told of k (Err (fault.Refused r)) e h = neither (Header f) (Header f) r h

  status-told : (call : Call) (c : Cause) → Header f c → Told (status_refusal call c)
  status-told (SetParams stream to) c h = h
  status-told (Command kind stream) c h = h
  status-told (Remap jack a q) c h = h
  status-told (Streams direction) c h = h
  status-told (Supported field stream) c h = h
  status-told (Xfer stream) c h = h
  status-told (Capture stream) c h = h

  answer-carries : (g : Stage) (c : Core) (v : Verdict) (look : Look) → Seen f v → Plans (Carries g f) (answer_by g c v look)
  unfolding after_jacks after_streams after_maps after_sent
  answer-carries Idle c v look h = tt
  answer-carries (JacksAsked call) c v look h = guarded-by (Plans (Carries (JacksAsked call) f)) _ _ _ (λ _. tt) (λ _. tt)
  answer-carries (StreamsAsked call) c v look h = guarded-by (Plans (Carries (StreamsAsked call) f)) _ _ _ (λ _. tt) (λ e. told IoError (λ _ k. k) v e h)
  answer-carries (MapsAsked call) c v look h = guarded-by (Plans (Carries (MapsAsked call) f)) _ _ _ (λ _. own_bare (read_to c c.read.jacks c.read.streams (pick (is_good v) c.counts.maps 0) true) call look) (λ _. tt)
  answer-carries (Sent call) c v look h = guarded-by (Plans (Carries (Sent call) f)) _ _ _ (λ _. tt) (λ e. told (status_refusal call) (status-told call) v e h)

  answered-carries : (c : Core) (v : Verdict) (look : Look) → Seen f v → Plans (Carries c.stage f) (answer_of c v look)
  unfolding answer_of
  answered-carries c v look h =
      let P : Plan → Type 0 = Plans (Carries c.stage f) in
      guarded-by P _ _ _ (λ _. guarded-by P _ _ _ (λ _. answer-carries c.stage c v look h) (λ _. tt)) (λ _. tt)

feed-carries : (s : Sound) (f : Feed) → Plans (Carries s.core.stage f) (plan_of s f)
unfolding feed_of fail_of
feed-carries s (paged w bytes n) =
    let f = paged w bytes n in
    guarded-by (Plans (Carries s.core.stage f)) _ _ _ (λ _. answered-carries f s.core (verdict_of s f) (pending_look s.core.stage s) (seen s f)) (λ _. tt)
feed-carries s (failed n) =
    let f = failed n in
    guarded-by (Plans (Carries s.core.stage f)) _ _ _ (λ _. answered-carries f s.core (verdict_of s f) (pending_look s.core.stage s) (seen s f)) (λ _. tt)

pub carries-feed : (s : Sound) (f : Feed) (r : Refusal) → (fed_of s f).reply ≡ Err r → Carries s.core.stage f r
carries-feed s f r e = subst (Replies (Carries s.core.stage f)) e (feed-carries s f)

-- ---- AT THE C BOUNDARY: what is said is always `Caused`, so that two answers with one word say the same, number and status

caused : (P Q : Cause → Type 0) → ((c : Cause) → P c → NotOk c) → ((c : Cause) → Q c → NotOk c) → (r : Refusal) → Carry P Q r → Caused r
caused P Q p q refusal.InvalidParam h = tt
caused P Q p q (refusal.IoError c) h = p c h
caused P Q p q (refusal.Unsupported c) h = q c h
caused P Q p q refusal.NoInfo h = tt
caused P Q p q refusal.TooMany h = tt
caused P Q p q refusal.WrongToken h = tt
caused P Q p q refusal.QueueFailed h = tt
caused P Q p q refusal.Busy h = tt
caused P Q p q refusal.OutOfTurns h = tt
caused P Q p q refusal.BadLength h = tt
caused P Q p q refusal.Short h = tt
caused P Q p q refusal.BadState h = tt
caused P Q p q refusal.Full h = tt
caused P Q p q refusal.NotYet h = tt
caused P Q p q refusal.BadCapture h = tt

explained-not-ok : (tail : ℕ) (reading : Reading) (c : Cause) → Explained tail reading c → NotOk c
explained-not-ok tail None c h = absurd h
explained-not-ok tail (Some c₁) c h = subst NotOk (sym h.1) h.2

without-not-ok : (c : Cause) → Without c → NotOk c
without-not-ok c h = subst NotOk (sym h) tt

header-not-ok : (f : Feed) (c : Cause) → Header f c → NotOk c
header-not-ok (paged w bytes n) c h = subst NotOk (sym h.0) h.1
header-not-ok (failed n) c h = absurd h

fed-not-ok : (g : Stage) (f : Feed) (c : Cause) → CausedBy g f c → NotOk c
fed-not-ok Idle f c h = absurd h
fed-not-ok (JacksAsked call) f c h = absurd h
fed-not-ok (StreamsAsked call) f c h = header-not-ok f c h
fed-not-ok (MapsAsked call) f c h = without-not-ok c h
fed-not-ok (Sent call) f c h = header-not-ok f c h

pub caused-turn : (t : Track) (len : ℕ) (reading : Reading) (r : Refusal) → (turn_call t len reading).said ≡ said.Ended r → Caused r
caused-turn t len reading r e =
    caused (Explained t.tail reading) Never (explained-not-ok t.tail reading) (λ _ h. absurd h) r (subst (Telling (Ends t.tail reading) Neither) e (turn-tells t len reading))

pub caused-call : (s : Sound) (t : Track) (call : Call) (n : ℕ) (r : Refusal) → (step_of (call_of s t call n) s []).reply ≡ Err r → Caused r
caused-call s t call n r e = caused Without Without without-not-ok without-not-ok r (carries-call s t call n r e)

pub caused-start : (s : Sound) (r : Ring) (stream len budget n : ℕ) (x : Refusal) → (start_of s r stream len budget n).reply ≡ xfer.Says (said.Refused x) → Caused x
caused-start s r stream len budget n x e = caused Without Without without-not-ok without-not-ok x (carries-start s r stream len budget n x e)

pub caused-traced : (s : Sound) (r : Ring) (stream len budget room n : ℕ) (x : Refusal) → (start_traced_of s r stream len budget room n).reply ≡ xfer.Says (said.Refused x) → Caused x
caused-traced s r stream len budget room n x e = caused Without Without without-not-ok without-not-ok x (carries-traced s r stream len budget room n x e)

pub caused-capture : (s : Sound) (r : Ring) (stream periods lent budget n : ℕ) (x : Refusal) → (capture_of s r stream periods lent budget n).reply ≡ xfer.Says (said.Refused x) → Caused x
caused-capture s r stream periods lent budget n x e = caused Without Without without-not-ok without-not-ok x (carries-capture s r stream periods lent budget n x e)

pub caused-feed : (s : Sound) (f : Feed) (r : Refusal) → (fed_of s f).reply ≡ Err r → Caused r
caused-feed s f r e = let k = fed-not-ok s.core.stage f in caused (CausedBy s.core.stage f) (CausedBy s.core.stage f) k k r (carries-feed s f r e)

pub alike-feeds : (s z : Sound) (f g : Feed) (a b : Refusal) → (fed_of s f).reply ≡ Err a → (fed_of z g).reply ≡ Err b → refusal_word a ≡ refusal_word b → says_refusal a ≡ says_refusal b
alike-feeds s z f g a b p q e = word_back a b (caused-feed s f a p) (caused-feed z g b q) e

pub alike-turns : (t u : Track) (l m : ℕ) (x y : Reading) (a b : Refusal) → (turn_call t l x).said ≡ said.Ended a → (turn_call u m y).said ≡ said.Ended b → refusal_word a ≡ refusal_word b
    → says_refusal a ≡ says_refusal b
alike-turns t u l m x y a b p q e = word_back a b (caused-turn t l x a p) (caused-turn u m y b q) e

-- ---- INSTANCES: a command answered with "not supported", a remap so, and a period played with "I/O error"

pub command-not-supported : (c : Core) (kind : Kind) (stream : ℕ) → (after_sent c (Command kind stream) (Err (fault.Status 0x8002))).say ≡ Err (IoError (Status 0x8002))
unfolding after_sent guard
command-not-supported c kind stream = refl

pub remap-not-supported : (c : Core) (jack a q : ℕ) → (after_sent c (Remap jack a q) (Err (fault.Status 0x8002))).say ≡ Err (Unsupported (Status 0x8002))
unfolding after_sent guard
remap-not-supported c jack a q = refl

-- one period of 4 bytes is in flight, in slot 0
abbrev pub played : Track
played = record { descriptors = 3; head = 1; tail = 0; inflight = 1; stream = 0; total = 4; period = 4; next = 4; budget = 9; turns = 1; running = true; capture = false; lent = 4; kept = 0; room = 0; written = 0; good = 0 }

pub turn-failed : (turn_call played 4 (completion 0 0x8003)).said ≡ said.Ended (IoError (Status 0x8003))
unfolding traced_call guard counted_of turn_of choose_of judge_of is_oldest played_of ring.placed_of ring.paced_of
turn-failed = refl
