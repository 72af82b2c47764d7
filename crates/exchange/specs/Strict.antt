-- STRICT MODE, "Trust only what was written": each feed carries the length that the device wrote.
-- Assumes nothing.
use Rattle.std.specs.Prelude.{◌≡◌, ℕ, ◌+◌, ◌*◌, ◌≤◌, Bool, true, false, not, ◌&&◌, List, [], length, ◌==◌, ◌≢◌, nat_le, Err, None, Ok, Some, Result}
use Rattle.std.proofs.Math.Path.{refl, ap, subst}
use Rattle.std.proofs.Common.{sym, ◌∙◌, arith, le-leb, leb-true}
use Rattle.std.proofs.lemmas.Bool.{false≢true}
use Rattle.layout.specs.Lent.{message_size, page_size}
use Rattle.layout.specs.Bytes.{bytes_at, num_at}
use Rattle.layout.specs.Layout.{size}
use Rattle.codes.specs.Says.{pick, guard}
use Rattle.codes.specs.SaysLaws.{passes}
use Rattle.codes.specs.Answers.{says_refusal}
use Rattle.codes.specs.declared.answers.Refusal.TheVariants as refusal
use Rattle.records.specs.Records.{jack_info, pcm_info, channel_map}
use Rattle.tables.specs.Tables.{is_good, jacks_place, pcms_place, maps_place}
use Rattle.tables.specs.TablesLaws.{good-whole}
use Rattle.tables.specs.WrittenLaws.{enough, judged-alike, copied-alike}
use Rattle.tables.specs.declared.verdict.Fault.TheVariants as fault
use Rattle.sound_core.specs.Consistent.{consistent_of}
use Rattle.sound_core.specs.Plan.{refuse_of, status_refusal, effect_of, answer_by, answer_of, after_jacks, after_streams, after_maps, after_sent, verdict_by}
use Rattle.exchange.specs.Tables.{pending_look, sound_after}
use Rattle.exchange.specs.Exchange.{step_of, feed_of, fail_of}
use Rattle.exchange.specs.Feed.{paged, long_of, Long}
use Rattle.exchange.specs.PlanLaws.{Answered, short, idle, asks-streams, asks-maps, cuts, finishes, ends, fails, fed, long_of_lem, long-verdict}
use Rattle.exchange.specs.Types.{Cause, Refusal, Written, Short, QueueFailed, InvalidParam, BadLength, Verdict, Call, SetParams, Command, Remap, Streams, Supported, Xfer, Capture, Stage, Idle, JacksAsked, StreamsAsked, MapsAsked, Sent, Counts, Core, Look, Plan, Say, Send, Done, Sound, Effect, Nothing, FillJacks, FillStreams, FillMaps, Store, Move}

-- how much of a page is read, by what was asked: the header, and the records of a table
abbrev pub reads_of : Stage → Counts → ℕ
reads_of Idle n = 4
reads_of (JacksAsked call) n = 4 + n.jacks * size jack_info
reads_of (StreamsAsked call) n = 4 + n.streams * size pcm_info
reads_of (MapsAsked call) n = 4 + n.maps * size channel_map
reads_of (Sent call) n = 4

-- ---- WRITTEN AS FAR AS IT IS READ: "The old reading stays; demand 2's equality holds for it, and for strict mode when the page was written in full."

module _ (w : ℕ) (page : List ℕ) (a : 4 ≤ w) (b : w ≤ page_size) where
  verdict-enough : (g : Stage) (n : Counts) → (num_at 0 4 page ≡ 0x8000 → reads_of g n ≤ page_size → reads_of g n ≤ w) → verdict_by (Some w) g n page ≡ verdict_by None g n page
  verdict-enough Idle n e = enough w page 0 0 a b e
  verdict-enough (JacksAsked call) n e = enough w page n.jacks (size jack_info) a b e
  verdict-enough (StreamsAsked call) n e = enough w page n.streams (size pcm_info) a b e
  verdict-enough (MapsAsked call) n e = enough w page n.maps (size channel_map) a b e
  verdict-enough (Sent call) n e = enough w page 0 0 a b e

  and-true : (x y : Bool) → y ≡ true → (x && y) ≡ x
  and-true true y e = e
  and-true false y e = refl

  pub strict-enough : (s : Sound) (n : ℕ) → (num_at 0 4 page ≡ 0x8000 → reads_of s.core.stage s.core.counts ≤ page_size → reads_of s.core.stage s.core.counts ≤ w)
      → feed_of (Some w) s page n ≡ feed_of None s page n
  unfolding feed_of
  strict-enough s n e =
      λ i. guard (and-true (length page == page_size) (nat_le w page_size) (le-leb w page_size b) i && nat_le message_size n) (refuse_of s.core BadLength)
      (answer_of s.core (verdict-enough s.core.stage s.core.counts e i) (pending_look s.core.stage s))

pub strict-full : (s : Sound) (page : List ℕ) (n : ℕ) → feed_of (Some 4096) s page n ≡ feed_of None s page n
strict-full s page n = strict-enough 4096 page (omega arith) (omega arith) s n (λ _ f. f)

-- ---- TRUST ONLY WHAT WAS WRITTEN: two pages that agree in the bytes written give the same answer and the same state

module _ (w : ℕ) where
  -- what an effect reads of the page was written
  abbrev Reads : Effect → Type 0
  Reads Nothing = Unit {0}
  Reads (FillJacks n) = 4 + n * size jack_info ≤ w
  Reads (FillStreams n) = 4 + n * size pcm_info ≤ w
  Reads (FillMaps n) = 4 + n * size channel_map ≤ w
  Reads (Store stream to) = Unit {0}
  Reads (Move stream life) = Unit {0}

  reads-own : (call : Call) → Reads (effect_of call)
  reads-own (SetParams stream to) = tt
  reads-own (Command kind stream) = tt
  reads-own (Remap jack association sequence) = tt
  reads-own (Streams direction) = tt
  reads-own (Supported field stream) = tt
  reads-own (Xfer stream) = tt
  reads-own (Capture stream) = tt

  reads-if : (good : Bool) (x : Effect) → (good ≡ true → Reads x) → Reads (pick good x Nothing)
  reads-if true x h = h refl
  reads-if false x h = tt

  good-reads : (page : List ℕ) (g : Stage) (n : Counts) → is_good (verdict_by (Some w) g n page) ≡ true → reads_of g n ≤ w
  good-reads page Idle n h = leb-true _ _ (good-whole (Some w) page 0 0 h).written
  good-reads page (JacksAsked call) n h = leb-true _ _ (good-whole (Some w) page n.jacks (size jack_info) h).written
  good-reads page (StreamsAsked call) n h = leb-true _ _ (good-whole (Some w) page n.streams (size pcm_info) h).written
  good-reads page (MapsAsked call) n h = leb-true _ _ (good-whole (Some w) page n.maps (size channel_map) h).written
  good-reads page (Sent call) n h = leb-true _ _ (good-whole (Some w) page 0 0 h).written

  module _ (page : List ℕ) (c : Core) (look : Look) (long : Bool) where
    v : Verdict
    v = verdict_by (Some w) c.stage c.counts page

    at : (g : Stage) → c.stage ≡ g → is_good v ≡ true → reads_of g c.counts ≤ w
    unfolding v
    at g e h = subst (λ (k : Stage). reads_of k c.counts ≤ w) e (good-reads page c.stage c.counts h)

    reads : {p : Plan} → Answered c v look long p → Reads p.effect
    reads (short _) = tt
    reads (idle _) = tt
    reads (asks-streams {call} _ g) = reads-if (is_good v) (FillJacks c.counts.jacks) (at (JacksAsked call) g)
    reads (asks-maps {call} _ g h) = at (StreamsAsked call) g h
    reads (cuts _ _ _ _ _) = tt
    reads (finishes {call} _ g _) = reads-if (is_good v) (FillMaps c.counts.maps) (at (MapsAsked call) g)
    reads (ends {call} _ _ _) = reads-own call
    reads (fails _ _ _) = tt

module _ (w : ℕ) (p q : List ℕ) (l : length p ≡ length q) (e : bytes_at 0 w p ≡ bytes_at 0 w q) where
  verdict-alike : (g : Stage) (n : Counts) → verdict_by (Some w) g n p ≡ verdict_by (Some w) g n q
  verdict-alike Idle n = judged-alike w p q l e 0 0
  verdict-alike (JacksAsked call) n = judged-alike w p q l e n.jacks (size jack_info)
  verdict-alike (StreamsAsked call) n = judged-alike w p q l e n.streams (size pcm_info)
  verdict-alike (MapsAsked call) n = judged-alike w p q l e n.maps (size channel_map)
  verdict-alike (Sent call) n = judged-alike w p q l e 0 0

  plan-alike : (s : Sound) (n : ℕ) → feed_of (Some w) s p n ≡ feed_of (Some w) s q n
  unfolding feed_of
  plan-alike s n =
      λ i. guard ((l i == page_size && nat_le w page_size) && nat_le message_size n) (refuse_of s.core BadLength)
      (answer_of s.core (verdict-alike s.core.stage s.core.counts i) (pending_look s.core.stage s))

  sound-alike : (x : Effect) (c : Core) (s : Sound) → Reads w x → sound_after x c s p ≡ sound_after x c s q
  sound-alike Nothing c s h = refl
  sound-alike (FillJacks n) c s h = λ i. record { core = c; tables = copied-alike w p q l e jacks_place (size jack_info) n s.tables h i; params = s.params; lives = s.lives; pending = s.pending }
  sound-alike (FillStreams n) c s h = λ i. record { core = c; tables = copied-alike w p q l e pcms_place (size pcm_info) n s.tables h i; params = s.params; lives = s.lives; pending = s.pending }
  sound-alike (FillMaps n) c s h = λ i. record { core = c; tables = copied-alike w p q l e maps_place (size channel_map) n s.tables h i; params = s.params; lives = s.lives; pending = s.pending }
  sound-alike (Store stream to) c s h = refl
  sound-alike (Move stream life) c s h = refl

  pub written-only : (s : Sound) (n : ℕ) → step_of (feed_of (Some w) s p n) s p ≡ step_of (feed_of (Some w) s q n) s q
  unfolding v
  written-only s n =
      let x = feed_of (Some w) s p n in
      let r = reads w p s.core (pending_look s.core.stage s) (long_of (paged (Some w) p n)) (fed s (paged (Some w) p n)) in
      (λ i. record { sound = sound-alike x.effect x.core s r i; reply = (step_of x s p).reply; streams = (step_of x s p).streams })
      ∙ ap (λ (y : Plan). step_of y s q) (plan-alike s n)

-- ---- "for jacks and channel maps 11 means an empty table, elsewhere the state is as after 7"

module _ (s : Sound) (page : List ℕ) (look : Look) where
  -- what an answer leaves of the state
  abbrev leaves : Plan → List ℕ → Sound
  leaves x b = sound_after x.effect x.core s b

  as-failed-at : (g : Stage) (c : Core) → leaves (answer_by g c (Err (fault.Refused Short)) look) page ≡ leaves (answer_by g c (Err (fault.Refused QueueFailed)) look) []
  unfolding after_jacks after_streams after_maps after_sent guard
  as-failed-at Idle c = refl
  as-failed-at (JacksAsked call) c = refl
  as-failed-at (StreamsAsked call) c = refl
  as-failed-at (MapsAsked call) c = refl
  as-failed-at (Sent call) c = refl

  as-failed-by : (b : Bool) (c : Core) (x y : Plan) → leaves x page ≡ leaves y [] → leaves (guard b (refuse_of c InvalidParam) x) page ≡ leaves (guard b (refuse_of c InvalidParam) y) []
  unfolding guard
  as-failed-by true c x y e = e
  as-failed-by false c x y e = refl

  as-failed : (c : Core) → leaves (answer_of c (Err (fault.Refused Short)) look) page ≡ leaves (answer_of c (Err (fault.Refused QueueFailed)) look) []
  unfolding answer_of guard
  as-failed c = as-failed-by (consistent_of c) c _ _ (as-failed-at c.stage c)

pub short-as-failed : (w : Written) (s : Sound) (page : List ℕ) (n : ℕ) → Long (paged w page n) → verdict_by w s.core.stage s.core.counts page ≡ Err (fault.Refused Short)
    → (step_of (feed_of w s page n) s page).sound ≡ (step_of (fail_of s n) s []).sound
unfolding feed_of fail_of
short-as-failed w s page n l e =
    let k = pending_look s.core.stage s in
    let x : answer_of s.core (Err (fault.Refused Short)) k ≡ feed_of w s page n = passes _ _ _ (long_of_lem (paged w page n) l) (ap (λ (y : Verdict). answer_of s.core y k) (sym e)) in
    let y : answer_of s.core (Err (fault.Refused QueueFailed)) k ≡ fail_of s n = passes _ _ _ (le-leb _ _ l.1) refl in
    ap (λ (z : Plan). (step_of z s page).sound) (sym x) ∙ as-failed s page k s.core ∙ ap (λ (z : Plan). (step_of z s []).sound) y

-- ---- 11 EXACTLY WHEN, where it is told: of the streams, and of a request of the call's own (`short-only`, `short-when` say of which pages it is the verdict)

eleven : (r : Refusal) → (says_refusal r).number ≡ 11 → r ≡ Short
eleven refusal.InvalidParam e = absurd (omega arith)
eleven (refusal.IoError c) e = absurd (omega arith)
eleven (refusal.Unsupported c) e = absurd (omega arith)
eleven refusal.NoInfo e = absurd (omega arith)
eleven refusal.TooMany e = absurd (omega arith)
eleven refusal.WrongToken e = absurd (omega arith)
eleven refusal.QueueFailed e = absurd (omega arith)
eleven refusal.Busy e = absurd (omega arith)
eleven refusal.OutOfTurns e = absurd (omega arith)
eleven refusal.BadLength e = absurd (omega arith)
eleven refusal.BadState e = absurd (omega arith)
eleven refusal.Full e = absurd (omega arith)
eleven refusal.NotYet e = absurd (omega arith)
eleven refusal.BadCapture e = absurd (omega arith)
eleven refusal.Short e = refl

-- the number of what is said, 0 where it is no refusal
abbrev number_of : Result Say Refusal → ℕ
number_of (Ok (Send q)) = 0
number_of (Ok (Done v)) = 0
number_of (Err r) = (says_refusal r).number

status-else : (call : Call) (cause : Cause) → (says_refusal (status_refusal call cause)).number ≢ 11
status-else (SetParams stream to) cause e = omega arith
status-else (Command kind stream) cause e = omega arith
status-else (Remap jack association sequence) cause e = omega arith
status-else (Streams direction) cause e = omega arith
status-else (Supported field stream) cause e = omega arith
status-else (Xfer stream) cause e = omega arith
status-else (Capture stream) cause e = omega arith

streams-only : (c : Core) (call : Call) (v : Verdict) → number_of (after_streams c call v).say ≡ 11 → v ≡ Err (fault.Refused Short)
unfolding after_streams guard
streams-only c call (Ok _) e = absurd (omega arith)
streams-only c call (Err (fault.Status word)) e = absurd (omega arith)
streams-only c call (Err (fault.Refused r)) e = ap (λ (x : Refusal). Err (fault.Refused x)) (eleven r e)

sent-only : (c : Core) (call : Call) (v : Verdict) → number_of (after_sent c call v).say ≡ 11 → v ≡ Err (fault.Refused Short)
unfolding after_sent guard
sent-only c call (Ok _) e = absurd (omega arith)
sent-only c call (Err (fault.Status word)) e = absurd (status-else call _ e)
sent-only c call (Err (fault.Refused r)) e = ap (λ (x : Refusal). Err (fault.Refused x)) (eleven r e)

-- an answer to the query of streams, or to a request of the call's own
abbrev pub tells : Stage → Bool
tells Idle = false
tells (JacksAsked call) = false
tells (StreamsAsked call) = true
tells (MapsAsked call) = false
tells (Sent call) = true

-- what is said is 11 exactly where the verdict is
abbrev Exactly : Verdict → Plan → Type 0
Exactly v p = (v ≡ Err (fault.Refused Short) → number_of p.say ≡ 11) × (number_of p.say ≡ 11 → v ≡ Err (fault.Refused Short))

exactly-at : (g : Stage) (c : Core) (v : Verdict) (look : Look) → tells g ≡ true → Exactly v (answer_by g c v look)
unfolding after_streams after_sent guard
exactly-at Idle c v look e = absurd (false≢true e)
exactly-at (JacksAsked call) c v look e = absurd (false≢true e)
exactly-at (StreamsAsked call) c v look e = (λ h. ap (λ (x : Verdict). number_of (after_streams c call x).say) h, streams-only c call v)
exactly-at (MapsAsked call) c v look e = absurd (false≢true e)
exactly-at (Sent call) c v look e = (λ h. ap (λ (x : Verdict). number_of (after_sent c call x).say) h, sent-only c call v)

pub eleven-exactly : (w : Written) (s : Sound) (page : List ℕ) (n : ℕ) → Long (paged w page n) → consistent_of s.core ≡ true → tells s.core.stage ≡ true
    → Exactly (verdict_by w s.core.stage s.core.counts page) (feed_of w s page n)
unfolding feed_of answer_of
eleven-exactly w s page n l k t =
    let v = verdict_by w s.core.stage s.core.counts page in
    let long = long_of_lem (paged w page n) l in
    let look = pending_look s.core.stage s in
    let x : answer_by s.core.stage s.core v look ≡ feed_of w s page n = passes _ _ _ long (passes _ _ _ (ap not (long-verdict s (paged w page n) long).1) (passes _ _ _ k refl)) in
    subst (Exactly v) x (exactly-at s.core.stage s.core v look t)
