-- What a call and an answer can lead to: every theorem on plans goes by these cases.
-- Assumes nothing.
use Rattle.std.specs.Prelude.{◌≡◌, ℕ, Bool, true, false, not, ◌&&◌, ◌⊎◌, List, [], ◌∷◌, nat_le, Err, Ok}
use Rattle.std.proofs.Math.Path.{refl, ap}
use Rattle.std.proofs.Common.{sym, ◌∙◌, inl, le-leb}
use Rattle.std.proofs.lemmas.Bool.{false≢true}
use Rattle.std.proofs.Math.Logic.{inr}
use Rattle.layout.specs.Lent.{message_size}
use Rattle.codes.specs.Says.{pick, guard}
use Rattle.codes.specs.SaysLaws.{guarded-by}
use Rattle.codes.specs.Answers.{says_refusal}
use Rattle.tables.specs.Tables.{judged, is_good, refused_by, page_ok}
use Rattle.tables.specs.declared.verdict.Fault.TheVariants as fault
use Rattle.turns.specs.Calls.{idle_of}
use Rattle.turns.specs.Consistent as ring
use Rattle.turns.specs.ConsistentLaws.{both}
use Rattle.sound_core.specs.Consistent.{call_ok, consistent_of}
use Rattle.sound_core.specs.Plan.{send_of, end_of, refusing, status_refusal, refuse_of, cut_short_of, query_of, own_of, is_idle, begin_of, cause_of, refusal_of, after_jacks, after_streams, after_maps, effect_of, after_sent, answer_by, answer_of, verdict_by, read_to}
use Rattle.exchange.specs.Tables.{look_of, pending_look}
use Rattle.exchange.specs.Exchange.{call_of, feed_of, fail_of}
use Rattle.exchange.specs.ConsistentLaws.{both_of}
use Rattle.exchange.specs.Feed.{Feed, paged, failed, plan_of, verdict_of, long_of, Long, One, asking}
use Rattle.sound_core.specs.declared.plan.Value.TheVariants as value
use Rattle.exchange.specs.Types.{Written, Short, Refusal, InvalidParam, IoError, TooMany, QueueFailed, Busy, BadLength, Verdict, Track, Counts, Call, Stage, Idle, JacksAsked, StreamsAsked, MapsAsked, Sent, Core, Sound, Look, Done, Nothing, FillJacks, FillStreams, FillMaps, Plan}
use Rattle.exchange.specs.OwnLaws.{picked-by, Own, own}

-- ---- a call: refused with nothing changed, the first query of set-up, or its own part

pub data Begun (c : Core) (call : Call) (look : Look) : Plan → Type 0 where
  bars : (r : Refusal) → Begun c call look (refuse_of c r)
  asks : consistent_of c ≡ true → c.stage ≡ Idle → c.ready ≡ false → call_ok call ≡ true → Begun c call look (send_of c (JacksAsked call) (query_of 0x0001 c.counts.jacks 24) Nothing)
  goes : {p : Plan} → consistent_of c ≡ true → c.stage ≡ Idle → c.ready ≡ true → call_ok call ≡ true → Own c look call p → Begun c call look p

pub idle-is : (g : Stage) → is_idle g ≡ true → g ≡ Idle
idle-is Idle e = refl
idle-is (JacksAsked call) e = absurd (false≢true e)
idle-is (StreamsAsked call) e = absurd (false≢true e)
idle-is (MapsAsked call) e = absurd (false≢true e)
idle-is (Sent call) e = absurd (false≢true e)

pub begun : (s : Sound) (t : Track) (call : Call) (n : ℕ) → Begun s.core call (look_of s call) (call_of s t call n)
unfolding call_of begin_of
begun s t call n =
    let c = s.core in
    let look = look_of s call in
    let P : Plan → Type 0 = Begun c call look in
    guarded-by P _ _ _
    (λ _. guarded-by P _ _ _
    (λ ok. guarded-by P _ _ _
    (λ free. guarded-by P _ _ _
    (λ fine.
    let e = (both (consistent_of c) (ring.consistent_of t) ok).0 in
    let g = idle-is c.stage (both (is_idle c.stage) (idle_of t) free).0 in
    picked-by P c.ready (own_of c call look) (send_of c (JacksAsked call) (query_of 0x0001 c.counts.jacks 24) Nothing)
    (λ r. goes e g r fine (own c look call)) (λ r. asks e g r fine))
    (λ _. bars InvalidParam))
    (λ _. bars Busy))
    (λ _. bars InvalidParam))
    (λ _. bars BadLength)

-- ---- an answer with its verdict; `long` tells whether what is lent has its length

abbrev pub counted : Verdict → ℕ → ℕ
counted v n = pick (is_good v) n 0

-- a verdict that set-up may be cut short by, or a request of the call's own refused: a status not ok, 5 where a table was asked for, the queue's 7, or 11 for what was not written
abbrev pub Failing : Verdict → Type 0
Failing (Ok _) = Unit {0}
Failing (Err (fault.Status word)) = Unit {0}
Failing (Err (fault.Refused r)) = (r ≡ TooMany) ⊎ ((r ≡ QueueFailed) ⊎ (r ≡ Short))

-- with what set-up is cut short
abbrev pub Cut : Verdict → Refusal → Type 0
Cut v r = Failing v → One (says_refusal r).number (2 ∷ 5 ∷ 7 ∷ 11 ∷ [])

cut_by : (v : Verdict) → Cut v (refusal_of (IoError (cause_of v)) v)
cut_by (Ok _) l = inl refl
cut_by (Err (fault.Status word)) l = inl refl
cut_by (Err (fault.Refused r)) (inl e) = inr (inl (ap (λ (x : Refusal). (says_refusal x).number) e))
cut_by (Err (fault.Refused r)) (inr (inl e)) = inr (inr (inl (ap (λ (x : Refusal). (says_refusal x).number) e)))
cut_by (Err (fault.Refused r)) (inr (inr e)) = inr (inr (inr (inl (ap (λ (x : Refusal). (says_refusal x).number) e))))

pub data Answered (c : Core) (v : Verdict) (look : Look) (long : Bool) : Plan → Type 0 where
  short : long ≡ false → Answered c v look long (refuse_of c BadLength)
  idle : (consistent_of c ≡ true → c.stage ≡ Idle) → Answered c v look long (refuse_of c InvalidParam)
  asks-streams : {call : Call} → consistent_of c ≡ true → c.stage ≡ JacksAsked call
      → Answered c v look long (send_of (read_to c (counted v c.counts.jacks) 0 0 false) (StreamsAsked call) (query_of 0x0100 c.counts.streams 32) (pick (is_good v) (FillJacks c.counts.jacks) Nothing))
  asks-maps : {call : Call} → consistent_of c ≡ true → c.stage ≡ StreamsAsked call → is_good v ≡ true
      → Answered c v look long (send_of (read_to c c.read.jacks c.counts.streams 0 false) (MapsAsked call) (query_of 0x0200 c.counts.maps 24) (FillStreams c.counts.streams))
  cuts : (r : Refusal) → long ≡ true → Cut v r → consistent_of c ≡ true → asking c.stage ≡ true → Answered c v look long (cut_short_of c r)
  finishes : {call : Call} {p : Plan} → consistent_of c ≡ true → c.stage ≡ MapsAsked call
      → Own (read_to c c.read.jacks c.read.streams (counted v c.counts.maps) true) look call p
      → Answered c v look long (record { core = p.core; say = p.say; effect = pick (is_good v) (FillMaps c.counts.maps) Nothing })
  ends : {call : Call} → consistent_of c ≡ true → c.stage ≡ Sent call → is_good v ≡ true → Answered c v look long (end_of c (Ok (Done value.Nothing)) (effect_of call))
  fails : {call : Call} → long ≡ true → consistent_of c ≡ true → c.stage ≡ Sent call → Answered c v look long (refusing c (refusal_of (status_refusal call (cause_of v)) v))

module _ (c : Core) (v : Verdict) (look : Look) (long : Bool) where
  abbrev P : Plan → Type 0
  P = Answered c v look long

  answered-at : long ≡ true → (g : Stage) → c.stage ≡ g → consistent_of c ≡ true → P (answer_by g c v look)
  unfolding after_jacks after_streams after_maps after_sent
  answered-at l Idle p e = idle (λ _. p)
  answered-at l (JacksAsked call) p e = guarded-by P _ _ _ (λ _. asks-streams e p) (λ _. cuts TooMany l (λ _. inr (inl refl)) e (ap asking p))
  answered-at l (StreamsAsked call) p e = guarded-by P _ _ _ (λ g. asks-maps e p g) (λ _. cuts (refusal_of (IoError (cause_of v)) v) l (cut_by v) e (ap asking p))
  answered-at l (MapsAsked call) p e =
      let d = read_to c c.read.jacks c.read.streams (counted v c.counts.maps) true in
      guarded-by P _ _ _ (λ _. finishes e p (own d look call)) (λ _. cuts TooMany l (λ _. inr (inl refl)) e (ap asking p))
  answered-at l (Sent call) p e = guarded-by P _ _ _ (λ g. ends e p g) (λ _. fails l e p)

  answered : (long ≡ true → refused_by 10 v ≡ false) → P (guard long (refuse_of c BadLength) (answer_of c v look))
  unfolding answer_of
  answered w =
      guarded-by P _ _ _
      (λ l. guarded-by P _ _ _
      (λ _. guarded-by P _ _ _ (λ e. answered-at l c.stage refl e) (λ f. idle (λ e. absurd (false≢true (sym f ∙ e)))))
      (λ f. absurd (false≢true (sym f ∙ ap not (w l)))))
      (λ s. short s)

-- ---- what is long has no verdict of its length

long-judged : (w : Written) (page : List ℕ) (n size : ℕ) → page_ok w page ≡ true → Failing (judged w page n size) × (refused_by 10 (judged w page n size) ≡ false)
unfolding judged
long-judged w page n size l =
    let P : Verdict → Type 0 = λ (v : Verdict). Failing v × (refused_by 10 v ≡ false) in
    guarded-by P _ _ _
    (λ _. guarded-by P _ _ _
    (λ _. guarded-by P _ _ _ (λ _. guarded-by P _ _ _ (λ _. guarded-by P _ _ _ (λ _. (tt, refl)) (λ _. (inr (inr refl), refl))) (λ _. (inl refl, refl))) (λ _. (tt, refl)))
    (λ _. (inr (inr refl), refl)))
    (λ f. absurd (false≢true (sym f ∙ l)))

long-by : (w : Written) (g : Stage) (n : Counts) (page : List ℕ) → page_ok w page ≡ true → Failing (verdict_by w g n page) × (refused_by 10 (verdict_by w g n page) ≡ false)
long-by w Idle n page l = long-judged w page 0 0 l
long-by w (JacksAsked call) n page l = long-judged w page n.jacks 24 l
long-by w (StreamsAsked call) n page l = long-judged w page n.streams 32 l
long-by w (MapsAsked call) n page l = long-judged w page n.maps 24 l
long-by w (Sent call) n page l = long-judged w page 0 0 l

pub long-verdict : (s : Sound) (f : Feed) → long_of f ≡ true → Failing (verdict_of s f) × (refused_by 10 (verdict_of s f) ≡ false)
long-verdict s (paged w bytes n) l = long-by w s.core.stage s.core.counts bytes (both (page_ok w bytes) (nat_le message_size n) l).0
long-verdict s (failed n) l = (inr (inl refl), refl)

pub fed : (s : Sound) (f : Feed) → Answered s.core (verdict_of s f) (pending_look s.core.stage s) (long_of f) (plan_of s f)
unfolding feed_of fail_of
fed s (paged w bytes n) = answered s.core (verdict_by w s.core.stage s.core.counts bytes) (pending_look s.core.stage s) (page_ok w bytes && nat_le message_size n) (λ l. (long-verdict s (paged w bytes n) l).1)
fed s (failed n) = answered s.core (Err (fault.Refused QueueFailed)) (pending_look s.core.stage s) (nat_le message_size n) (λ l. refl)

pub long_of_lem : (f : Feed) → Long f → long_of f ≡ true
long_of_lem (paged w bytes n) l = both_of (page_ok w bytes) (nat_le message_size n) l.0 (le-leb _ _ l.1)
long_of_lem (failed n) l = le-leb _ _ l
