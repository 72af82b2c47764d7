-- Theorems: what a refusal leaves.
-- Assumes nothing.
use Rattle.std.specs.Prelude.{◌≡◌, ℕ, Bool, true, false, List, [], ◌∷◌, nat_eq, refl, Err, Ok, Result}
use Rattle.std.proofs.Common.{sym, ap, ap₂, ◌∙◌, subst, inl, inr}
use Rattle.std.proofs.lemmas.Bool.{false≢true}
use Rattle.codes.specs.Says.{pick}
use Rattle.codes.specs.SaysLaws.{guarded-by}
use Rattle.codes.specs.Answers.{says_refusal}
use Rattle.tables.specs.Tables.{judged, is_good, refused_by, says_verdict, maps_place, jacks_in, pcms_in, copied_in}
use Rattle.tables.specs.FillLaws.{maps-leave-jacks, maps-leave-pcms}
use Rattle.exchange.specs.State.{jacks_of, pcms_of}
use Rattle.tables.specs.declared.verdict.Fault.TheVariants as fault
use Rattle.sound_core.specs.State.{none, with_stage}
use Rattle.sound_core.specs.Plan.{cause_of, refusal_of, status_refusal, verdict_by, read_to}
use Rattle.exchange.specs.Tables.{sound_after}
use Rattle.exchange.specs.OwnLaws.{Own, sets, commands, remaps, lists, tells, refuses}
use Rattle.exchange.specs.PlanLaws.{Begun, bars, asks, goes, begun, Failing, long-verdict, Answered, short, idle, asks-streams, asks-maps, cuts, finishes, ends, fails, fed}
use Rattle.sound_core.specs.Reply.{message_after, reply_of}
use Rattle.exchange.specs.Exchange.{step_of, call_of}
use Rattle.exchange.specs.Feed.{Feed, paged, failed, page_of, plan_of, fed_of, verdict_of, long_of, One, own_refusals, asking}
use Rattle.exchange.specs.StayLaws.{own-stays}
use Rattle.exchange.specs.Types.{Written, Cause, Refusal, IoError, Verdict, Track, Call, SetParams, Command, Remap, Streams, Supported, Xfer, Capture, Stage, Idle, MapsAsked, Sent, Core, Sound, Say, Send, Done, Effect, Nothing, FillMaps, Look, Plan}

-- `refusal_of` has the verdict's own number and values (of a remap, a status that is not ok says 3 instead)
pub verdict-says : (v : Verdict) → is_good v ≡ false → says_refusal (refusal_of (IoError (cause_of v)) v) ≡ says_verdict v
verdict-says (Ok _) e = absurd (false≢true (sym e))
verdict-says (Err (fault.Status word)) e = refl
verdict-says (Err (fault.Refused r)) e = refl

-- ---- a reply that refuses

abbrev refuses? : Result Say Refusal → Bool
refuses? (Ok (Send q)) = false
refuses? (Ok (Done v)) = false
refuses? (Err r) = true

said : (a : Result Say Refusal) (r : Refusal) → reply_of a ≡ Err r → refuses? a ≡ true
said (Ok (Send q)) r e = cc
said (Ok (Done v)) r e = cc
said (Err x) r e = refl

said-is : (a : Result Say Refusal) (r : Refusal) → reply_of a ≡ Err r → a ≡ Err r
said-is (Ok (Send q)) r e = absurd (false≢true (said (Ok (Send q)) r e))
said-is (Ok (Done v)) r e = absurd (false≢true (said (Ok (Done v)) r e))
said-is (Err x) r e = let z : x ≡ r = cc in ap Err z

-- "A refused call changes no lent byte"
pub refused-writes-nothing : (a : Result Say Refusal) (r : Refusal) (l : List ℕ) → reply_of a ≡ Err r → message_after a l ≡ l
refused-writes-nothing (Ok (Send q)) r l e = absurd (false≢true (said (Ok (Send q)) r e))
refused-writes-nothing (Ok (Done v)) r l e = refl
refused-writes-nothing (Err x) r l e = refl

-- ---- a call. "unchanged": whatever it is refused with, at once, the state is as it was

own-closed : {c : Core} {look : Look} {call : Call} {p : Plan} → refuses? p.say ≡ true → Own c look call p → p.core ≡ with_stage c Idle
own-closed e (sets _ _ _) = absurd (false≢true e)
own-closed e (commands _ _) = absurd (false≢true e)
own-closed e (remaps _ _ _) = absurd (false≢true e)
own-closed e lists = refl
own-closed e (tells _) = refl
own-closed e (refuses _ _) = refl

unchanged : (s : Sound) {call : Call} {look : Look} {p : Plan} → refuses? p.say ≡ true → Begun s.core call look p → sound_after p.effect p.core s [] ≡ s
unchanged s e (bars x) = refl
unchanged s e (asks _ _ _ _) = absurd (false≢true e)
unchanged s e (goes _ g _ _ o) = ap₂ (λ (x : Effect) (c : Core). sound_after x c s []) (own-stays o).1 (own-closed e o ∙ ap (with_stage s.core) (sym g))

pub refused-unchanged : (s : Sound) (t : Track) (call : Call) (n : ℕ) (r : Refusal) → (step_of (call_of s t call n) s []).reply ≡ Err r → (step_of (call_of s t call n) s []).sound ≡ s
refused-unchanged s t call n r e = unchanged s (said (call_of s t call n).say r e) (begun s t call n)

-- ---- a feed

-- THE TABLE, for a feed: what each refusal leaves
pub data Left (s : Sound) (r : Refusal) : Sound → Type 0 where
  -- 1 "feed with no exchange open", 10 "unchanged; an open exchange stays open"
  same : One (says_refusal r).number (1 ∷ 10 ∷ []) → Left s r s
  -- 2 "control: old parameters", 3 "unchanged", 7 "as for a status not ok": the exchange is closed, and nothing else changed
  closed : {call : Call} → One (says_refusal r).number (2 ∷ 3 ∷ 7 ∷ 11 ∷ []) → s.core.stage ≡ Sent call
      → Left s r (record { core = with_stage s.core Idle; tables = s.tables; params = s.params; lives = s.lives; pending = s.pending })
  -- 2, 7 and 5 "set-up not done": "leaves all three tables empty, and the next call begins it again"
  cut : One (says_refusal r).number (2 ∷ 5 ∷ 7 ∷ 11 ∷ []) → asking s.core.stage ≡ true
      → Left s r (record { core = record { counts = s.core.counts; guard = s.core.guard; read = none; ready = false; stage = Idle }; tables = s.tables; params = s.params; lives = s.lives; pending = s.pending })
  -- 1 "unchanged, but set-up stays done", 2 of a transfer, 3, 4: set-up is done, and the exchange is closed; which channel maps its tables then have, the feed's equation says
  done : {call : Call} (n : ℕ) (tables : List ℕ) → jacks_in tables ≡ jacks_of s → pcms_in tables ≡ pcms_of s → One (says_refusal r).number (own_refusals call) → s.core.stage ≡ MapsAsked call
      → Left s r (record { core = with_stage (read_to s.core s.core.read.jacks s.core.read.streams n true) Idle; tables = tables; params = s.params; lives = s.lives; pending = s.pending })

-- a refusal's number
abbrev barred : Result Say Refusal → ℕ
barred (Ok (Send q)) = 0
barred (Ok (Done v)) = 0
barred (Err r) = (says_refusal r).number

module _ (r : Refusal) where
  numbered : (ns : List ℕ) {a : Result Say Refusal} → a ≡ Err r → One (barred a) ns → One (says_refusal r).number ns
  numbered ns e o = subst (λ (n : ℕ). One n ns) (ap barred e) o

  own-number : {c : Core} {look : Look} {call : Call} {p : Plan} → p.say ≡ Err r → Own c look call p → One (says_refusal r).number (own_refusals call)
  own-number e (sets _ _ _) = absurd (false≢true (ap refuses? e))
  own-number e (commands _ _) = absurd (false≢true (ap refuses? e))
  own-number e (remaps _ _ _) = absurd (false≢true (ap refuses? e))
  own-number e lists = absurd (false≢true (ap refuses? e))
  own-number e (tells _) = absurd (false≢true (ap refuses? e))
  own-number e (refuses {call} x o) = numbered (own_refusals call) e o

-- what a request of the call's own is refused with, by a page of the right length or a failure
status-number : (call : Call) (cause : Cause) → One (says_refusal (status_refusal call cause)).number (2 ∷ 3 ∷ 7 ∷ 11 ∷ [])
status-number (SetParams stream to) cause = inl refl
status-number (Command kind stream) cause = inl refl
status-number (Remap jack association sequence) cause = inr (inl refl)
status-number (Streams direction) cause = inl refl
status-number (Supported field stream) cause = inl refl
status-number (Xfer stream) cause = inl refl
status-number (Capture stream) cause = inl refl

sent-number : (call : Call) (v : Verdict) → Failing v → refused_by 5 v ≡ false → One (says_refusal (refusal_of (status_refusal call (cause_of v)) v)).number (2 ∷ 3 ∷ 7 ∷ 11 ∷ [])
sent-number call (Ok _) a b = status-number call _
sent-number call (Err (fault.Status word)) a b = status-number call _
sent-number call (Err (fault.Refused r)) (inl e) b = absurd (false≢true (sym b ∙ ap (λ (x : Refusal). nat_eq (says_refusal x).number 5) e))
sent-number call (Err (fault.Refused r)) (inr (inl e)) b = inr (inr (inl (ap (λ (x : Refusal). (says_refusal x).number) e)))
sent-number call (Err (fault.Refused r)) (inr (inr e)) b = inr (inr (inr (inl (ap (λ (x : Refusal). (says_refusal x).number) e))))

done-by : (s : Sound) (r : Refusal) {call : Call} (n : ℕ) (page : List ℕ) (good : Bool) (d : Core) → One (says_refusal r).number (own_refusals call)
    → s.core.stage ≡ MapsAsked call → d ≡ with_stage (read_to s.core s.core.read.jacks s.core.read.streams n true) Idle
    → Left s r (sound_after (pick good (FillMaps s.core.counts.maps) Nothing) d s page)
done-by s r n page true d o g e =
    let m = s.core.counts.maps in
    rw e (done n (copied_in maps_place 24 m page s.tables) (maps-leave-jacks m page s.tables) (maps-leave-pcms m page s.tables) o g)
done-by s r n page false d o g e = rw e (done n s.tables refl refl o g)

module _ (s : Sound) (page : List ℕ) (r : Refusal) (v : Verdict) (long : Bool) (w : long ≡ true → Failing v) (few : (call : Call) → s.core.stage ≡ Sent call → refused_by 5 v ≡ false) where
  left : {look : Look} {p : Plan} → p.say ≡ Err r → Answered s.core v look long p → Left s r (sound_after p.effect p.core s page)
  left e (short _) = same (numbered r (1 ∷ 10 ∷ []) e (inr (inl refl)))
  left e (idle _) = same (numbered r (1 ∷ 10 ∷ []) e (inl refl))
  left e (asks-streams _ _) = absurd (false≢true (ap refuses? e))
  left e (asks-maps _ _ _) = absurd (false≢true (ap refuses? e))
  left e (cuts x l k _ a) = cut (numbered r (2 ∷ 5 ∷ 7 ∷ 11 ∷ []) e (k (w l))) a
  left e (finishes {p} _ g o) = done-by s r _ page (is_good v) p.core (own-number r e o) g (own-closed (ap refuses? e) o)
  left e (ends _ _ _) = absurd (false≢true (ap refuses? e))
  left e (fails {call} l _ g) = closed (numbered r (2 ∷ 3 ∷ 7 ∷ 11 ∷ []) e (sent-number call v (w l) (few call g))) g

-- the answer to a request of the call's own holds no records
few-judged : (w : Written) (page : List ℕ) → refused_by 5 (judged w page 0 0) ≡ false
unfolding judged
few-judged w page =
    let P : Verdict → Type 0 = λ (v : Verdict). refused_by 5 v ≡ false in
    guarded-by P _ _ _
    (λ _. guarded-by P _ _ _
    (λ _. guarded-by P _ _ _ (λ _. guarded-by P _ _ _ (λ _. guarded-by P _ _ _ (λ _. refl) (λ _. refl)) (λ f. absurd (false≢true (sym f)))) (λ _. refl)) (λ _. refl))
    (λ _. refl)

few-sent : (s : Sound) (f : Feed) (call : Call) → s.core.stage ≡ Sent call → refused_by 5 (verdict_of s f) ≡ false
few-sent s (paged w bytes n) call g = ap (λ (k : Stage). refused_by 5 (verdict_by w k s.core.counts bytes)) g ∙ few-judged w bytes
few-sent s (failed n) call g = refl

pub refused-feed : (s : Sound) (f : Feed) (r : Refusal) → (fed_of s f).reply ≡ Err r → Left s r (fed_of s f).sound
refused-feed s f r e = left s (page_of f) r (verdict_of s f) (long_of f) (λ l. (long-verdict s f l).0) (few-sent s f) (said-is (plan_of s f).say r e) (fed s f)
