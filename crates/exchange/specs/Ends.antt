-- Theorems: every call ends. A call and any feeds send at most 4 requests, and 4 feeds of the right lengths close any exchange.
-- Assumes nothing.
use Rattle.std.specs.Prelude.{◌≡◌, ℕ, ◌+◌, ◌-◌, ◌≤◌, Bool, true, List, [], ◌∷◌, length, refl, Result, Ok, Err}
use Rattle.std.proofs.Common.{sym, ap, ◌∙◌, arith}
use Rattle.std.proofs.lemmas.Bool.{false≢true}
use Rattle.sound_core.specs.Consistent.{consistent_of}
use Rattle.exchange.specs.OwnLaws.{Own, sets, commands, remaps, lists, tells, refuses}
use Rattle.exchange.specs.PlanLaws.{Begun, bars, asks, goes, begun, Answered, short, idle, asks-streams, asks-maps, cuts, finishes, ends, fails, fed, long_of_lem}
use Rattle.sound_core.specs.Reply.{reply_of}
use Rattle.exchange.specs.Exchange.{step_of, call_of}
use Rattle.exchange.specs.Kept.{Kept}
use Rattle.exchange.specs.KeptLaws.{feed-kept}
use Rattle.exchange.specs.Feed.{Feed, page_of, plan_of, fed_of, long_of, Long}
use Rattle.exchange.specs.StayLaws.{after-core}
use Rattle.exchange.specs.Types.{Refusal, Verdict, Track, Call, Stage, Idle, JacksAsked, StreamsAsked, MapsAsked, Sent, Core, Sound, Look, Plan, Reply}
use Rattle.sound_core.specs.declared.reply.Reply.TheVariants as reply

-- ---- a run of feeds

-- 1 for a request, 0 for a result
abbrev pub asked : Result Reply Refusal → ℕ
asked (Ok (reply.Send n)) = 1
asked (Ok (reply.Done v)) = 0
asked (Err r) = 0

-- the requests of a run, whatever its feeds are
unfoldable pub requests : Sound → List Feed → ℕ
requests s [] = 0
requests s (f ∷ fs) = asked (fed_of s f).reply + requests (fed_of s f).sound fs

-- the state after a run
unfoldable pub after : Sound → List Feed → Sound
after s [] = s
after s (f ∷ fs) = after (fed_of s f).sound fs

-- feeds that 10 does not refuse
abbrev pub AllLong : List Feed → Type 0
AllLong [] = Unit {0}
AllLong (f ∷ fs) = Long f × AllLong fs

-- ---- THE MEASURE: the answers still to come

abbrev pub waits : Stage → ℕ
waits Idle = 0
waits (JacksAsked call) = 4
waits (StreamsAsked call) = 3
waits (MapsAsked call) = 2
waits (Sent call) = 1

at-most-4 : (g : Stage) → waits g ≤ 4
at-most-4 Idle = omega arith
at-most-4 (JacksAsked call) = omega arith
at-most-4 (StreamsAsked call) = omega arith
at-most-4 (MapsAsked call) = omega arith
at-most-4 (Sent call) = omega arith

none_left : (g : Stage) → waits g ≤ 0 → g ≡ Idle
none_left Idle h = refl
none_left (JacksAsked call) h = absurd (omega arith)
none_left (StreamsAsked call) h = absurd (omega arith)
none_left (MapsAsked call) h = absurd (omega arith)
none_left (Sent call) h = absurd (omega arith)

-- a call's own part sends at most one, and then waits for its answer alone
own-asks : {c : Core} {look : Look} {call : Call} {p : Plan} → Own c look call p → (asked (reply_of p.say) ≤ 1) × (waits p.core.stage ≤ 1)
own-asks (sets _ _ _) = (omega arith, omega arith)
own-asks (commands _ _) = (omega arith, omega arith)
own-asks (remaps _ _ _) = (omega arith, omega arith)
own-asks lists = (omega arith, omega arith)
own-asks (tells _) = (omega arith, omega arith)
own-asks (refuses _ _) = (omega arith, omega arith)

-- what falls with an answer: each request is paid for, and an answer of the right lengths to a consistent state is one less to come
pub record Falls (c : Core) (long : Bool) (p : Plan) : Type 0 where
  pub paid : asked (reply_of p.say) + (waits p.core.stage - 1) ≤ waits c.stage - 1
  pub less : long ≡ true → consistent_of c ≡ true → waits p.core.stage ≤ waits c.stage - 1

falls : {c : Core} {v : Verdict} {look : Look} {long : Bool} {p : Plan} → Answered c v look long p → Falls c long p
falls (short l) = record { paid = omega arith; less = λ t. absurd (false≢true (sym l ∙ t)) }
falls (idle g) = record { paid = omega arith; less = λ _ e. let w = ap waits (g e) in omega arith }
falls (asks-streams _ g) = let w = ap waits g in record { paid = omega arith; less = λ _ _. omega arith }
falls (asks-maps _ g _) = let w = ap waits g in record { paid = omega arith; less = λ _ _. omega arith }
falls (cuts _ _ _ _ _) = record { paid = omega arith; less = λ _ _. omega arith }
falls (finishes _ g o) = let w = ap waits g in let h = own-asks o in record { paid = omega arith; less = λ _ _. omega arith }
falls (ends _ _ _) = record { paid = omega arith; less = λ _ _. omega arith }
falls (fails _ _ _) = record { paid = omega arith; less = λ _ _. omega arith }

fed-falls : (s : Sound) (f : Feed) → (asked (fed_of s f).reply + (waits (fed_of s f).sound.core.stage - 1) ≤ waits s.core.stage - 1) × (long_of f ≡ true → consistent_of s.core ≡ true → waits (fed_of s f).sound.core.stage ≤ waits s.core.stage - 1)
fed-falls s f =
    let p = plan_of s f in
    let a = falls (fed s f) in
    rw (after-core p.effect p.core s (page_of f)) (a.paid, a.less)

bounded : (s : Sound) (fs : List Feed) → requests s fs ≤ waits s.core.stage - 1
unfolding requests
bounded s [] = omega arith
bounded s (f ∷ fs) = omega (arith, (fed-falls s f).0, bounded (fed_of s f).sound fs)

begun-paid : {c : Core} {call : Call} {look : Look} {p : Plan} → Begun c call look p → asked (reply_of p.say) + (waits p.core.stage - 1) ≤ 4
begun-paid {c} (bars _) = omega (arith, at-most-4 c.stage)
begun-paid (asks _ _ _ _) = omega arith
begun-paid (goes _ _ _ _ o) = let h = own-asks o in omega arith

-- ---- THE THEOREMS. Demand 1: "Every call ends on every input."

-- a call and any feeds, in any state: at most four requests go out, set-up's three and its own
pub ends-in-four : (s : Sound) (t : Track) (call : Call) (n : ℕ) (fs : List Feed) →
    asked (step_of (call_of s t call n) s []).reply + requests (step_of (call_of s t call n) s []).sound fs ≤ 4
ends-in-four s t call n fs =
    let p = call_of s t call n in
    let b = begun-paid (begun s t call n) in
    let a : asked (step_of p s []).reply + (waits (step_of p s []).sound.core.stage - 1) ≤ 4 = rw (after-core p.effect p.core s []) b in
    omega (arith, a, bounded (step_of p s []).sound fs)

-- whatever was sent before, as by the start of a transfer: any feeds send at most three more
pub three-more : (s : Sound) (fs : List Feed) → requests s fs ≤ 3
three-more s fs = omega (arith, bounded s fs, at-most-4 s.core.stage)

closes : (s : Sound) (fs : List Feed) → Kept s → AllLong fs → waits s.core.stage ≤ length fs → (after s fs).core.stage ≡ Idle
unfolding after
closes s [] k l h = none_left s.core.stage h
closes s (f ∷ fs) k l h = closes (fed_of s f).sound fs (feed-kept s f k) l.1 (omega (arith, (fed-falls s f).1 (long_of_lem f l.0) k.consistent, h))

-- four feeds that 10 does not refuse close any exchange: a result has come
pub closed-in-four : (s : Sound) (fs : List Feed) → Kept s → AllLong fs → 4 ≤ length fs → (after s fs).core.stage ≡ Idle
closed-in-four s fs k l h = closes s fs k l (omega (arith, at-most-4 s.core.stage, h))
