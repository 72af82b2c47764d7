-- What stays, whatever the state is: the configured counts, the guard, set-up that is done, and at a call every table and parameter.
-- Assumes nothing.
use Rattle.std.specs.Prelude.{◌≡◌, ℕ, Bool, true, false, List, refl}
use Rattle.std.proofs.Common.{sym, ap, ◌∙◌}
use Rattle.sound_core.specs.Consistent.{consistent_of}
use Rattle.exchange.specs.ConsistentLaws.{facts, not-ready}
use Rattle.exchange.specs.Tables.{sound_after}
use Rattle.exchange.specs.Exchange.{call_of}
use Rattle.exchange.specs.Feed.{Feed, plan_of, asking}
use Rattle.exchange.specs.OwnLaws.{Own, sets, commands, remaps, lists, tells, refuses}
use Rattle.exchange.specs.PlanLaws.{Begun, bars, asks, goes, begun, Answered, short, idle, asks-streams, asks-maps, cuts, finishes, ends, fails, fed}
use Rattle.exchange.specs.Types.{Verdict, Track, Call, Core, Sound, Effect, Nothing, FillJacks, FillStreams, FillMaps, Store, Move, Look, Plan}

pub record Stays (c : Core) (p : Plan) : Type 0 where
  pub counts : p.core.counts ≡ c.counts
  pub guard : p.core.guard ≡ c.guard
  pub ready : c.ready ≡ true → p.core.ready ≡ true

pub own-stays : {c : Core} {look : Look} {call : Call} {p : Plan} → Own c look call p → Stays c p × (p.effect ≡ Nothing)
own-stays (sets _ _ _) = (record { counts = refl; guard = refl; ready = λ r. r }, refl)
own-stays (commands _ _) = (record { counts = refl; guard = refl; ready = λ r. r }, refl)
own-stays (remaps _ _ _) = (record { counts = refl; guard = refl; ready = λ r. r }, refl)
own-stays lists = (record { counts = refl; guard = refl; ready = λ r. r }, refl)
own-stays (tells _) = (record { counts = refl; guard = refl; ready = λ r. r }, refl)
own-stays (refuses _ _) = (record { counts = refl; guard = refl; ready = λ r. r }, refl)

pub begun-stays : {c : Core} {call : Call} {look : Look} {p : Plan} → Begun c call look p → Stays c p × (p.effect ≡ Nothing)
begun-stays (bars _) = (record { counts = refl; guard = refl; ready = λ r. r }, refl)
begun-stays (asks _ _ _ _) = (record { counts = refl; guard = refl; ready = λ r. r }, refl)
begun-stays (goes _ _ _ _ o) = own-stays o

-- while a query of set-up is out, set-up is not done
late : (c : Core) → consistent_of c ≡ true → asking c.stage ≡ true → c.ready ≡ true → false ≡ true
late c e a r = sym (not-ready c c.stage (facts c e) a) ∙ r

answered-stays : {c : Core} {v : Verdict} {look : Look} {long : Bool} {p : Plan} → Answered c v look long p → Stays c p
answered-stays (short _) = record { counts = refl; guard = refl; ready = λ r. r }
answered-stays (idle _) = record { counts = refl; guard = refl; ready = λ r. r }
answered-stays {c} (asks-streams e g) = record { counts = refl; guard = refl; ready = late c e (ap asking g) }
answered-stays {c} (asks-maps e g _) = record { counts = refl; guard = refl; ready = late c e (ap asking g) }
answered-stays {c} (cuts _ _ _ e a) = record { counts = refl; guard = refl; ready = late c e a }
answered-stays (finishes _ _ o) = let s = (own-stays o).0 in record { counts = s.counts; guard = s.guard; ready = λ _. s.ready refl }
answered-stays (ends _ _ _) = record { counts = refl; guard = refl; ready = λ r. r }
answered-stays (fails _ _ _) = record { counts = refl; guard = refl; ready = λ r. r }

pub called-stays : (s : Sound) (t : Track) (call : Call) (n : ℕ) → Stays s.core (call_of s t call n)
called-stays s t call n = (begun-stays (begun s t call n)).0

pub called-quiet : (s : Sound) (t : Track) (call : Call) (n : ℕ) → (call_of s t call n).effect ≡ Nothing
called-quiet s t call n = (begun-stays (begun s t call n)).1

pub fed-stays : (s : Sound) (f : Feed) → Stays s.core (plan_of s f)
fed-stays s f = answered-stays (fed s f)

-- an effect leaves the core to the plan
pub after-core : (x : Effect) (c : Core) (s : Sound) (page : List ℕ) → (sound_after x c s page).core ≡ c
after-core Nothing c s page = refl
after-core (FillJacks n) c s page = refl
after-core (FillStreams n) c s page = refl
after-core (FillMaps n) c s page = refl
after-core (Store stream to) c s page = refl
after-core (Move stream life) c s page = refl
