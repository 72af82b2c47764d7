-- A result, or a request that is no query, comes of the call's own part.
-- Assumes nothing.
use Rattle.std.specs.Prelude.{◌≡◌, ℕ, Bool, true, false, ◌≢◌, refl, Result, Ok, Err}
use Rattle.std.proofs.Common.{subst, arith}
use Rattle.std.proofs.lemmas.Bool.{false≢true}
use Rattle.exchange.specs.OwnLaws.{Own}
use Rattle.exchange.specs.PlanLaws.{Begun, bars, asks, goes, Answered, short, idle, asks-streams, asks-maps, cuts, finishes, ends, fails}
use Rattle.sound_core.specs.declared.plan.Request.TheVariants as request
use Rattle.sound_core.specs.declared.plan.Value.TheVariants as value
use Rattle.exchange.specs.Types.{Refusal, Verdict, Said, Call, MapsAsked, Sent, Core, Say, Send, Done, Look, Plan, Says}

pub wrong : ◌≡◌ {A = ℕ} 0 1 → ⊥
wrong e = omega arith

pub says-said : {a b : Said} → Says a ≡ Says b → a ≡ b
says-said e = cc

pub recall : {c : Core} {look : Look} {a b : Call} {p : Plan} → a ≡ b → Own c look a p → Own c look b p
recall {c} {look} {p} e o = subst (λ (k : Call). Own c look k p) e o

abbrev pub own? : Result Say Refusal → Bool
own? (Ok (Send (request.Query q))) = false
own? (Ok (Send (request.Remap q))) = true
own? (Ok (Send (request.Command q))) = true
own? (Ok (Send (request.Set q))) = true
own? (Ok (Done v)) = true
own? (Err r) = false

pub begun-own : {c : Core} {call : Call} {look : Look} {p : Plan} → own? p.say ≡ true → Begun c call look p → (c.ready ≡ true) × Own c look call p
begun-own e (bars _) = absurd (false≢true e)
begun-own e (asks _ _ _ _) = absurd (false≢true e)
begun-own e (goes _ _ r _ o) = (r, o)

-- at a feed: the call waited for the channel maps, and its own part is over the core whose set-up is done
pub record Finished (c : Core) (look : Look) (p : Plan) : Type 0 where
  pub call : Call
  pub waited : c.stage ≡ MapsAsked call
  pub from : Core
  pub ready : from.ready ≡ true
  pub counts : from.counts ≡ c.counts
  pub jacks : from.read.jacks ≡ c.read.jacks
  pub plan : Plan
  pub own : Own from look call plan
  pub core : p.core ≡ plan.core
  pub say : p.say ≡ plan.say

pub answered-own : {c : Core} {v : Verdict} {look : Look} {long : Bool} {p : Plan} → own? p.say ≡ true → ((call : Call) → c.stage ≡ Sent call → p.say ≢ Ok (Done value.Nothing))
    → Answered c v look long p → Finished c look p
answered-own e h (short _) = absurd (false≢true e)
answered-own e h (idle _) = absurd (false≢true e)
answered-own e h (asks-streams _ _) = absurd (false≢true e)
answered-own e h (asks-maps _ _ _) = absurd (false≢true e)
answered-own e h (cuts _ _ _ _ _) = absurd (false≢true e)
answered-own e h (finishes {call} {p} _ g o) = record { call = call; waited = g; from = _; ready = refl; counts = refl; jacks = refl; plan = p; own = o; core = refl; say = refl }
answered-own e h (ends {call} _ g _) = absurd (h call g refl)
answered-own e h (fails _ _ _) = absurd (false≢true e)
