-- Theorems: parameters can only be set after set-up, so a transfer that had to begin set-up never runs, a capture or a playback.
-- Assumes nothing.
use Rattle.std.specs.Prelude.{◌≡◌, ℕ, Bool, true, false, List, [], ◌∷◌, refl, Result, Ok, Err}
use Rattle.std.proofs.Common.{sym, ap, ◌∙◌, inl, inr}
use Rattle.std.proofs.lemmas.Bool.{false≢true}
use Rattle.codes.specs.Answers.{says_refusal}
use Rattle.codes.specs.Life.{takes_of}
use Rattle.exchange.specs.State.{params_of, life_of}
use Rattle.exchange.specs.ConsistentLaws.{facts, not-ready}
use Rattle.sound_core.specs.Consistent.{consistent_of}
use Rattle.exchange.specs.OwnLaws.{Own, refuses}
use Rattle.exchange.specs.PlanLaws.{Failing, long-verdict, long_of_lem, Answered, short, idle, asks-streams, asks-maps, cuts, finishes, ends, fails, fed}
use Rattle.sound_core.specs.Reply.{reply_of}
use Rattle.exchange.specs.Exchange.{step_of}
use Rattle.exchange.specs.Xfer.{waiting_as, start_of, start_traced_of, xfer_of, capture_of}
use Rattle.exchange.specs.Kept.{Kept}
use Rattle.exchange.specs.XferLaws.{start-by, script-by, traced-by, capture-by}
use Rattle.exchange.specs.StayLaws.{after-core}
use Rattle.exchange.specs.ResultLaws.{wrong, recall}
use Rattle.exchange.specs.Feed.{Feed, page_of, plan_of, fed_of, verdict_of, long_of, Long, One, asking, call_at}
use Rattle.sound_core.specs.declared.reply.Reply.TheVariants as reply
use Rattle.exchange.specs.declared.xfer.XferReply.TheVariants as xfer
use Rattle.exchange.specs.Types.{Refusal, Verdict, Ring, Stage, Idle, Core, Sound, Look, Plan, Reply, XferStep}

-- a transfer of a stream waits for set-up
pub record Pending (capture : Bool) (g : Stage) (stream : ℕ) : Type 0 where
  pub asks : asking g ≡ true
  pub call : call_at g ≡ waiting_as capture stream

-- how a feed then ends: with the next query of set-up, and the transfer still waits; or with 1, 2, 5, 7, 11 or 12, and the exchange is closed
pub data Unrun (capture : Bool) (stream : ℕ) : Result Reply Refusal → Stage → Type 0 where
  on : {n : ℕ} {g : Stage} → Pending capture g stream → Unrun capture stream (Ok (reply.Send n)) g
  over : (r : Refusal) → One (says_refusal r).number (1 ∷ 2 ∷ 5 ∷ 7 ∷ 11 ∷ 12 ∷ []) → Unrun capture stream (Err r) Idle

own-among : {n : ℕ} → One n (1 ∷ 2 ∷ 12 ∷ []) → One n (1 ∷ 2 ∷ 5 ∷ 7 ∷ 11 ∷ 12 ∷ [])
own-among (inl e) = inl e
own-among (inr (inl e)) = inr (inl e)
own-among (inr (inr (inl e))) = inr (inr (inr (inr (inr (inl e)))))
own-among (inr (inr (inr z))) = absurd z

own-unrun : (capture : Bool) {c : Core} {look : Look} {stream : ℕ} {p : Plan} → Own c look (waiting_as capture stream) p → Unrun capture stream (reply_of p.say) p.core.stage
own-unrun true (refuses r o) = over r (own-among o)
own-unrun false (refuses r o) = over r (own-among o)

-- what cuts set-up short is among them
cut-among : {n : ℕ} → One n (2 ∷ 5 ∷ 7 ∷ 11 ∷ []) → One n (2 ∷ 5 ∷ 7 ∷ 11 ∷ 12 ∷ [])
cut-among (inl e) = inl e
cut-among (inr (inl e)) = inr (inl e)
cut-among (inr (inr (inl e))) = inr (inr (inl e))
cut-among (inr (inr (inr (inl e)))) = inr (inr (inr (inl e)))
cut-among (inr (inr (inr (inr z)))) = absurd z

never : {A : Type 0} {capture : Bool} {g h : Stage} {stream : ℕ} → Pending capture g stream → g ≡ h → asking h ≡ false → A
never q e f = absurd (false≢true (sym f ∙ sym (ap asking e) ∙ q.asks))

module _ (c : Core) (v : Verdict) (look : Look) (long capture : Bool) (stream : ℕ) (e : consistent_of c ≡ true) (l : long ≡ true) (w : Failing v) (q : Pending capture c.stage stream) where
  unrun : {p : Plan} → Answered c v look long p → Unrun capture stream (reply_of p.say) p.core.stage
  unrun (short f) = absurd (false≢true (sym f ∙ l))
  unrun (idle g) = never q (g e) refl
  unrun (asks-streams _ g) = on (record { asks = refl; call = sym (ap call_at g) ∙ q.call })
  unrun (asks-maps _ g _) = on (record { asks = refl; call = sym (ap call_at g) ∙ q.call })
  unrun (cuts r _ k _ _) = over r (inr (cut-among (k w)))
  unrun (finishes _ g o) = own-unrun capture (recall (sym (ap call_at g) ∙ q.call) o)
  unrun (ends _ g _) = never q g refl
  unrun (fails _ _ g) = never q g refl

step-unrun : (capture : Bool) (s : Sound) (p : Plan) (page : List ℕ) (stream : ℕ) → Unrun capture stream (reply_of p.say) p.core.stage
    → Unrun capture stream (step_of p s page).reply (step_of p s page).sound.core.stage
step-unrun capture s p page stream u = rw (after-core p.effect p.core s page) u

-- ---- THE THEOREMS. "Checks: Busy (8), set-up, stream range (1), parameters set (2)."

-- a start, or a transfer over a script, sends something only as the first query of set-up, and then waits for it
module _ (s : Sound) (r : Ring) (stream len budget n m : ℕ) where
  abbrev pub AsksAs : Bool → XferStep → Type 0
  AsksAs capture x = x.reply ≡ xfer.Send m → Pending capture x.sound.core.stage stream

  abbrev pub Asks : XferStep → Type 0
  Asks = AsksAs false

  pub start-asks : Asks (start_of s r stream len budget n)
  start-asks = start-by Asks s r stream len budget n (λ _ e. absurd (wrong (cc))) (λ _ _ _ _. record { asks = refl; call = refl }) (λ e. absurd (wrong (cc)))

  pub script-asks : (script : List ℕ) → Asks (xfer_of s r stream len budget script n)
  script-asks script = script-by Asks s r stream len budget n (λ _ e. absurd (wrong (cc))) (λ _ _ _ _. record { asks = refl; call = refl }) script (λ e. absurd (wrong (cc)))

  pub traced-asks : (room : ℕ) → Asks (start_traced_of s r stream len budget room n)
  traced-asks room = traced-by Asks s r stream len budget room n (λ _ e. absurd (wrong (cc))) (λ _ _ _ _. record { asks = refl; call = refl }) (λ _ e. absurd (wrong (cc)))

  -- and so does a start of a capture
  pub capture-asks : (periods : ℕ) → AsksAs true (capture_of s r stream periods len budget n)
  capture-asks periods = capture-by (AsksAs true) s r stream periods len budget n (λ _ e. absurd (wrong (cc))) (λ _ _ _ _. record { asks = refl; call = refl }) (λ _ e. absurd (wrong (cc)))

-- it ends at a feed with 1, 2, 5, 7, 11 or 12, and never runs
pub xfer-after-setup-never-runs : (capture : Bool) (s : Sound) (f : Feed) (stream : ℕ) → Kept s → Long f → Pending capture s.core.stage stream → Unrun capture stream (fed_of s f).reply (fed_of s f).sound.core.stage
xfer-after-setup-never-runs capture s f stream k l q =
    let long = long_of_lem f l in
    step-unrun capture s (plan_of s f) (page_of f) stream (unrun s.core (verdict_of s f) _ (long_of f) capture stream k.consistent long (long-verdict s f long).0 q (fed s f))

-- and 2 is right then: no stream has parameters; so is 12 under the guard: no stream is prepared
pub pending-unset : (capture : Bool) (s : Sound) (stream i : ℕ) → Kept s → Pending capture s.core.stage stream → (params_of s i).known ≡ 0
pending-unset capture s stream i k q = k.unset (not-ready s.core s.core.stage (facts s.core k.consistent) q.asks) i

pub pending-unprepared : (capture : Bool) (s : Sound) (stream i : ℕ) → Kept s → Pending capture s.core.stage stream → takes_of (life_of s i) ≡ false
pending-unprepared capture s stream i k q = ap takes_of (k.early (not-ready s.core s.core.stage (facts s.core k.consistent) q.asks) i)
