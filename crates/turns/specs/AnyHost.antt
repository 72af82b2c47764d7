-- ANY HOST: one that lends frames of another length, drains or starts again while a transfer runs, and goes on. What is refused in between changes
-- nothing (demand 1), and the turns that are left are the host's loop: demand 3 holds of them as of a host that makes no such call.
-- Assumes nothing.
use Rattle.std.specs.Prelude.{ℕ, ◌≡◌, refl, Bool, true, false, not, ◌||◌, ◌&&◌, List, [], ◌∷◌, eqb, length}
use Rattle.std.proofs.Common.{arith, ap, ◌∙◌, subst, eq-eqb, ne_eqb, eqb-true}
use Rattle.std.proofs.Math.Path.{sym}
use Rattle.std.proofs.lemmas.Bool.{false≢true, eqb-false}
use Rattle.codes.specs.Says.{pick}
use Rattle.codes.specs.SaysLaws.{passes, stops}
use Rattle.codes.specs.declared.answers.Refusal.TheVariants.{InvalidParam, Busy, BadLength}
use Rattle.turns.specs.Calls.{refused_of, traced_call, turn_call, drain_call, start_call, ring_after, turned_of, started_of}
use Rattle.turns.specs.Log.{Line, Ran, onward, loop_of, called, turn_by_turn}
use Rattle.turns.specs.Asked.{starts}
use Rattle.turns.specs.ConsistentLaws.{consistent-true}
use Rattle.turns.specs.CaseLaws.{Plain}
use Rattle.turns.specs.RefusalLaws.{turn-answers}
use Rattle.turns.specs.HostLaws.{Runs, call-turns, runs_on, begins}
use Rattle.turns.specs.Types.{Track, Ring, Said, Going, Done, Ended, Refused, Step, Turned, Reading}

-- a call on the ring
pub data Act : Type 0 where
  turning : (len : ℕ) (reading : Reading) → Act
  draining : (reading : Reading) → Act
  starting : (stream total period budget : ℕ) → Act

abbrev pub act_on : Ring → Act → Turned
act_on r (turning len reading) = turned_of r (turn_call r.track len reading)
act_on r (draining reading) = turned_of r (drain_call r.track reading)
act_on r (starting stream total period budget) = started_of r (start_call r.track stream total period budget)

-- how calls ended a transfer, and the ring that they left; what was refused is passed over
pub record Upshot : Type 0 where
  pub said : Said
  pub at : Ring

abbrev pub unless_ended : Said → Ring → Upshot → Upshot
unless_ended Going r rest = rest
unless_ended Done r rest = record { said = Done; at = r }
unless_ended (Ended x) r rest = record { said = Ended x; at = r }
unless_ended (Refused x) r rest = rest

unfoldable pub acts : Ring → List Act → Upshot
acts r [] = record { said = Going; at = r }
acts r (a ∷ cs) = let u = act_on r a in unless_ended u.said u.ring (acts u.ring cs)

-- the readings of those turns that were lent frames of the transfer's length
abbrev pub readings : ℕ → List Act → List Reading
readings len [] = []
readings len (turning n reading ∷ cs) = pick (eqb n len) (reading ∷ readings len cs) (readings len cs)
readings len (draining reading ∷ cs) = readings len cs
readings len (starting stream total period budget ∷ cs) = readings len cs

abbrev pub upshot : Ran Ring → Upshot
upshot h = record { said = h.said; at = h.at }

-- ---- what is refused while a transfer runs

module _ (len : ℕ) (t : Track) (r : Runs len t) where
  other : (running same : Bool) → running ≡ true → same ≡ false → (not running || same) ≡ false
  other true same e f = f
  other false same e f = absurd (false≢true e)

  own : (running same : Bool) → same ≡ true → (not running || same) ≡ true
  own true same e = e
  own false same e = refl

  other_length : (n : ℕ) (reading : Reading) → (n ≡ len → ⊥) → turn_call t n reading ≡ refused_of BadLength t
  unfolding traced_call
  other_length n reading ne = sym (passes _ _ _ (own t.running (eqb 0 t.room) (eq-eqb _ _ r.lent_room)) (stops _ _ _ (other t.running (eqb n t.lent) r.running (ne_eqb n t.lent (λ e. ne (e ∙ sym r.whole)))) refl))

  no-drain : (reading : Reading) → drain_call t reading ≡ refused_of InvalidParam t
  unfolding drain_call
  no-drain reading = sym (passes _ _ _ (consistent-true t r.consistent) (passes _ _ _ r.running refl))

  busy : (running none : Bool) → running ≡ true → (not running && none) ≡ false
  busy true none e = refl
  busy false none e = absurd (false≢true e)

  no_start : (stream total period budget : ℕ) → start_call t stream total period budget ≡ refused_of Busy t
  unfolding start_call
  no_start stream total period budget = sym (passes _ _ _ (consistent-true t r.consistent) (stops _ _ _ (busy t.running (eqb t.inflight 0) r.running) refl))

-- ---- a turn of the transfer's length, and what follows

onward-upshot : (said : Said) (line : Line) (r : Ring) (h : Ran Ring) (w : Upshot) → Plain said → (said ≡ Going → upshot h ≡ w) → upshot (onward said line r h) ≡ unless_ended said r w
onward-upshot Going line r h w p k = k refl
onward-upshot Done line r h w p k = refl
onward-upshot (Ended x) line r h w p k = refl
onward-upshot (Refused x) line r h w p k = absurd p

abbrev Follows : Ring → List Act → Step → Upshot
Follows r cs s = unless_ended s.said (ring_after r s) (acts (ring_after r s) cs)

any-run : (len : ℕ) (cs : List Act) (r : Ring) → Runs len r.track → upshot (turn_by_turn len (length (readings len cs)) r (readings len cs)) ≡ acts r cs
unfolding acts loop_of
any-run len [] r k = refl
any-run len (draining x ∷ cs) r k = any-run len cs r k ∙ sym (ap (Follows r cs) (no-drain len r.track k x))
any-run len (starting stream total period budget ∷ cs) r k = any-run len cs r k ∙ sym (ap (Follows r cs) (no_start len r.track k stream total period budget))
any-run len (turning n x ∷ cs) r k = by (λ q j. any-run len cs q j) (eqb n len) refl
  where
    by : ((q : Ring) → Runs len q.track → upshot (turn_by_turn len (length (readings len cs)) q (readings len cs)) ≡ acts q cs) → (z : Bool) → eqb n len ≡ z
        → let xs = pick z (x ∷ readings len cs) (readings len cs) in upshot (turn_by_turn len (length xs) r xs) ≡ Follows r cs (turn_call r.track n x)
    by more false e = more r k ∙ sym (ap (Follows r cs) (other_length len r.track k n x (eqb-false n len e)))
    by more true e =
        let t = called len r x in
        let same = call-turns len r.track x k in
        onward-upshot t.line.said t.line t.left (turn_by_turn len (length (readings len cs)) t.left (readings len cs)) (acts t.left cs)
        (subst (λ (s : Step). Plain s.said) same (turn-answers _ r.track _ x))
        (λ going. more t.left (subst (λ (s : Step). s.said ≡ Going → Runs len s.track) same (runs_on _ len r.track _ x (omega arith) k) going))
        ∙ ap (λ (m : ℕ). Follows r cs (turn_call r.track m x)) (sym (eqb-true n len e))

-- THE THEOREM, of a start that goes on
pub any-host : (r : Ring) (stream period budget : ℕ) (frames : List ℕ) (cs : List Act) → let s = starts r stream period budget frames in
    let xs = readings (length frames) cs in
    s.said ≡ Going → acts s.ring cs ≡ upshot (turn_by_turn (length frames) (length xs) s.ring xs)
any-host r stream period budget frames cs began =
    let from = begins r.track stream (length frames) period budget began in
    sym (any-run (length frames) cs _ (subst (Runs (length frames)) (sym from.track) from.runs))
