-- The cases of rule 2, of the count and of a loop: what holds in each of them holds of what they leave.
-- Assumes nothing.
use Rattle.std.specs.Prelude.{ℕ, ◌+◌, ◌≤◌, ◌<◌, ◌≡◌, ◌≢◌, Bool, true, false, [], ◌∷◌, eqb, Some, None}
use Rattle.std.proofs.Common.{arith, sym, ap, ◌∙◌, subst}
use Rattle.std.proofs.Math.Path.{refl}
use Rattle.std.proofs.lemmas.Bool.{false≢true, eqb-false}
use Rattle.codes.specs.declared.answers.Refusal.{Refusal}
use Rattle.codes.specs.Says.{pick}
use Rattle.turns.specs.Rules.{freeing, judge_of, settle, hear, ticked, counted_by, counted_of}
use Rattle.turns.specs.RuleLaws.{Judged, judged}
use Rattle.turns.specs.Ring.{goes_on}
use Rattle.turns.specs.Log.{Line, Ran, onward}
use Rattle.turns.specs.Types.{Track, Sent, Said, Going, Done, Ended, Refused, Step, Reading, Outcome, Verdict, WrongSlot, Good, Bad, freed_slot}

-- no refusal
abbrev pub Plain : Said → Type 0
Plain Going = Unit {0}
Plain Done = Unit {0}
Plain (Ended r) = Unit {0}
Plain (Refused r) = ⊥

pub plain : (said : Said) → Plain said → (x : Refusal) → said ≡ Refused x → ⊥
plain said p x e = subst Plain e p

-- an end of the transfer
abbrev pub Over : Said → Type 0
Over Going = ⊥
Over Done = Unit {0}
Over (Ended r) = Unit {0}
Over (Refused r) = ⊥

pub over_plain : (said : Said) → Over said → Plain said
over_plain Done o = tt
over_plain (Ended r) o = tt
over_plain Going e = elim e [ ]
over_plain (Refused _) e = elim e [ ]

-- a turn spends the last of the budget
abbrev pub last_of : Step → Bool
last_of s = eqb (s.track.turns + 1) s.track.budget

module _ (P : Step → Type 0) where
  settle-cases : (sent : Sent) (t : Track) (slot status : ℕ) (outcome : Outcome) (v : Verdict) → Judged t slot outcome v
      → ((said : Said) → Plain said → P (record { track = t; sent = sent; heard = None; said = said }))
      → ((said : Said) → Plain said → 0 < t.inflight → (good : ℕ) → good ≤ t.good + 1 → P (record { track = freeing good t; sent = sent; heard = freed_slot slot status; said = said }))
      → P (settle v sent t slot status)
  settle-cases sent t slot status outcome WrongSlot j silent freed = silent _ tt
  settle-cases sent t slot status outcome Good j silent freed = freed _ tt j.0 (t.good + 1) (omega arith)
  settle-cases sent t slot status outcome (Bad r) j silent freed = freed _ tt j.0 t.good (omega arith)

  -- rule 2 frees nothing, or the oldest in flight
  pub hear-cases : (sent : Sent) (t : Track) (o : Outcome) (reading : Reading)
      → ((said : Said) → Plain said → P (record { track = t; sent = sent; heard = None; said = said }))
      → ((slot status : ℕ) (said : Said) → Plain said → 0 < t.inflight → (good : ℕ) → good ≤ t.good + 1 → P (record { track = freeing good t; sent = sent; heard = freed_slot slot status; said = said }))
      → P (hear o sent t reading)
  hear-cases sent t o None silent freed = silent _ tt
  hear-cases sent t o (Some c) silent freed = settle-cases sent t c.slot c.status o (judge_of t c.slot o) (judged t c.slot o) silent (freed c.slot c.status)

  counted-by : (s : Step) (said : Said) (last : Bool) → last_of s ≡ last → Plain said
      → (s.track.turns + 1 ≢ s.track.budget → P (record { track = ticked true s.track; sent = s.sent; heard = s.heard; said = Going }))
      → ((said : Said) → Over said → P (record { track = ticked false s.track; sent = s.sent; heard = s.heard; said = said }))
      → P (counted_by said last s)
  counted-by s Going true e p goes ends = ends _ tt
  counted-by s Going false e p goes ends = goes (eqb-false _ _ e)
  counted-by s Done last e p goes ends = ends _ tt
  counted-by s (Ended r) last e p goes ends = ends _ tt
  counted-by s (Refused r) last e p goes ends = absurd p

  -- the count leaves a transfer that runs with turns left, or one that has ended
  pub counted-cases : (s : Step) → Plain s.said
      → (s.track.turns + 1 ≢ s.track.budget → P (record { track = ticked true s.track; sent = s.sent; heard = s.heard; said = Going }))
      → ((said : Said) → Over said → P (record { track = ticked false s.track; sent = s.sent; heard = s.heard; said = said }))
      → P (counted_of s)
  unfolding counted_of
  counted-cases s p goes ends = counted-by s s.said (last_of s) refl p goes ends

-- a turn goes on, or is the last
pub goes_by : {A : Type 0} (P : A → Type 0) (said : Said) (x y : A) → (said ≡ Going → P x) → (goes_on said ≡ false → P y) → P (pick (goes_on said) x y)
goes_by P Going x y f g = f refl
goes_by P Done x y f g = g refl
goes_by P (Ended r) x y f g = g refl
goes_by P (Refused r) x y f g = g refl

pub onward-cases : {A : Type 0} (P : Ran A → Type 0) (said : Said) (line : Line) (a : A) (rest : Ran A)
    → (said ≡ Going → P (record { said = rest.said; at = rest.at; log = line ∷ rest.log })) → (goes_on said ≡ false → P (record { said = said; at = a; log = line ∷ [] })) → P (onward said line a rest)
onward-cases P said line a rest f g = goes_by P said _ _ f g

-- the last does not go on
pub stays : {said : Said} → goes_on said ≡ false → said ≡ Going → ⊥
stays e g = false≢true (sym e ∙ ap goes_on g)
