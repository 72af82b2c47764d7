-- DRAINING: as many drain turns as slots are in flight, each told the oldest of them, make the ring idle again, whatever the statuses.
-- Assumes nothing.
use Rattle.std.specs.Prelude.{ℕ, ◌<◌, ◌≡◌, refl, false, List, [], ◌∷◌, length, None}
use Rattle.std.proofs.Common.{arith, sym, ap, ◌∙◌}
use Rattle.codes.specs.SaysLaws.{passes, stops}
use Rattle.layout.specs.All.{All}
use Rattle.turns.specs.Rules.{release}
use Rattle.turns.specs.RuleLaws.{oldest-true}
use Rattle.turns.specs.ConsistentLaws.{Consistent, consistent-facts, consistent-true}
use Rattle.turns.specs.Calls.{unchanged_of, drain_call, ring_after, turned_of}
use Rattle.turns.specs.Asked.{starts, Idle}
use Rattle.turns.specs.StaysConsistentLaws.{drain-keeps}
use Rattle.turns.specs.HostLaws.{goes}
use Rattle.turns.specs.Types.{Track, Ring, Said, Going, Done, Step, Turned, completion, freed_slot}

-- what each of some drain turns said, and the ring after the last
pub record Drains : Type 0 where
  pub said : List Said
  pub at : Ring

-- a drain turn that is told the oldest slot in flight, with some status
abbrev pub drain_oldest : Ring → ℕ → Turned
drain_oldest r status = turned_of r (drain_call r.track (completion r.track.tail status))

-- one after the other, as many as statuses
abbrev pub drains : Ring → List ℕ → Drains
drains r [] = record { said = []; at = r }
drains r (status ∷ statuses) =
    let u = drain_oldest r status in
    let rest = drains u.ring statuses in
    record { said = u.said ∷ rest.said; at = rest.at }

-- ---- one drain turn

-- the oldest slot is freed, with any status
abbrev freed : Track → ℕ → Step
freed t status = record { track = release t; sent = None; heard = freed_slot t.tail status; said = Done }

drain-frees : (t : Track) (status : ℕ) → Consistent t → t.running ≡ false → 0 < t.inflight → freed t status ≡ drain_call t (completion t.tail status)
unfolding drain_call
drain-frees t status c off h =
    passes _ _ _ (consistent-true t c) (stops _ _ _ off (passes _ _ _ (oldest-true t t.tail h refl) refl))

-- ---- THE THEOREMS, of a consistent ring that runs no transfer

-- it says Ok each time, and leaves nothing in flight
pub drains-to-idle : (r : Ring) (statuses : List ℕ) → Consistent r.track → r.track.running ≡ false → r.track.inflight ≡ length statuses
    → All (λ (x : Said). x ≡ Done) (drains r statuses).said × Idle (drains r statuses).at
drains-to-idle r [] c off k = (tt, record { consistent = consistent-true _ c; stopped = off; empty = k })
drains-to-idle r (status ∷ statuses) c off k =
    let e = sym (drain-frees r.track status c off (omega arith)) in
    let rest = drains-to-idle (drain_oldest r status).ring statuses (drain-keeps r.track _ c) (ap (λ (s : Step). s.track.running) e ∙ off) (ap (λ (s : Step). s.track.inflight) e ∙ omega arith) in
    ((ap (λ (s : Step). s.said) e, rest.0), rest.1)

-- "Freed slots serve the next transfer."
pub drained-starts : (r : Ring) (statuses : List ℕ) → Consistent r.track → r.track.running ≡ false → r.track.inflight ≡ length statuses
    → (stream period budget : ℕ) (frames : List ℕ) → 0 < period → 0 < budget → (starts (drains r statuses).at stream period budget frames).said ≡ Going
drained-starts r statuses c off k stream period budget frames p b =
    let i = (drains-to-idle r statuses c off k).1 in
    sym (goes (drains r statuses).at.track stream (length frames) period budget (consistent-facts _ i.consistent) i.stopped i.empty p b)

-- a quiet reading says Ok too, and leaves the ring as it is
pub quiet-drains-nothing : (r : Ring) → Consistent r.track → r.track.running ≡ false → ((turned_of r (drain_call r.track None)).said ≡ Done) × ((turned_of r (drain_call r.track None)).ring ≡ r)
unfolding drain_call
quiet-drains-nothing r c off =
    let e : unchanged_of Done r.track ≡ drain_call r.track None = passes _ _ _ (consistent-true r.track c) (stops _ _ _ off refl) in
    (ap (λ (s : Step). s.said) (sym e), ap (λ (s : Step). ring_after r s) (sym e))
