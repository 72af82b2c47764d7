-- Captures on a ring by itself: their calls keep the consistency test, and a start that is refused leaves the ring.
-- Assumes nothing.
use Rattle.std.specs.Prelude.{◌≡◌, ℕ, true}
use Rattle.std.proofs.Common.{arith, ltb-true}
use Rattle.codes.specs.SaysLaws.{guarded-by}
use Rattle.turns.specs.Calls.{started_of}
use Rattle.turns.specs.Capture.{capture_start, capture_call, caught_of, caught_turn}
use Rattle.turns.specs.CaptureLaws.{keeps-room}
use Rattle.turns.specs.CaseLaws.{plain}
use Rattle.turns.specs.ConsistentLaws.{both, Consistent}
use Rattle.turns.specs.KeepLaws.{Leaves, turn-keeps}
use Rattle.turns.specs.StaysConsistentLaws.{begun-keeps}
use Rattle.turns.specs.RefusalLaws.{Untouched, refuses, ring-untouched}
use Rattle.turns.specs.declared.capture.Catch.{Catch}
use Rattle.turns.specs.declared.ring.Step as ring
use Rattle.turns.specs.declared.ring.Said.TheVariants.{Refused}
use Rattle.exchange.specs.Types.{Track, Ring, Going, Refusal}

pub capture-start-keeps : (t : Track) (stream periods period lent budget : ℕ) → Consistent t → Consistent (capture_start t stream periods period lent budget).track
unfolding capture_start
capture-start-keeps t stream periods period lent budget c =
    guarded-by Leaves _ _ _
    (λ _. guarded-by Leaves _ _ _
    (λ _. guarded-by Leaves _ _ _
    (λ p. guarded-by Leaves _ _ _
    (λ b. guarded-by Leaves _ _ _ (λ _. begun-keeps 0 true lent t stream _ period budget c.placed.mode (ltb-true _ _ p) (ltb-true _ _ b)) (λ _. c))
    (λ _. c))
    (λ _. c))
    (λ _. c))
    (λ _. c)

caught-keeps : (t : Track) (c : Catch) → Consistent t → t.running ≡ true → Leaves (caught_turn t.descriptors t c)
caught-keeps t c k on =
    let s = turn-keeps t.descriptors t (caught_of t c) c.reading (omega arith) k on in
    let p = s.placed in
    let q = s.paced in
    record {
      placed = record { mode = p.mode; head_in = p.head_in; tail-in = p.tail-in; room = p.room; line = p.line };
      paced = record { within = q.within; some = q.some; left = q.left };
      kept = keeps-room t.descriptors t c (caught_of t c) c.reading k.kept;
      good = s.good;
    }

pub capture-keeps : (t : Track) (len : ℕ) (c : Catch) → Consistent t → Consistent (capture_call t len c).track
unfolding capture_call
capture-keeps t len c k =
    guarded-by Leaves _ _ _
    (λ _. guarded-by Leaves _ _ _ (λ _. guarded-by Leaves _ _ _ (λ _. guarded-by Leaves _ _ _ (λ on. caught-keeps t c k (both t.running t.capture on).0) (λ _. k)) (λ _. k)) (λ _. k))
    (λ _. k)

start-untouched : (t : Track) (stream periods period lent budget : ℕ) → Untouched t (capture_start t stream periods period lent budget)
unfolding capture_start
start-untouched t stream periods period lent budget =
    let P : ring.Step → Type 0 = Untouched t in
    guarded-by P _ _ _
    (λ _. guarded-by P _ _ _
    (λ _. guarded-by P _ _ _
    (λ _. guarded-by P _ _ _ (λ _. guarded-by P _ _ _ (λ _ x e. absurd (plain Going tt x e)) (λ _. refuses t _)) (λ _. refuses t _))
    (λ _. refuses t _))
    (λ _. refuses t _))
    (λ _. refuses t _)

pub capture-start-refusal : (r : Ring) (x : Refusal) (stream periods period lent budget : ℕ) → (started_of r (capture_start r.track stream periods period lent budget)).said ≡ Refused x
    → (started_of r (capture_start r.track stream periods period lent budget)).ring ≡ r
capture-start-refusal r x stream periods period lent budget = ring-untouched r _ (start-untouched r.track stream periods period lent budget) x
