-- Demand 3's premises about a log, by computed tests of it.
-- Assumes nothing.
use Rattle.std.specs.Prelude.{ℕ, zero, suc, ◌+◌, ◌≤◌, ◌≡◌, refl, Bool, true, false, not, ◌&&◌, List, [], ◌∷◌, ltb, leb, eqb, length, take, drop, Some, None}
use Rattle.std.proofs.Common.{arith, inl, inr, ltb-true, leb-false}
use Rattle.std.proofs.lemmas.Bool.{false≢true, eqb-false, not-true}
use Rattle.codes.specs.Says.{pick}
use Rattle.layout.specs.All.{All}
use Rattle.turns.specs.Ring.{says_said}
use Rattle.turns.specs.ConsistentLaws.{both}
use Rattle.turns.specs.Log.{Line}
use Rattle.turns.specs.Asked.{Any, NoFault, InFlight, Completes, Reports, CompletesWithin}
use Rattle.turns.specs.Types.{Reading}

abbrev no_fault : Line → Bool
no_fault line = not (eqb (says_said line.said).number 6) && not (eqb (says_said line.said).number 2)

abbrev pub faultless : List Line → Bool
faultless [] = true
faultless (l ∷ ls) = no_fault l && faultless ls

differs : (n m : ℕ) → not (eqb n m) ≡ true → n ≡ m → ⊥
differs n m e = eqb-false n m (not-true (eqb n m) e)

pub by-faultless : (log : List Line) → faultless log ≡ true → All NoFault log
by-faultless [] e = tt
by-faultless (l ∷ ls) e =
    let b = both (no_fault l) (faultless ls) e in
    let n = (says_said l.said).number in
    let f = both (not (eqb n 6)) (not (eqb n 2)) b.0 in
    ((differs n 6 f.0, differs n 2 f.1), by-faultless ls b.1)

abbrev completes : Reading → Bool
completes None = false
completes (Some c) = true

abbrev reports : List Line → Bool
reports [] = false
reports (l ∷ ls) = pick (completes l.reading) true (reports ls)

by-reading : (reading : Reading) → completes reading ≡ true → Completes reading
by-reading None e = absurd (false≢true e)
by-reading (Some c) e = tt

by-reports : (ls : List Line) → reports ls ≡ true → Any Reports ls
by-reports [] e = absurd (false≢true e)
by-reports (l ∷ ls) e = by (by-reports ls) (completes l.reading) refl e
  where
    by : (reports ls ≡ true → Any Reports ls) → (b : Bool) → completes l.reading ≡ b → pick b true (reports ls) ≡ true → Any Reports (l ∷ ls)
    by more true f e = inl (by-reading l.reading f)
    by more false f e = inr (more e)

-- every g lines that follow one another have a completion
abbrev pub within : ℕ → List Line → Bool
within g [] = ltb 0 g
within g (l ∷ ls) = pick (leb g (length (l ∷ ls))) (reports (take g (l ∷ ls)) && within g ls) true

pub by-within : (g : ℕ) (log : List Line) → within g log ≡ true → CompletesWithin g log
by-within g [] e i h = absurd (omega (arith, ltb-true 0 g e))
by-within g (l ∷ ls) e i h = by (by-within g ls) i h (leb g (length (l ∷ ls))) refl e
  where
    by : (within g ls ≡ true → CompletesWithin g ls) → (i : ℕ) → i + g ≤ length (l ∷ ls) → (b : Bool) → leb g (length (l ∷ ls)) ≡ b → pick b (reports (take g (l ∷ ls)) && within g ls) true ≡ true
        → All InFlight (take g (drop i (l ∷ ls))) → Any Reports (take g (drop i (l ∷ ls)))
    by more i h false f e w = absurd (omega (arith, leb-false g (length (l ∷ ls)) f))
    by more zero h true f e w = by-reports (take g (l ∷ ls)) (both (reports (take g (l ∷ ls))) (within g ls) e).0
    by more (suc i) h true f e w = more (both (reports (take g (l ∷ ls))) (within g ls) e).1 i (omega arith) w
