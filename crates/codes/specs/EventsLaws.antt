-- The events with control elements: one code more than without.
-- Assumes nothing.
use Rattle.std.specs.Prelude.{◌≡◌, refl, Bool, true, false, ◌&&◌, [], ◌∷◌, ℕ, eqb}
use Rattle.std.proofs.Common.{sym, ap, ◌∙◌, arith, eqb-true, eq-eqb, ne_eqb}
use Rattle.codes.specs.Says.{Says, says, pick}
use Rattle.codes.specs.Codes.{among, code_says}
use Rattle.codes.specs.Events.{event_codes, event_codes_of}

-- a test of a Boolean and a number holds: both do
pub both_hold : (controls : Bool) (n k : ℕ) → (controls && eqb n k) ≡ true → (controls ≡ true) × (n ≡ k)
both_hold true n k e = (refl, eqb-true n k e)
both_hold false n k e = let z : ◌≡◌ {A = ℕ} 0 1 = ap (λ (t : Bool). pick t 1 0) e in absurd (omega arith)

pub control-code : (controls : Bool) (n : ℕ) → (controls && eqb n 0x1200) ≡ true → says 0 (0x1200 ∷ []) ≡ code_says (event_codes_of controls) 2 n
control-code controls n e = let b = both_hold controls n 0x1200 e in λ i. code_says (event_codes_of (sym b.0 i)) 2 (sym b.1 i)

-- every other code is among both or among neither
pub among-others : (controls : Bool) (n : ℕ) → (controls && eqb n 0x1200) ≡ false → among n event_codes ≡ among n (event_codes_of controls)
among-others true n e = ap (λ (t : Bool). pick (eqb n 0x1000) true (pick (eqb n 0x1001) true (pick (eqb n 0x1100) true (pick (eqb n 0x1101) true (pick t true false))))) (sym e)
among-others false n e = refl

pub other-code : (controls : Bool) (n : ℕ) → (controls && eqb n 0x1200) ≡ false → code_says event_codes 2 n ≡ code_says (event_codes_of controls) 2 n
other-code controls n e = ap (λ (t : Bool). pick t (says 0 (n ∷ [])) (says 2 [])) (among-others controls n e)

-- 0x1200 is taken with control elements only
pub control-mode : (controls : Bool) (n k : ℕ) → n ≡ 0x1200 → says 0 (k ∷ []) ≡ code_says (event_codes_of controls) 2 n → (controls && eqb n 0x1200) ≡ true
control-mode true n k e q = eq-eqb n 0x1200 e
control-mode false n k e q = let z : ◌≡◌ {A = ℕ} 0 2 = ap (λ (x : Says). x.number) (q ∙ ap (code_says event_codes 2) e) in absurd (omega arith)

pub other-mode : (controls : Bool) (n : ℕ) → (n ≡ 0x1200 → ⊥) → (controls && eqb n 0x1200) ≡ false
other-mode true n e = ne_eqb n 0x1200 e
other-mode false n e = refl
