-- From a refusal that is said where a test fails back to the test, and to the refusal.
-- Assumes nothing.
use Rattle.std.specs.Prelude.{◌≡◌, ◌≤◌, refl, Bool, true, false, List, ℕ}
use Rattle.std.proofs.Common.{sym, ap, ◌∙◌, arith}
use Rattle.codes.specs.Says.{Says, says, pick}
use Rattle.codes.specs.Answers.{says_refusal}
use Rattle.codes.specs.AnswersLaws.{numbered}
use Rattle.codes.specs.ResultLaws.{un_refusal, un-refusal}
use Rattle.codes.specs.declared.answers.Refusal.{Refusal}

pub refusal-is : (t : Bool) (us : List ℕ) (r s : Refusal) → says_refusal r ≡ pick t (says 0 us) (says_refusal s) → (t ≡ false) × (r ≡ s)
refusal-is true us r s e =
    let l : 1 ≤ (says_refusal r).number = (numbered r).least in
    let z : (says_refusal r).number ≡ 0 = ap (λ (x : Says). x.number) e in
    absurd (omega arith)
refusal-is false us r s e = (refl, sym (un-refusal r) ∙ ap un_refusal e ∙ un-refusal s)
