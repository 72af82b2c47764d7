-- The way back from what a call says that may be refused, and the law of uniqueness for such calls.
-- Assumes nothing.
use Rattle.std.specs.Prelude.{◌≡◌, ◌≤◌, refl, List, [], ◌∷◌, ℕ, eqb, get_or, Result, Ok, Err}
use Rattle.std.proofs.Common.{ap, ◌∙◌, arith, ne_eqb}
use Rattle.codes.specs.Says.{Says, pick}
use Rattle.codes.specs.SaysLaws.{one, skips}
use Rattle.codes.specs.Answers.{cause_values, says_refusal, says_result}
use Rattle.codes.specs.AnswersLaws.{numbered}
use Rattle.codes.specs.declared.answers.Cause.{Cause}
use Rattle.codes.specs.declared.answers.Cause.TheVariants as cause
use Rattle.codes.specs.declared.answers.Refusal.{Refusal}
use Rattle.codes.specs.declared.answers.Refusal.TheVariants as refusal

cause_of : List ℕ → Cause
cause_of [] = cause.NoStatus
cause_of (word ∷ words) = cause.Status word

cause-of : (c : Cause) → cause_of (cause_values c) ≡ c
unfolding cause_of
cause-of cause.NoStatus = refl
cause-of (cause.Status word) = refl

-- the refusals by their number; 0, 13 and 14 are none's
refusals : Cause → List Refusal
refusals c =
    refusal.InvalidParam ∷ refusal.InvalidParam ∷ refusal.IoError c ∷ refusal.Unsupported c ∷ refusal.NoInfo ∷ refusal.TooMany ∷ refusal.WrongToken ∷ refusal.QueueFailed
    ∷ refusal.Busy ∷ refusal.OutOfTurns ∷ refusal.BadLength ∷ refusal.Short ∷ refusal.BadState ∷ refusal.BadState ∷ refusal.BadState ∷ refusal.Full ∷ refusal.NotYet ∷ refusal.BadCapture ∷ []

pub un_refusal : Says → Refusal
un_refusal s = get_or (refusals (cause_of s.values)) s.number refusal.InvalidParam

pub un-refusal : (r : Refusal) → un_refusal (says_refusal r) ≡ r
unfolding un_refusal refusals
un-refusal refusal.InvalidParam = refl
un-refusal (refusal.IoError c) = ap refusal.IoError (cause-of c)
un-refusal (refusal.Unsupported c) = ap refusal.Unsupported (cause-of c)
un-refusal refusal.NoInfo = refl
un-refusal refusal.TooMany = refl
un-refusal refusal.WrongToken = refl
un-refusal refusal.QueueFailed = refl
un-refusal refusal.Busy = refl
un-refusal refusal.OutOfTurns = refl
un-refusal refusal.BadLength = refl
un-refusal refusal.Short = refl
un-refusal refusal.BadState = refl
un-refusal refusal.Full = refl
un-refusal refusal.NotYet = refl
un-refusal refusal.BadCapture = refl

-- ---- UNIQUENESS of a call that may be refused: `back` leads from the values of Ok to what was returned

-- number 0 is what was returned, made of the values; any other is the refusal
pub un_result : {A : Type 0} → (List ℕ → A) → Says → Result A Refusal
un_result back s = pick (eqb s.number 0) (Ok (back s.values)) (Err (un_refusal s))

pub result-back : {A : Type 0} (values : A → List ℕ) (back : List ℕ → A) → ((a : A) → back (values a) ≡ a) → (x : Result A Refusal) → un_result back (says_result values x) ≡ x
unfolding un_result
result-back values back h (Ok a) = ap Ok (h a)
result-back values back h (Err r) =
    let l : 1 ≤ (says_refusal r).number = (numbered r).least in
    skips (eqb (says_refusal r).number 0) (Ok (back (says_refusal r).values)) (Err (un_refusal (says_refusal r))) (ne_eqb (says_refusal r).number 0 (λ e. omega arith))
    ∙ ap Err (un-refusal r)

pub one-result : {A : Type 0} (values : A → List ℕ) (back : List ℕ → A) → ((a : A) → back (values a) ≡ a)
    → {x y : Result A Refusal} {z : Says} → says_result values x ≡ z → says_result values y ≡ z → x ≡ y
one-result values back h = one (says_result values) (un_result back) (result-back values back h)
