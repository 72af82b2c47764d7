-- "Refusals: 2 and 3 keep number and place and carry the status that caused them, or none." At the C boundary both stand in one word of 64 bits, and nothing is lost there.
-- Assumes nothing.
use Rattle.std.specs.Prelude.{◌≡◌, refl, Bool, List, [], ◌∷◌, ℕ, ◌+◌, ◌*◌, ◌/◌, ◌%◌, eqb}
use Rattle.std.proofs.Common.{sym, ap, ◌∙◌, arith, ne_eqb}
use Rattle.codes.specs.Says.{Says, says, pick}
use Rattle.codes.specs.Answers.{cause_values, says_refusal, cause_word, high_half, refusal_word}
use Rattle.codes.specs.AnswersLaws.{numbered}
use Rattle.codes.specs.declared.answers.Cause.{Cause}
use Rattle.codes.specs.declared.answers.Cause.TheVariants as cause
use Rattle.codes.specs.declared.answers.Refusal.{Refusal}
use Rattle.codes.specs.declared.answers.Refusal.TheVariants as refusal

-- the two halves of an answer (`SND_NUMBER`, `SND_STATUS`)
abbrev pub number_in : ℕ → ℕ
number_in answer = answer % 4294967296

abbrev pub status_in : ℕ → ℕ
status_in answer = answer / 4294967296

-- forgetting the status gives the answer as it was before the request: the number
pub forget : (r : Refusal) → number_in (refusal_word r) ≡ (says_refusal r).number
forget r = let s = (numbered r).small in omega arith

pub status-in : (r : Refusal) → status_in (refusal_word r) ≡ high_half r
status-in r = let s = (numbered r).small in omega arith

-- a status that causes a refusal is not ok
abbrev pub NotOk : Cause → Type 0
NotOk cause.NoStatus = Unit {0}
NotOk (cause.Status word) = word ≡ 0x8000 → ⊥

abbrev pub Caused : Refusal → Type 0
Caused refusal.InvalidParam = Unit {0}
Caused (refusal.IoError c) = NotOk c
Caused (refusal.Unsupported c) = NotOk c
Caused refusal.NoInfo = Unit {0}
Caused refusal.TooMany = Unit {0}
Caused refusal.WrongToken = Unit {0}
Caused refusal.QueueFailed = Unit {0}
Caused refusal.Busy = Unit {0}
Caused refusal.OutOfTurns = Unit {0}
Caused refusal.BadLength = Unit {0}
Caused refusal.Short = Unit {0}
Caused refusal.BadState = Unit {0}
Caused refusal.Full = Unit {0}
Caused refusal.NotYet = Unit {0}
Caused refusal.BadCapture = Unit {0}

-- ---- the way back, from the two halves to what is said

cause_back : ℕ → List ℕ
cause_back high = pick (eqb high 0x8000) [] (high ∷ [])

says_back : ℕ → ℕ → Says
says_back number high = says number (pick (eqb number 2) (cause_back high) (pick (eqb number 3) (cause_back high) []))

cause-back : (c : Cause) → NotOk c → cause_back (cause_word c) ≡ cause_values c
unfolding cause_back
cause-back cause.NoStatus h = refl
cause-back (cause.Status word) h = ap (λ (t : Bool). pick t [] (word ∷ [])) (ne_eqb word 0x8000 h)

says_back_lem : (r : Refusal) → Caused r → says_back (says_refusal r).number (high_half r) ≡ says_refusal r
unfolding says_back
says_back_lem refusal.InvalidParam h = refl
says_back_lem (refusal.IoError c) h = ap (says 2) (cause-back c h)
says_back_lem (refusal.Unsupported c) h = ap (says 3) (cause-back c h)
says_back_lem refusal.NoInfo h = refl
says_back_lem refusal.TooMany h = refl
says_back_lem refusal.WrongToken h = refl
says_back_lem refusal.QueueFailed h = refl
says_back_lem refusal.Busy h = refl
says_back_lem refusal.OutOfTurns h = refl
says_back_lem refusal.BadLength h = refl
says_back_lem refusal.Short h = refl
says_back_lem refusal.BadState h = refl
says_back_lem refusal.Full h = refl
says_back_lem refusal.NotYet h = refl
says_back_lem refusal.BadCapture h = refl

-- two refusals with one word say the same, number and status
pub word_back : (a b : Refusal) → Caused a → Caused b → refusal_word a ≡ refusal_word b → says_refusal a ≡ says_refusal b
word_back a b h k e =
    let n : (says_refusal a).number ≡ (says_refusal b).number = sym (forget a) ∙ ap number_in e ∙ forget b in
    let s : high_half a ≡ high_half b = sym (status-in a) ∙ ap status_in e ∙ status-in b in
    sym (says_back_lem a h) ∙ (λ i. says_back (n i) (s i)) ∙ says_back_lem b k

-- an instance: a page of zeros, which the device never wrote, is status 0, and differs from no status
pub zero-is-a-status : refusal_word (refusal.IoError (cause.Status 0)) ≡ refusal_word (refusal.IoError cause.NoStatus) → ⊥
zero-is-a-status e = let z : ◌≡◌ {A = ℕ} 2 (2 + 4294967296 * 0x8000) = e in omega arith
