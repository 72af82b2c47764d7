-- The status reader's answer is ok exactly where the number is 0x8000.
-- Assumes nothing.
use Rattle.std.specs.Prelude.{◌≡◌, refl, Bool, true, false, [], ◌∷◌, ℕ, eqb, get_or, Result, Ok, Err}
use Rattle.std.proofs.Common.{sym, ap, ◌∙◌, arith}
use Rattle.codes.specs.Says.{Says, says, pick}
use Rattle.codes.specs.Codes.{among}
use Rattle.codes.specs.Statuses.{status_codes, status_code, says_status, status_says, is_ok}
use Rattle.codes.specs.declared.statuses.StatusCode.{StatusCode}
use Rattle.codes.specs.declared.statuses.UnknownStatus.{UnknownStatus}

-- what is told of a code, where it is told: the code itself
value-by : (t : Bool) (code : ℕ) (c : ℕ) → says 0 (c ∷ []) ≡ pick t (says 0 (code ∷ [])) (says 2 (code ∷ [])) → c ≡ code
value-by true code c e = ap (λ (s : Says). get_or s.values 0 0) e
value-by false code c e = let z : ◌≡◌ {A = ℕ} 0 2 = ap (λ (s : Says). s.number) e in absurd (omega arith)

-- what is none of the codes is not the first of them
none-by : (ok rest : Bool) (code n : ℕ) → says 2 (n ∷ []) ≡ pick (pick ok true rest) (says 0 (code ∷ [])) (says 2 (code ∷ [])) → ok ≡ false
none-by true rest code n e = let z : ◌≡◌ {A = ℕ} 2 0 = ap (λ (s : Says). s.number) e in absurd (omega arith)
none-by false rest code n e = refl

pub ok-is : (f : Result StatusCode UnknownStatus) (code : ℕ) → says_status f ≡ status_says code → is_ok f ≡ eqb code 0x8000
ok-is (Ok c) code e = ap (λ (n : ℕ). eqb n 0x8000) (value-by (among code status_codes) code (status_code c) e)
ok-is (Err u) code e = sym (none-by (eqb code 0x8000) (among code (0x8001 ∷ 0x8002 ∷ 0x8003 ∷ [])) code u.word e)

-- the status is ok where the header's word is
pub header-word : (found word : ℕ) {b : Bool} → found ≡ word → b ≡ eqb found 0x8000 → b ≡ eqb word 0x8000
header-word found word w i = i ∙ ap (λ (n : ℕ). eqb n 0x8000) w

-- the status that was found is ok where the header's word is
pub header : (f : Result StatusCode UnknownStatus) (found word : ℕ) {b : Bool} → says_status f ≡ status_says found → found ≡ word → b ≡ is_ok f → b ≡ eqb word 0x8000
header f found word e w i = header-word found word w (i ∙ ok-is f found e)
