-- The checks of a transfer, in numbers and values: the same tests in the same order, over what each end says.
-- Assumes nothing.
use Rattle.std.specs.Prelude.{◌≡◌, ℕ, Bool, true, false, [], ◌∷◌, ◌==◌, Ok}
use Rattle.std.specs.Prelude.{refl}
use Rattle.std.proofs.Common.{sym, ap, ◌∙◌}
use Rattle.std.proofs.lemmas.Bool.{false≢true}
use Rattle.codes.specs.Says.{says, guard}
use Rattle.codes.specs.SaysLaws.{guard-ap, guarded-by, passes, stops}
use Rattle.codes.specs.Answers.{says_refusal}
use Rattle.sound_core.specs.Consistent.{held_to, faced}
use Rattle.sound_core.specs.Gate.{gate_by, gate_of, says_gate}
use Rattle.sound_core.specs.Types.{Track, Core, Params, SetUp}

-- ---- a capture's direction, as a test: the same four laws as a guard's

pub faces : {A : Type 0} {x : A} (capture : Bool) (d : ℕ) (a b : A) → held_to capture (d == 1) ≡ true → x ≡ b → x ≡ faced capture d a b
faces true d a b e p = passes _ a b e p
faces false d a b e p = p

pub faces-not : {A : Type 0} {x : A} (capture : Bool) (d : ℕ) (a b : A) → held_to capture (d == 1) ≡ false → x ≡ a → x ≡ faced capture d a b
faces-not true d a b e p = stops _ a b e p
faces-not false d a b e p = p ∙ absurd (false≢true (sym e))

pub faced-ap : {A B : Type 0} (f : A → B) (capture : Bool) (d : ℕ) (a b : A) → f (faced capture d a b) ≡ faced capture d (f a) (f b)
faced-ap f true d a b = guard-ap f _ a b
faced-ap f false d a b = refl

pub faced-by : {A : Type 0} (P : A → Type 0) (capture : Bool) (d : ℕ) (a b : A) → (held_to capture (d == 1) ≡ true → P b) → P a → P (faced capture d a b)
faced-by P true d a b f g = guarded-by P _ a b f (λ _. g)
faced-by P false d a b f g = f refl

pub gate-says : (capture lengths clear : Bool) (c : Core) (p : Params) (life direction : ℕ) (t : Track) (stream : ℕ)
    → says_gate (gate_of capture lengths clear c p life direction t stream) ≡ gate_by capture lengths clear c p life direction t stream says_refusal (says_gate (Ok SetUp)) (λ (n : ℕ). says 0 (n ∷ []))
gate-says capture lengths clear c p life direction t stream =
    guard-ap says_gate _ _ _
    ∙ ap (guard _ _) (guard-ap says_gate _ _ _
    ∙ ap (guard _ _) (guard-ap says_gate _ _ _
    ∙ ap (guard _ _) (guard-ap says_gate _ _ _
    ∙ ap (guard _ _) (guard-ap says_gate _ _ _
    ∙ ap (guard _ _) (guard-ap says_gate _ _ _
    ∙ ap (guard _ _) (faced-ap says_gate capture direction _ _
    ∙ ap (faced capture direction _) (guard-ap says_gate _ _ _)))))))
