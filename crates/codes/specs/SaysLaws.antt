-- From what a function says back to what held, and the law of uniqueness.
-- Assumes nothing.
use Rattle.std.specs.Prelude.{◌≡◌, refl, Bool, true, false, not, List, [], ℕ, suc}
use Rattle.std.proofs.Common.{sym, ap, ◌∙◌, arith}
use Rattle.std.proofs.lemmas.Bool.{not-true, not-false}
use Rattle.codes.specs.Says.{Says, says, pick, guard}

-- ---- UNIQUENESS: any two outcomes of which an equation says the same are equal.
-- A contract `r ≡ z` gives it by `same`. A contract `f r ≡ z` gives it by `one`, where g leads back from what is said to what was returned.
pub same : {A : Type 0} {x y z : A} → x ≡ z → y ≡ z → x ≡ y
same p q = p ∙ sym q

pub one : {A B : Type 0} (f : A → B) (g : B → A) → ((a : A) → g (f a) ≡ a) → {x y : A} {z : B} → f x ≡ z → f y ≡ z → x ≡ y
one f g back {x} {y} p q = sym (back x) ∙ ap g (same p q) ∙ back y

-- ---- a test that holds, and one that does not

pub picks : {A : Type 0} (t : Bool) (a b : A) → t ≡ true → pick t a b ≡ a
picks t a b e = ap (λ (u : Bool). pick u a b) e

pub skips : {A : Type 0} (t : Bool) (a b : A) → t ≡ false → pick t a b ≡ b
skips t a b e = ap (λ (u : Bool). pick u a b) e

-- ---- an answer that is values where a test holds, and a refusal elsewhere: which of the two it was

pub took : (t : Bool) (n : ℕ) (us vs : List ℕ) → says 0 vs ≡ pick t (says 0 us) (says (suc n) []) → (t ≡ true) × (vs ≡ us)
took true n us vs e = (refl, ap (λ (s : Says). s.values) e)
took false n us vs e = let z : 0 ≡ suc n = ap (λ (s : Says). s.number) e in absurd (omega arith)

pub refused : (t : Bool) (n : ℕ) (us : List ℕ) → says (suc n) [] ≡ pick t (says 0 us) (says (suc n) []) → t ≡ false
refused true n us e = let z : suc n ≡ 0 = ap (λ (s : Says). s.number) e in absurd (omega arith)
refused false n us e = refl

-- ---- a chain of refusals: each test is passed, or stops

pub passes : {A : Type 0} {x : A} (t : Bool) (a b : A) → t ≡ true → x ≡ b → x ≡ guard t a b
unfolding guard
passes t a b e p = p ∙ sym (picks t b a e)

pub stops : {A : Type 0} {x : A} (t : Bool) (a b : A) → t ≡ false → x ≡ a → x ≡ guard t a b
unfolding guard
stops t a b e p = p ∙ sym (skips t b a e)

-- what is made of a guard's outcome is made at each of its ends
pub guard-ap : {A B : Type 0} (f : A → B) (t : Bool) (a b : A) → f (guard t a b) ≡ guard t (f a) (f b)
unfolding guard
guard-ap f true a b = refl
guard-ap f false a b = refl

-- what holds of both ends of a guard holds of it
pub guarded-by : {A : Type 0} (P : A → Type 0) (t : Bool) (a b : A) → (t ≡ true → P b) → (t ≡ false → P a) → P (guard t a b)
unfolding guard
guarded-by P true a b f g = f refl
guarded-by P false a b f g = g refl

-- what the code knows that went by `if !r`, where r is what a callee said of the test t
pub failed : {r t : Bool} → r ≡ t → not r ≡ true → t ≡ false
failed {r} e h = sym e ∙ not-true r h

pub passed : {r t : Bool} → r ≡ t → not r ≡ false → t ≡ true
passed {r} e h = sym e ∙ not-false r h
