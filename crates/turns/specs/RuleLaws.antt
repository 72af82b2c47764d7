-- What each decision of the rules means: every induction over turns goes by these cases.
-- Assumes nothing.
use Rattle.std.specs.Prelude.{ℕ, ◌≤◌, ◌<◌, ◌≡◌, refl, Bool, true, false, ltb, leb, eqb, Ok, Err}
use Rattle.std.proofs.Common.{arith, sym, ap, ◌∙◌, lt-ltb, ltb-true, ltb-false, leb-true, leb-false, eq-eqb, eqb-true}
use Rattle.std.proofs.lemmas.Bool.{false≢true, eqb-false}
use Rattle.codes.specs.Says.{pick}
use Rattle.codes.specs.declared.answers.Cause.TheVariants.{Status}
use Rattle.codes.specs.declared.answers.Refusal.{Refusal}
use Rattle.codes.specs.declared.answers.Refusal.TheVariants.{IoError}
use Rattle.turns.specs.Ring.{free}
use Rattle.turns.specs.Rules.{pick_choice, choose_of, played_of, is_oldest, verdict_of, judge_of}
use Rattle.turns.specs.ConsistentLaws.{both}
use Rattle.turns.specs.Types.{Track, Choice, Submit, Finish, Wait, Outcome, Verdict, WrongSlot, Good, Bad}

-- what rule 1's choice says of the track
abbrev pub Chosen : ℕ → Track → Choice → Type 0
Chosen least t Submit = (least ≤ free t) × (t.next < t.total)
Chosen least t Finish = (least ≤ free t) × (t.total ≤ t.next) × (t.inflight ≡ 0)
Chosen least t Wait = (least ≤ free t → t.total ≤ t.next) × (least ≤ free t → t.inflight ≡ 0 → ⊥)

chosen_by : (least : ℕ) (t : Track) (room remains none : Bool) → leb least (free t) ≡ room → ltb t.next t.total ≡ remains → eqb t.inflight 0 ≡ none → Chosen least t (pick_choice room remains none)
chosen_by least t true true none a b c = (leb-true _ _ a, ltb-true _ _ b)
chosen_by least t true false true a b c = (leb-true _ _ a, ltb-false _ _ b, eqb-true _ _ c)
chosen_by least t true false false a b c = (λ _. ltb-false _ _ b, λ _. eqb-false _ _ c)
chosen_by least t false remains none a b c = (λ h. omega (arith, leb-false), λ h. omega (arith, leb-false))

pub chosen : (least : ℕ) (t : Track) → Chosen least t (choose_of least t)
unfolding choose_of
chosen least t = chosen_by least t _ _ _ refl refl refl

-- a slot that is the oldest in flight, and one that is not
pub oldest-facts : (t : Track) (slot : ℕ) → is_oldest t slot ≡ true → (0 < t.inflight) × (slot ≡ t.tail)
unfolding is_oldest
oldest-facts t slot e = let b = both (ltb 0 t.inflight) (eqb slot t.tail) e in (ltb-true _ _ b.0, eqb-true _ _ b.1)

pub oldest-true : (t : Track) (slot : ℕ) → 0 < t.inflight → slot ≡ t.tail → is_oldest t slot ≡ true
unfolding is_oldest
oldest-true t slot h e = rw (lt-ltb _ _ h, eq-eqb _ _ e)

-- what rule 2's verdict says of the track and the completion
abbrev pub Judged : Track → ℕ → Outcome → Verdict → Type 0
Judged t slot outcome WrongSlot = 0 < t.inflight → slot ≡ t.tail → ⊥
Judged t slot outcome Good = (0 < t.inflight) × (slot ≡ t.tail) × (outcome ≡ (Ok tt))
Judged t slot outcome (Bad r) = (0 < t.inflight) × (slot ≡ t.tail) × (outcome ≡ Err r)

judged-by : (t : Track) (slot : ℕ) (outcome : Outcome) (oldest : Bool) → is_oldest t slot ≡ oldest → Judged t slot outcome (pick oldest (verdict_of outcome) WrongSlot)
judged-by t slot (Ok tt) true e = let f = oldest-facts t slot e in (f.0, f.1, refl)
judged-by t slot (Err r) true e = let f = oldest-facts t slot e in (f.0, f.1, refl)
judged-by t slot outcome false e = λ h q. false≢true (sym e ∙ oldest-true t slot h q)

pub judged : (t : Track) (slot : ℕ) (outcome : Outcome) → Judged t slot outcome (judge_of t slot outcome)
unfolding judge_of
judged t slot outcome = judged-by t slot outcome (is_oldest t slot) refl

-- what the outcome of a period that was played says of its status
fine-by : (status : ℕ) (ok : Bool) → eqb status 0x8000 ≡ ok → pick {A = Outcome} ok (Ok tt) (Err (IoError (Status status))) ≡ Ok tt → status ≡ 0x8000
fine-by status true e p = eqb-true _ _ e
fine-by status false e p = let z : ◌≡◌ {A = ℕ} 0 1 = cc in absurd (omega arith)

pub played-fine : (status : ℕ) → played_of status ≡ Ok tt → status ≡ 0x8000
unfolding played_of
played-fine status p = fine-by status _ refl p

fails_by : (status : ℕ) (r : Refusal) (ok : Bool) → eqb status 0x8000 ≡ ok → pick {A = Outcome} ok (Ok tt) (Err (IoError (Status status))) ≡ Err r → (status ≡ 0x8000 → ⊥) × (IoError (Status status) ≡ r)
fails_by status r true e p = let z : ◌≡◌ {A = ℕ} 0 1 = cc in absurd (omega arith)
fails_by status r false e p = (eqb-false _ _ e, cc)

pub played-fails : (status : ℕ) (r : Refusal) → played_of status ≡ Err r → (status ≡ 0x8000 → ⊥) × (IoError (Status status) ≡ r)
unfolding played_of
played-fails status r p = fails_by status r _ refl p

pub played-by : (status : ℕ) (ok : Bool) → ok ≡ eqb status 0x8000 → pick ok (Ok tt) (Err (IoError (Status status))) ≡ played_of status
unfolding played_of
played-by status ok e = ap (λ (b : Bool). pick b (Ok tt) (Err (IoError (Status status)))) e
