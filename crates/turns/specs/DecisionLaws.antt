-- From facts to the decisions of the rules: each return of `choose` and `judge` is one of these.
-- Assumes nothing.
use Rattle.std.specs.Prelude.{ℕ, ◌≤◌, ◌<◌, ◌≡◌, Bool, true, false, eqb, Ok}
use Rattle.std.proofs.Common.{sym, ◌∙◌, subst, lt-ltb, le-ltb, le-leb, eq-eqb, ne_eqb}
use Rattle.std.proofs.lemmas.Bool.{lt-leb}
use Rattle.codes.specs.SaysLaws.{picks, skips}
use Rattle.codes.specs.declared.answers.Refusal.{Refusal}
use Rattle.turns.specs.Ring.{free}
use Rattle.turns.specs.Rules.{choose_of, submit, is_oldest, verdict_of, judge_of}
use Rattle.turns.specs.CallLaws.{both-fails, both_rest, positive, nought}
use Rattle.turns.specs.RuleLaws.{Judged, judged, oldest-true}
use Rattle.turns.specs.Types.{Track, Submit, Finish, Wait, Outcome, Verdict, WrongSlot, Good, Bad}

-- ---- rule 1

pub waits-full : (least : ℕ) (t : Track) → free t < least → Wait ≡ choose_of least t
unfolding choose_of
waits-full least t a = rw (lt-leb _ _ a)

pub submits : (least : ℕ) (t : Track) → least ≤ free t → t.next < t.total → Submit ≡ choose_of least t
unfolding choose_of
submits least t a b = rw (le-leb _ _ a, lt-ltb _ _ b)

pub finishes : (least : ℕ) (t : Track) → least ≤ free t → t.total ≤ t.next → t.inflight ≡ 0 → Finish ≡ choose_of least t
unfolding choose_of
finishes least t a b c = rw (le-leb _ _ a, le-ltb _ _ b, eq-eqb _ _ c)

pub waits : (least : ℕ) (t : Track) → least ≤ free t → t.total ≤ t.next → (t.inflight ≡ 0 → ⊥) → Wait ≡ choose_of least t
unfolding choose_of
waits least t a b c = rw (le-leb _ _ a, le-ltb _ _ b, ne_eqb _ _ c)

-- ---- rule 2

pub oldest-none : (t : Track) (slot : ℕ) → t.inflight ≡ 0 → false ≡ is_oldest t slot
unfolding is_oldest
oldest-none t slot z = both-fails _ _ (nought t.inflight z)

pub oldest-last : (t : Track) (slot : ℕ) (b : Bool) → (t.inflight ≡ 0 → ⊥) → b ≡ eqb slot t.tail → b ≡ is_oldest t slot
unfolding is_oldest
oldest-last t slot b n e = both_rest _ _ (positive t.inflight n) e

pub judges-wrong : (t : Track) (slot : ℕ) (outcome : Outcome) → is_oldest t slot ≡ false → WrongSlot ≡ judge_of t slot outcome
unfolding judge_of
judges-wrong t slot outcome e = sym (skips _ _ _ e)

pub judges : (t : Track) (slot : ℕ) (outcome : Outcome) → is_oldest t slot ≡ true → verdict_of outcome ≡ judge_of t slot outcome
unfolding judge_of
judges t slot outcome e = sym (picks _ _ _ e)

pub good : (t : Track) (slot : ℕ) → 0 < t.inflight → slot ≡ t.tail → Good ≡ judge_of t slot (Ok tt)
good t slot h e = judges t slot (Ok tt) (oldest-true t slot h e)

-- a verdict other than `WrongSlot` found a slot in flight
pub some_good : (v : Verdict) (t : Track) (slot : ℕ) (outcome : Outcome) → v ≡ judge_of t slot outcome → v ≡ Good → 0 < t.inflight
some_good v t slot outcome e g = (subst (Judged t slot outcome) (sym e ∙ g) (judged t slot outcome)).0

pub some-bad : (v : Verdict) (t : Track) (slot : ℕ) (outcome : Outcome) (r : Refusal) → v ≡ judge_of t slot outcome → v ≡ Bad r → 0 < t.inflight
some-bad v t slot outcome r e g = (subst (Judged t slot outcome) (sym e ∙ g) (judged t slot outcome)).0

-- a submission leaves tail where it is
pub tail-stays : (s t : Track) → s ≡ submit t → t.tail < 32 → s.tail < 32
tail-stays s t e h = rw e h

-- and the good completions
pub good-stays : (s t : Track) → s ≡ submit t → t.good < t.budget → s.good < s.budget
good-stays s t e h = rw e h
