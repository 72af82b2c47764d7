-- What the judge accepts are the fields that may follow.
-- Assumes nothing.
use Rattle.std.specs.Prelude.{Bool, true, false, ◌||◌, List, [], ◌∷◌, ◌≡◌, refl, ◌⊎◌, ℕ, ◌+◌, eqb, Result, Ok, Err, Some, None}
use Rattle.std.proofs.lemmas.Bool.{false≢true}
use Rattle.std.proofs.Common.{sym, ap, ◌∙◌, inl, inr, arith, eq-eqb, eqb-true}
use Rattle.codes.specs.Says.{pick, guard}
use Rattle.turns.specs.Rules.{choose_of, next_span, submit, judge_of, played_of, release}
use Rattle.trace.specs.Field.{bytes_of}
use Rattle.trace.specs.WalkLaws.{Ended, MaySend, MayFree, MayEnd, FreedBy, Walks}
use Rattle.trace.specs.Judge.{on, may_send, may_free, may_end, ends, agree, due_of, sent_move, freed_move, move_of, rest_by, on_by, walk_of}
use Rattle.trace.specs.declared.field.Field.TheVariants as field
use Rattle.trace.specs.Types.{Track, Sent, Choice, Submit, Finish, Wait, Verdict, WrongSlot, Good, Bad, Field, Stage, Opening, Out, Back, Failed, Over, State, Judgement, BadTrace, NotARun, sent_period}

-- ---- the tests and what they mean

pub may-send : (st : Stage) (c : Choice) → may_send st c ≡ true → MaySend st c
may-send Opening Submit e = tt
may-send Out Submit e = tt
may-send Back Submit e = tt
may-send Failed Submit e = absurd (false≢true e)
may-send Over Submit e = absurd (false≢true e)
may-send st Finish e = absurd (false≢true e)
may-send st Wait e = absurd (false≢true e)

pub send-may : (st : Stage) (c : Choice) → MaySend st c → may_send st c ≡ true
send-may Opening Submit m = refl
send-may Out Submit m = refl
send-may Back Submit m = refl
send-may Failed Submit m = absurd m
send-may Over Submit m = absurd m
send-may st Finish m = absurd m
send-may st Wait m = absurd m

pub may_free_lem : (st : Stage) (c : Choice) → may_free st c ≡ true → MayFree st c
may_free_lem Out c e = tt
may_free_lem Opening Wait e = tt
may_free_lem Opening Submit e = absurd (false≢true e)
may_free_lem Opening Finish e = absurd (false≢true e)
may_free_lem Back Wait e = tt
may_free_lem Back Submit e = absurd (false≢true e)
may_free_lem Back Finish e = absurd (false≢true e)
may_free_lem Failed c e = absurd (false≢true e)
may_free_lem Over c e = absurd (false≢true e)

pub free-may : (st : Stage) (c : Choice) → MayFree st c → may_free st c ≡ true
free-may Out c e = refl
free-may Opening Wait e = refl
free-may Opening Submit e = absurd e
free-may Opening Finish e = absurd e
free-may Back Wait e = refl
free-may Back Submit e = absurd e
free-may Back Finish e = absurd e
free-may Failed c e = absurd e
free-may Over c e = absurd e

either : (a m n : ℕ) → (eqb a m || eqb a n) ≡ true → (a ≡ m) ⊎ (a ≡ n)
either a m n = by (eqb a m) refl
  where
    by : (b : Bool) → eqb a m ≡ b → (b || eqb a n) ≡ true → (a ≡ m) ⊎ (a ≡ n)
    by true p e = inl (eqb-true a m p)
    by false p e = inr (eqb-true a n e)

fst-or : (a m n : ℕ) → a ≡ m → (eqb a m || eqb a n) ≡ true
fst-or a m n p = rw (eq-eqb a m p)

or-true : (b : Bool) → (b || true) ≡ true
or-true true = refl
or-true false = refl

snd-or : (a m n : ℕ) → a ≡ n → (eqb a m || eqb a n) ≡ true
snd-or a m n p = ap (λ (b : Bool). eqb a m || b) (eq-eqb a n p) ∙ or-true (eqb a m)

pub may-end : (st : Stage) (c : Choice) (a : ℕ) → may_end st c a ≡ true → MayEnd st c a
may-end Opening Submit a e = absurd (false≢true e)
may-end Opening Finish a e = eqb-true a 0 e
may-end Opening Wait a e = either a 6 9 e
may-end Out c a e = either a 6 9 e
may-end Back Submit a e = eqb-true a 9 e
may-end Back Finish a e = either a 0 9 e
may-end Back Wait a e = either a 6 9 e
may-end Failed c a e = eqb-true a 2 e
may-end Over c a e = absurd (false≢true e)

or-both : (a m n : ℕ) → (a ≡ m) ⊎ (a ≡ n) → (eqb a m || eqb a n) ≡ true
or-both a m n (inl p) = fst-or a m n p
or-both a m n (inr p) = snd-or a m n p

pub end-may : (st : Stage) (c : Choice) (a : ℕ) → MayEnd st c a → (may_end st c a ≡ true) × (ends st c ≡ true)
end-may Opening Submit a e = absurd e
end-may Opening Finish a e = (eq-eqb a 0 e, refl)
end-may Opening Wait a e = (or-both a 6 9 e, refl)
end-may Out c a e = (or-both a 6 9 e, refl)
end-may Back Submit a e = (eq-eqb a 9 e, refl)
end-may Back Finish a e = (or-both a 0 9 e, refl)
end-may Back Wait a e = (or-both a 6 9 e, refl)
end-may Failed c a e = (eq-eqb a 2 e, refl)
end-may Over c a e = absurd e

-- ---- a move that leads to acceptance

abbrev number : Judgement → ℕ
number (Ok u) = 0
number (Err (BadTrace at)) = 18
number (Err (NotARun at)) = 19

abbrev Rest : Type 0
Rest = Stage → Track → ℕ → Judgement

never : (n : ℕ) → ◌≡◌ {A = Judgement} (Err (NotARun n)) (Ok tt) → ⊥
never n e = let z : ◌≡◌ {A = ℕ} 19 0 = ap number e in omega arith

guard-reach : (at size : ℕ) (k : Rest) (b : Bool) (m : Result State ℕ) (j : ℕ) → on_by (guard b (Err j) m) at size k ≡ Ok tt → (b ≡ true) × (on_by m at size k ≡ Ok tt)
unfolding guard
guard-reach at size k true m j e = (refl, e)
guard-reach at size k false m j e = absurd (never (at + j) e)

reach-guard : (at size : ℕ) (k : Rest) (b : Bool) (m : Result State ℕ) (j : ℕ) → b ≡ true → on_by m at size k ≡ Ok tt → on_by (guard b (Err j) m) at size k ≡ Ok tt
unfolding guard
reach-guard at size k b m j p e = ap (λ (x : Bool). on_by (pick x m (Err j)) at size k) p ∙ e

abbrev slot_in : Sent → ℕ
slot_in None = 0
slot_in (Some p) = p.slot

abbrev offset_in : Sent → ℕ
offset_in None = 0
offset_in (Some p) = p.offset

abbrev len_in : Sent → ℕ
len_in None = 0
len_in (Some p) = p.len

freed-reach : (least at : ℕ) (fs : List Field) (t : Track) (v : Verdict) → ((st : Stage) (u : Track) (a : ℕ) → walk_of least st u a fs ≡ Ok tt → Walks least st u fs)
    → on_by (freed_move v t) at 8 (λ s u a. walk_of least s u a fs) ≡ Ok tt → FreedBy v (Walks least Back (release t) fs) (Walks least Failed (release t) fs)
freed-reach least at fs t WrongSlot ih e = absurd (never (at + 3) e)
freed-reach least at fs t Good ih e = ih Back (release t) (at + 8) e
freed-reach least at fs t (Bad a) ih e = ih Failed (release t) (at + 8) e

reach-freed : (least at : ℕ) (fs : List Field) (t : Track) (v : Verdict) → ((st : Stage) (u : Track) (a : ℕ) → Walks least st u fs → walk_of least st u a fs ≡ Ok tt)
    → FreedBy v (Walks least Back (release t) fs) (Walks least Failed (release t) fs) → on_by (freed_move v t) at 8 (λ s u a. walk_of least s u a fs) ≡ Ok tt
reach-freed least at fs t WrongSlot ih w = absurd w
reach-freed least at fs t Good ih w = ih Back (release t) (at + 8) w
reach-freed least at fs t (Bad a) ih w = ih Failed (release t) (at + 8) w

rest_over : (st : Stage) (at : ℕ) → rest_by st at ≡ Ok tt → Ended st
rest_over Over at e = tt
rest_over Opening at e = absurd (never at e)
rest_over Out at e = absurd (never at e)
rest_over Back at e = absurd (never at e)
rest_over Failed at e = absurd (never at e)

over-rest : (st : Stage) (at : ℕ) → Ended st → rest_by st at ≡ Ok tt
over-rest Over at e = refl
over-rest Opening at e = absurd e
over-rest Out at e = absurd e
over-rest Back at e = absurd e
over-rest Failed at e = absurd e

-- ACCEPTED, field by field, both ways
pub walk-accepts : (least : ℕ) (fs : List Field) (st : Stage) (t : Track) (at : ℕ) → walk_of least st t at fs ≡ Ok tt → Walks least st t fs
unfolding walk_of move_of
walk-accepts least [] st t at e = rest_over st at e
walk-accepts least (field.Start stream total period ∷ fs) st t at e = absurd (never (at + 0) e)
walk-accepts least (field.Submitted slot offset len ∷ fs) st t at e =
    let k : Rest = λ s u a. walk_of least s u a fs in
    let g₁ = guard-reach at 12 k (may_send st (choose_of least t)) (sent_move t slot offset len) 0 e in
    let j = agree (bytes_of (field.Submitted slot offset len)) (bytes_of (due_of t)) in
    let g₂ = guard-reach at 12 k (eqb slot t.head) (guard (eqb offset t.next) (Err j) (guard (eqb len (next_span t)) (Err j) (on Out (submit t)))) j g₁.1 in
    let g₃ = guard-reach at 12 k (eqb offset t.next) (guard (eqb len (next_span t)) (Err j) (on Out (submit t))) j g₂.1 in
    let g₄ = guard-reach at 12 k (eqb len (next_span t)) (on Out (submit t)) j g₃.1 in
    let p = eqb-true slot t.head g₂.0 in
    let q = eqb-true offset t.next g₃.0 in
    let r = eqb-true len (next_span t) g₄.0 in
    (may-send st (choose_of least t) g₁.0, (λ i. sent_period (sym p i) (sym q i) (sym r i)), walk-accepts least fs Out (submit t) (at + 12) g₄.1)
walk-accepts least (field.Completed slot status ∷ fs) st t at e =
    let k : Rest = λ s u a. walk_of least s u a fs in
    let g = guard-reach at 8 k (may_free st (choose_of least t)) (freed_move (judge_of t slot (played_of status)) t) 0 e in
    (may_free_lem st (choose_of least t) g.0, freed-reach least at fs t (judge_of t slot (played_of status)) (λ s u a. walk-accepts least fs s u a) g.1)
walk-accepts least (field.End answer ∷ fs) st t at e =
    let k : Rest = λ s u a. walk_of least s u a fs in
    let g₁ = guard-reach at 4 k (ends st (choose_of least t)) (guard (may_end st (choose_of least t) answer) (Err 3) (on Over t)) 0 e in
    let g₂ = guard-reach at 4 k (may_end st (choose_of least t) answer) (on Over t) 3 g₁.1 in
    (may-end st (choose_of least t) answer g₂.0, walk-accepts least fs Over t (at + 4) g₂.1)

pub accepts-walk : (least : ℕ) (fs : List Field) (st : Stage) (t : Track) (at : ℕ) → Walks least st t fs → walk_of least st t at fs ≡ Ok tt
unfolding walk_of move_of
accepts-walk least [] st t at w = over-rest st at w
accepts-walk least (field.Start stream total period ∷ fs) st t at w = absurd w
accepts-walk least (field.Submitted slot offset len ∷ fs) st t at w =
    let k : Rest = λ s u a. walk_of least s u a fs in
    let j = agree (bytes_of (field.Submitted slot offset len)) (bytes_of (due_of t)) in
    let p : slot ≡ t.head = sym (ap slot_in w.1) in
    let q : offset ≡ t.next = sym (ap offset_in w.1) in
    let r : len ≡ next_span t = sym (ap len_in w.1) in
    reach-guard at 12 k (may_send st (choose_of least t)) (sent_move t slot offset len) 0 (send-may st (choose_of least t) w.0)
    (reach-guard at 12 k (eqb slot t.head) (guard (eqb offset t.next) (Err j) (guard (eqb len (next_span t)) (Err j) (on Out (submit t)))) j (eq-eqb _ _ p)
    (reach-guard at 12 k (eqb offset t.next) (guard (eqb len (next_span t)) (Err j) (on Out (submit t))) j (eq-eqb _ _ q)
    (reach-guard at 12 k (eqb len (next_span t)) (on Out (submit t)) j (eq-eqb _ _ r) (accepts-walk least fs Out (submit t) (at + 12) w.2))))
accepts-walk least (field.Completed slot status ∷ fs) st t at w =
    let k : Rest = λ s u a. walk_of least s u a fs in
    reach-guard at 8 k (may_free st (choose_of least t)) (freed_move (judge_of t slot (played_of status)) t) 0 (free-may st (choose_of least t) w.0)
    (reach-freed least at fs t (judge_of t slot (played_of status)) (λ s u a. accepts-walk least fs s u a) w.1)
accepts-walk least (field.End answer ∷ fs) st t at w =
    let k : Rest = λ s u a. walk_of least s u a fs in
    let m = end-may st (choose_of least t) answer w.0 in
    reach-guard at 4 k (ends st (choose_of least t)) (guard (may_end st (choose_of least t) answer) (Err 3) (on Over t)) 0 m.1
    (reach-guard at 4 k (may_end st (choose_of least t) answer) (on Over t) 3 m.0 (accepts-walk least fs Over t (at + 4) w.1))
