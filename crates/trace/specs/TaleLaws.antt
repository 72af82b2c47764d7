-- What turns write, on so many turns and without a count; what a run's log writes is that.
-- Assumes nothing.
use mathlib.Core.List.{List, [], ◌∷◌}
use Rattle.std.specs.Prelude.{ℕ, zero, suc, ◌+◌, true, Bool, false, ◌≡◌, refl, Some, None}
use Rattle.std.proofs.Common.{sym, ◌∙◌, arith, eqb-true}
use Rattle.std.proofs.Math.Path.{ap}
use Rattle.std.proofs.lemmas.Bool.{eqb-false}
use Rattle.turns.specs.Rules.{turn_of, ticked, choose_of, sent_of, submit, is_oldest, comes_to, judge_of, played_of, accept, settle, hear, act, counted_by, counted_of}
use Rattle.turns.specs.Log.{first_of, rest_of, waiting_by, onward, loop_of, played, run, line_of}
use Rattle.turns.specs.CaseLaws.{Plain, last_of}
use Rattle.turns.specs.KeepLaws.{after-act, turn-plain}
use Rattle.trace.specs.Trace.{sent_then, heard_then, said_then, fields_of}
use Rattle.trace.specs.WalkLaws.{wound}
use Rattle.trace.specs.declared.field.Field.TheVariants as field
use Rattle.trace.specs.Types.{Track, Step, Reading, Field, Sent, Choice, Submit, Finish, Wait, Verdict, WrongSlot, Good, Bad, Said, Going, Done, Ended, Refused, Outcome}

-- what a turn writes, and then the rest
abbrev pub writes : Step → (Track → List Field) → List Field
writes s rest = sent_then s.sent (heard_then s.heard (said_then s.said (rest (ticked true s.track))))

unfoldable pub tale : ℕ → ℕ → Track → List Reading → List Field
tale least zero t script = field.End 9 ∷ []
tale least (suc n) t script = writes (turn_of least t (comes_to played_of (first_of script)) (first_of script)) (λ u. tale least n u (rest_of script))

-- a turn's line and what follows: the last one says 9
by : (least w n : ℕ) (x : Reading) (script : List Reading) (s : Step) (said : Said) → Plain said → (last : Bool)
    → (last ≡ true → n ≡ 0)
    → (last ≡ false → fields_of (run played least n (ticked true s.track) script).log ≡ tale least n (ticked true s.track) script)
    → (let u = counted_by said last (record { track = s.track; sent = s.sent; heard = s.heard; said = said }) in fields_of (onward u.said (line_of w x u) u.track (run played least n u.track script)).log)
    ≡ writes (record { track = s.track; sent = s.sent; heard = s.heard; said = said }) (λ u. tale least n u script)
unfolding tale
by least w n x script s Going p true zeros rest = ap (λ (k : ℕ). sent_then s.sent (heard_then s.heard (tale least k (ticked true s.track) script))) (sym (zeros refl))
by least w n x script s Going p false zeros rest = ap (λ (l : List Field). sent_then s.sent (heard_then s.heard l)) (rest refl)
by least w n x script s Done p last zeros rest = refl
by least w n x script s (Ended a) p last zeros rest = refl
by least w n x script s (Refused r) p last zeros rest = absurd p

-- a turn leaves the budget and the count to who counts it
kept : (least : ℕ) (t : Track) (o : Outcome) (x : Reading) → ((turn_of least t o x).track.budget ≡ t.budget) × ((turn_of least t o x).track.turns ≡ t.turns)
unfolding turn_of
kept least t o x =
    let a = after-act (choose_of least t) t o x in
    let n : (act (choose_of least t) t o x).track.turns ≡ t.turns = omega (arith, a.1) in
    (ap (λ (f : ℕ × ℕ × ℕ × ℕ × ℕ). f.4) a.0, n)

-- with a turn left for each that the budget leaves
pub run-tale : (least n : ℕ) (t : Track) (script : List Reading) → t.budget ≡ t.turns + suc n → fields_of (run played least (suc n) t script).log ≡ tale least (suc n) t script
unfolding loop_of tale counted_of
run-tale least zero t script e =
    let o = comes_to played_of (first_of script) in
    let s = turn_of least t o (first_of script) in
    let k = kept least t o (first_of script) in
    by least (waiting_by (choose_of least t) t) zero (first_of script) (rest_of script) s s.said (turn-plain least t o (first_of script)) (last_of s) (λ _. refl)
    (λ h. absurd (eqb-false (s.track.turns + 1) s.track.budget h (omega (arith, k.0, k.1))))
run-tale least (suc n) t script e =
    let o = comes_to played_of (first_of script) in
    let s = turn_of least t o (first_of script) in
    let k = kept least t o (first_of script) in
    by least (waiting_by (choose_of least t) t) (suc n) (first_of script) (rest_of script) s s.said (turn-plain least t o (first_of script)) (last_of s)
    (λ h. let z : s.track.turns + 1 ≡ s.track.budget = eqb-true (s.track.turns + 1) s.track.budget h in absurd (omega (arith, k.0, k.1)))
    (λ h. run-tale least n (ticked true s.track) (rest_of script) (omega (arith, k.0, k.1)))

-- ---- the count plays no part in what turns write

module _ (least n b k : ℕ) (r : Bool) (script : List Reading) (rest : (g : ℕ) (u : Track) → tale least n (ticked true (wound b k r g u)) script ≡ tale least n (ticked true u) script) where
  settle-wound : (g : ℕ) (v : Verdict) (sent : Sent) (t : Track) (slot status : ℕ)
      → writes (settle v sent (wound b k r g t) slot status) (λ u. tale least n u script) ≡ writes (settle v sent t slot status) (λ u. tale least n u script)
  settle-wound g WrongSlot sent t slot status = refl
  settle-wound g Good sent t slot status = ap (λ (l : List Field). sent_then sent (field.Completed slot status ∷ l)) (rest (g + 1) (accept t))
  settle-wound g (Bad a) sent t slot status = refl

  hear-wound : (g : ℕ) (sent : Sent) (t : Track) (x : Reading) → writes (hear (comes_to played_of x) sent (wound b k r g t) x) (λ u. tale least n u script) ≡ writes (hear (comes_to played_of x) sent t x) (λ u. tale least n u script)
  unfolding judge_of is_oldest
  hear-wound g sent t None = ap (λ (l : List Field). sent_then sent l) (rest g t)
  hear-wound g sent t (Some c) = settle-wound g (judge_of t c.slot (played_of c.status)) sent t c.slot c.status

  act-wound : (g : ℕ) (c : Choice) (t : Track) (x : Reading) → writes (act c (wound b k r g t) (comes_to played_of x) x) (λ u. tale least n u script) ≡ writes (act c t (comes_to played_of x) x) (λ u. tale least n u script)
  act-wound g Submit t x = hear-wound g (sent_of t) (submit t) x
  act-wound g Finish t x = refl
  act-wound g Wait t x = hear-wound g None t x

pub tale-wound : (least n b k : ℕ) (r : Bool) (g : ℕ) (t : Track) (script : List Reading) → tale least n (wound b k r g t) script ≡ tale least n t script
unfolding tale turn_of choose_of
tale-wound least zero b k r g t script = refl
tale-wound least (suc n) b k r g t script =
    act-wound least n b k r (rest_of script)
    (λ h u. tale-wound least n b (k + 1) true h u (rest_of script) ∙ sym (tale-wound least n u.budget (u.turns + 1) true u.good u (rest_of script)))
    g (choose_of least t) t (first_of script)
