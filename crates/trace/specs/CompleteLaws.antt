-- Whatever turns write may follow.
-- Assumes nothing.
use Rattle.std.specs.Prelude.{List, [], ◌∷◌, ◌≡◌, refl, true, ℕ, zero, suc, Some, None}
use Rattle.std.proofs.Common.{sym, subst, inl, inr, arith}
use Rattle.codes.specs.Answers.{says_refusal}
use Rattle.turns.specs.Rules.{choose_of, sent_of, submit, comes_to, judge_of, played_of, release, accept, ticked, settle, hear, act, turn_of}
use Rattle.turns.specs.RuleLaws.{chosen}
use Rattle.turns.specs.CaseLaws.{hear-cases}
use Rattle.turns.specs.Log.{first_of, rest_of}
use Rattle.trace.specs.PlayedLaws.{Played, played}
use Rattle.trace.specs.Trace.{sent_then, heard_then, said_then}
use Rattle.trace.specs.TaleLaws.{writes, tale}
use Rattle.trace.specs.WalkLaws.{MayFree, MayEnd, FreedBy, WalksBy, Walks, ticked-walks, accept-walks, opening-back, opening-out}
use Rattle.trace.specs.declared.field.Field.TheVariants as field
use Rattle.trace.specs.Types.{Track, Step, Sent, Reading, Choice, Submit, Finish, Wait, Verdict, WrongSlot, Good, Bad, Field, Stage, Opening, Out, Back, Failed, Outcome}

-- what a turn makes of its reading, behind its submission
abbrev pub heard_tale : ℕ → ℕ → Step → List Reading → List Field
heard_tale least n s script = heard_then s.heard (said_then s.said (tale least n (ticked true s.track) script))

pub hear-sent : (sent : Sent) (t : Track) (o : Outcome) (reading : Reading) → (hear o sent t reading).sent ≡ sent
hear-sent sent t o reading = hear-cases (λ s. s.sent ≡ sent) sent t o reading (λ _ _. refl) (λ _ _ _ _ _ _ _. refl)

module _ (least n : ℕ) (script : List Reading) (back : (t : Track) → Walks least Back t (tale least n (ticked true t) script)) where
  -- a completion, where one may follow and 6 may
  settle-walks : (st : Stage) (c : Choice) → MayFree st c → MayEnd st c 6 → (sent : Sent) (t : Track) (slot status : ℕ) (v : Verdict) → Played t slot status v → v ≡ judge_of t slot (played_of status)
      → WalksBy least st c t (heard_tale least n (settle v sent t slot status) script)
  settle-walks st c free wrong sent t slot status WrongSlot j e = (wrong, tt)
  settle-walks st c free wrong sent t slot status Good j e =
      let rest = tale least n (ticked true (accept t)) script in
      (free, subst (λ (v : Verdict). FreedBy v (Walks least Back (release t) rest) (Walks least Failed (release t) rest)) e (accept-walks least Back t rest (back (accept t))))
  settle-walks st c free wrong sent t slot status (Bad a) j e =
      let two : (says_refusal a).number ≡ 2 = j.3 in
      let rest : List Field = field.End (says_refusal a).number ∷ [] in
      (free, subst (λ (v : Verdict). FreedBy v (Walks least Back (release t) rest) (Walks least Failed (release t) rest)) e (two, tt))

  hear-walks : (st : Stage) (c : Choice) → MayFree st c → MayEnd st c 6 → (sent : Sent) (t : Track) (reading : Reading) → WalksBy least st c t (tale least n (ticked true t) script)
      → WalksBy least st c t (heard_tale least n (hear (comes_to played_of reading) sent t reading) script)
  hear-walks st c free wrong sent t None quiet = quiet
  hear-walks st c free wrong sent t (Some c₁) quiet = settle-walks st c free wrong sent t c₁.slot c₁.status (judge_of t c₁.slot (played_of c₁.status)) (played t c₁.slot c₁.status) refl

  act-walks : (c : Choice) (t : Track) (reading : Reading) → c ≡ choose_of least t → (c ≡ Wait → WalksBy least Opening c t (tale least n (ticked true t) script))
      → Walks least Out (submit t) (tale least n (ticked true (submit t)) script)
      → WalksBy least Opening c t (writes (act c t (comes_to played_of reading) reading) (λ u. tale least n u script))
  act-walks Submit t reading e wait out =
      subst (λ (s : Sent). WalksBy least Opening Submit t (sent_then s (heard_tale least n (hear (comes_to played_of reading) (sent_of t) (submit t) reading) script))) (sym (hear-sent (sent_of t) (submit t) (comes_to played_of reading) reading))
      (tt, refl, hear-walks Out (choose_of least (submit t)) tt (inl refl) (sent_of t) (submit t) reading out)
  act-walks Finish t reading e wait out = (refl, tt)
  act-walks Wait t reading e wait out =
      subst (λ (s : Sent). WalksBy least Opening Wait t (sent_then s (heard_tale least n (hear (comes_to played_of reading) None t reading) script))) (sym (hear-sent None t (comes_to played_of reading) reading))
      (hear-walks Opening Wait tt (inl refl) None t reading (wait refl))

late : (least : ℕ) (c : Choice) (t : Track) → WalksBy least Back c t (field.End 9 ∷ [])
late least Submit t = (refl, tt)
late least Finish t = (inr refl, tt)
late least Wait t = (inr refl, tt)

-- COMPLETE: what turns write, from a track on, on a budget of one turn or more
pub tale-walks : (least n : ℕ) (script : List Reading) (t : Track) → Walks least Opening t (tale least (suc n) t script)
unfolding tale turn_of
tale-walks least zero script t =
    act-walks least zero (rest_of script) (λ u. late least (choose_of least u) u) (choose_of least t) t (first_of script) refl
    (λ e. subst (λ (c : Choice). WalksBy least Opening c t (field.End 9 ∷ [])) (sym e) (inr refl, tt))
    (inr refl, tt)
tale-walks least (suc n) script t =
    let later = tale-walks least n (rest_of script) in
    let rest : Track → List Field = λ u. tale least (suc n) (ticked true u) (rest_of script) in
    act-walks least (suc n) (rest_of script) (λ u. opening-back least (choose_of least u) u (rest u) (ticked-walks least Opening u (rest u) (later (ticked true u)))) (choose_of least t) t (first_of script) refl
    (λ e. ticked-walks least Opening t (rest t) (later (ticked true t)))
    (opening-out least (choose_of least (submit t)) (submit t) (rest (submit t)) (chosen least (submit t)) (omega arith) (ticked-walks least Opening (submit t) (rest (submit t)) (later (ticked true (submit t)))))
