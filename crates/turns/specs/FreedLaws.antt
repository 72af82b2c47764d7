-- What a turn freed is what its reading named.
-- Assumes nothing.
use Rattle.std.specs.Prelude.{ℕ, refl, Some, None}
use Rattle.codes.specs.SaysLaws.{guarded-by}
use Rattle.turns.specs.Rules.{choose_of, submit, sent_of, comes_to, played_of, judge_of, settle, hear, act, turn_of, counted_of}
use Rattle.turns.specs.CaseLaws.{counted-cases}
use Rattle.turns.specs.KeepLaws.{turn-plain}
use Rattle.turns.specs.Calls.{traced_call}
use Rattle.turns.specs.Capture.{caught_of, capture_call}
use Rattle.turns.specs.Asked.{NamedBy}
use Rattle.turns.specs.Types.{Track, Sent, Step, Reading, Choice, Submit, Finish, Wait, completion}
use Rattle.turns.specs.Types.{Outcome, Verdict, WrongSlot, Good, Bad, Catch}

settle-named : (v : Verdict) (sent : Sent) (t : Track) (slot status : ℕ) → NamedBy (settle v sent t slot status).heard (completion slot status)
settle-named WrongSlot sent t slot status = tt
settle-named Good sent t slot status = refl
settle-named (Bad r) sent t slot status = refl

hear-named : (o : Outcome) (sent : Sent) (t : Track) (reading : Reading) → NamedBy (hear o sent t reading).heard reading
hear-named o sent t None = tt
hear-named o sent t (Some c) = settle-named (judge_of t c.slot o) sent t c.slot c.status

act-named : (c : Choice) (t : Track) (o : Outcome) (reading : Reading) → NamedBy (act c t o reading).heard reading
act-named Submit t o reading = hear-named o (sent_of t) (submit t) reading
act-named Finish t o reading = tt
act-named Wait t o reading = hear-named o None t reading

turn-named : (least : ℕ) (t : Track) (o : Outcome) (reading : Reading) → NamedBy (counted_of (turn_of least t o reading)).heard reading
unfolding turn_of
turn-named least t o reading =
    let e = act-named (choose_of least t) t o reading in
    counted-cases (λ s. NamedBy s.heard reading) (turn_of least t o reading) (turn-plain least t o reading) (λ _. e) (λ _ _. e)

pub traced-named : (t : Track) (len room : ℕ) (reading : Reading) → NamedBy (traced_call t len room reading).heard reading
unfolding traced_call
traced-named t len room reading =
    let P : Step → Type 0 = λ s. NamedBy s.heard reading in
    guarded-by P _ _ _
    (λ _. guarded-by P _ _ _
    (λ _. guarded-by P _ _ _ (λ _. guarded-by P _ _ _ (λ _. turn-named t.descriptors t (comes_to played_of reading) reading) (λ _. tt)) (λ _. tt))
    (λ _. tt))
    (λ _. tt)

pub capture-named : (t : Track) (len : ℕ) (c : Catch) → NamedBy (capture_call t len c).heard c.reading
unfolding capture_call
capture-named t len c =
    let P : Step → Type 0 = λ s. NamedBy s.heard c.reading in
    guarded-by P _ _ _
    (λ _. guarded-by P _ _ _
    (λ _. guarded-by P _ _ _ (λ _. guarded-by P _ _ _ (λ _. turn-named t.descriptors t (caught_of t c) c.reading) (λ _. tt)) (λ _. tt))
    (λ _. tt))
    (λ _. tt)
