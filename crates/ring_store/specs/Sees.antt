-- What a host sees of a playback on a ring's store: before each turn what is offered, as it stands in the lent result, and after it what the turn answers.
-- That this is the log of which demand 3 speaks is `sees-log` (SeesLog).
-- Assumes nothing.
use Rattle.std.specs.Prelude.{ℕ, zero, suc, List, [], ◌∷◌, eqb}
use Rattle.std.proofs.lemmas.List.Edits.{sets}
use Rattle.layout.specs.Lent.{Shown, shown}
use Rattle.codes.specs.Says.{guard}
use Rattle.turns.specs.Ring.{going, said_word}
use Rattle.turns.specs.Calls.{says_sent}
use Rattle.turns.specs.Log.{Line}
use Rattle.ring_store.specs.Calls.{offer_in, words}
use Rattle.ring_store.specs.Run.{Words, first_words, rest_words, turn_by}

-- one turn: what was offered, and the answer
pub record SeenTurn : Type 0 where
  pub offers : Shown
  pub answer : ℕ

-- the host's loop: an offer, then a turn, as long as that answers 512; one result slice is lent again and again
unfoldable pub sees_in : ℕ → ℕ → List ℕ → List ℕ → List Words → List SeenTurn
sees_in len zero s res script = []
sees_in len (suc fuel) s res script =
    let l = turn_by len s (first_words script) in
    record { offers = offer_in s len res; answer = l.answer } ∷ guard (eqb l.answer going) [] (sees_in len fuel l.store res (rest_words script))

-- a line of the log as it is seen: 0, and in the result what the turn sent (1, slot, offset and length, or zeros); then the word of what it said
abbrev pub seen_of : List ℕ → Line → SeenTurn
seen_of res l = record { offers = shown 0 (sets res 0 (words (says_sent l.sent).values)); answer = said_word l.said }
