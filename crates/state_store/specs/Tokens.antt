-- Submissions that do not wait, on a state that stands in a lent byte store: the call by value on the state that the store holds, and the state that it leaves, written over it. A store
-- under 14,703 bytes, or a result slice under 512, gets 10 and nothing is looked at.
-- Assumes nothing.
use Rattle.std.specs.Prelude.{ℕ, ◌+◌, true, List, length, nat_le, Result, Ok, Err}
use Rattle.std.proofs.lemmas.List.Edits.{sets}
use Rattle.layout.specs.Bytes.{le}
use Rattle.layout.specs.Rows.{rows_bytes}
use Rattle.layout.specs.Lent.{Made, made, Shown, shown, message_size}
use Rattle.codes.specs.Says as answers
use Rattle.codes.specs.Says.{guard}
use Rattle.codes.specs.Answers.{refusal_word}
use Rattle.pending.specs.Table.{count_in, says_seen}
use Rattle.turns.specs.Script.{reading_of}
use Rattle.exchange.specs.State.{configured_of}
use Rattle.exchange.specs.Xfer.{xfer_by}
use Rattle.exchange.specs.Submit.{places_of, refused_nb, set_up_nb, submit_of, nb_store, nb_message, mark_step, finish_step, token_seen}
use Rattle.exchange.specs.declared.nonblocking.NbReply.TheVariants as nb
use Rattle.state_store.specs.Places.{state_size}
use Rattle.state_store.specs.Store.{sound_of, state_after}
use Rattle.state_store.specs.Calls.{lengths}
use Rattle.state_store.specs.Types.{Refusal, Track, Sound, NbReply, NbStep, NbEnd}

-- ---- A SUBMISSION: its answer as one word, and what state, places, message and result hold then

pub record Submitted : Type 0 where
  pub answer : ℕ
  pub state : List ℕ
  pub places : List ℕ
  pub message : List ℕ
  pub result : List ℕ

abbrev pub submitted : ℕ → List ℕ → List ℕ → List ℕ → List ℕ → Submitted
submitted a s places m r = record { answer = a; state = s; places = places; message = m; result = r }

-- a request of n bytes to send is 256 + n
abbrev pub nb_word : Result NbReply Refusal → ℕ
nb_word (Ok (nb.Send n)) = 256 + n
nb_word (Ok (nb.Token k)) = 0
nb_word (Err x) = refusal_word x

-- the token, in 8 bytes
abbrev pub nb_result : Result NbReply Refusal → List ℕ → List ℕ
nb_result (Ok (nb.Send n)) r = r
nb_result (Ok (nb.Token k)) r = sets r 0 (le 8 k)
nb_result (Err x) r = r

abbrev pub nb_left : ℕ → List ℕ → ℕ → List ℕ → List ℕ → List ℕ → List ℕ → NbStep → Submitted
nb_left many s stream payload places m r x =
    submitted (nb_word x.reply) (state_after s x.sound) (nb_store many x.reply stream payload places) (nb_message x.reply (sound_of s) stream m) (nb_result x.reply r)

-- the submission by value, with the ring's track to tell Busy and the places
abbrev pub nb_step : Sound → Track → ℕ → ℕ → ℕ → ℕ → NbStep
nb_step x t stream n len m = xfer_by (nat_le message_size m) true x t stream (refused_nb x) (set_up_nb x stream) (submit_of (places_of t.descriptors) x n len)

unfoldable pub nb_in : List ℕ → Track → ℕ → List ℕ → List ℕ → List ℕ → List ℕ → Submitted
nb_in s t stream payload places m r =
    guard (lengths s r) (submitted 10 s places m r)
    (nb_left (places_of t.descriptors) s stream payload places m r (nb_step (sound_of s) t stream (length payload) (length places) (length m)))

-- ---- A COMPLETION READING, AND FINISHING

abbrev pub outcome_word : Result (Unit {0}) Refusal → ℕ
outcome_word (Ok _) = 0
outcome_word (Err x) = refusal_word x

abbrev pub end_left : List ℕ → NbEnd → Made
end_left s x = made (outcome_word x.said) (state_after s x.sound)

unfoldable pub mark_in : List ℕ → ℕ → ℕ → ℕ → Made
mark_in s kind token status =
    guard (nat_le state_size (length s)) (made 10 s)
    (end_left s (mark_step (sound_of s) (reading_of kind token status)))

unfoldable pub finish_in : List ℕ → ℕ → Made
finish_in s token =
    guard (nat_le state_size (length s)) (made 10 s)
    (end_left s (finish_step (sound_of s) token))

-- ---- what is pending: values of 8 bytes each

abbrev pub said_in : List ℕ → List ℕ → answers.Says → Shown
said_in s r x =
    guard (lengths s r) (shown 10 r)
    (shown x.number (sets r 0 (rows_bytes (le 8) x.values)))

-- how many, marked or not
unfoldable pub pending_in : List ℕ → List ℕ → Shown
pending_in s r = said_in s r (configured_of (sound_of s).core (count_in (sound_of s).pending))

-- a token: 0 free, 1 waits, 2 marked, and its status
unfoldable pub seen_in : List ℕ → ℕ → List ℕ → Shown
seen_in s token r = said_in s r (says_seen (token_seen (sound_of s) token))
