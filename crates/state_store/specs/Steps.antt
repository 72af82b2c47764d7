-- What the private functions promise, where the public definitions have no name for it: the steps between them.
-- Assumes nothing.
use Rattle.std.specs.Prelude.{◌≡◌, ℕ, ◌+◌, ◌*◌, Bool, List, [], ◌∷◌, length, take, nat_lt, Result, Ok, Err}
use Rattle.std.proofs.lemmas.List.Edits.{sets}
use Rattle.layout.specs.Bytes.{le}
use Rattle.codes.specs.Says.{guard, pick}
use Rattle.sound_core.specs.Consistent.{consistent_of}
use Rattle.layout.specs.Lent.{Shown, shown}
use Rattle.state_store.specs.Calls.{Told, left, result_bytes, Opened, opened}
use Rattle.layout.specs.Rows.{rows_bytes}
use Rattle.tables.specs.Tables.{pcms_in}
use Rattle.exchange.specs.State.{pcms_of}
use Rattle.exchange.specs.Exchange.{ids_from, list_of}
use Rattle.sound_core.specs.Reply.{reply_word, message_after, reply_of}
use Rattle.state_store.specs.Store.{sound_of, sound_bytes}
use Rattle.sound_core.specs.Plan.{query_of, send_of}
use Rattle.exchange.specs.Tables.{sound_after}
use Rattle.codes.specs.Says as answers
use Rattle.codes.specs.Answers.{refusal_word}
use Rattle.pending.specs.Table.{waits}
use Rattle.pending.specs.Places.{placed_in}
use Rattle.state_store.specs.Places.{tokens_place}
use Rattle.state_store.specs.Store.{token_bytes}
use Rattle.state_store.specs.Types.{Core, Counts, Call, JacksAsked, Effect, Nothing, Plan, Token, Refusal}

abbrev pub count_by : Core → ℕ → List ℕ → Shown
count_by c n r = guard (consistent_of c) (shown 1 r)
    (shown 0 (sets r 0 (le 8 n)))

-- the ids of a direction among the first n streams of the tables
abbrev pub ids_in : List ℕ → ℕ → ℕ → List ℕ
ids_in t d n = ids_from d 0 (take n (pcms_in t))

pub record Listed (r ids : List ℕ) (count : ℕ) (now : List ℕ) : Type 0 where
  pub counted : count ≡ length ids
  pub stored : now ≡ sets r 4 (rows_bytes (le 4) ids)

abbrev pub counts_row : List ℕ
counts_row = 4 ∷ 4 ∷ 4 ∷ 4 ∷ 4 ∷ 4 ∷ []

abbrev pub counts_values : Counts → Counts → List ℕ
counts_values n r = n.jacks ∷ n.streams ∷ n.maps ∷ r.jacks ∷ r.streams ∷ r.maps ∷ []

abbrev pub changed : Bool → List ℕ → Effect → Core → List ℕ → List ℕ
changed w s e c page = pick w (sets s 0 (sound_bytes (sound_after e c (sound_of s) page))) s

abbrev pub finished : Bool → List ℕ → Plan → List ℕ → List ℕ → List ℕ → Told
finished w s p page m r =
    left (reply_word (reply_of p.say)) (changed w s p.effect p.core page) (message_after p.say m)
    (sets r 0 (result_bytes (reply_of p.say) (list_of p.say p.core.read.streams (pcms_of (sound_of s)))))

-- a transfer that waits for set-up, by the core at hand
abbrev pub setting_up_by : Bool → Core → List ℕ → Call → List ℕ → Opened
setting_up_by w c s call m =
    let p = send_of c (JacksAsked call) (query_of 0x0001 c.counts.jacks 24) Nothing in
    opened (Err (256 + 16)) (changed w s p.effect p.core []) (message_after p.say m)

-- ---- what is pending: one token is stored, and no other byte
abbrev pub token_over : List ℕ → ℕ → Token → List ℕ
token_over s k t = pick (nat_lt k 32) (sets s (tokens_place + k * 8) (token_bytes t)) s

-- numbers told in a result, 8 bytes each
abbrev pub shown_of : List ℕ → answers.Says → Shown
shown_of r x = shown x.number (sets r 0 (rows_bytes (le 8) x.values))

-- a submission that found one of so many places, or none: it says nothing in the message
pub record Held : Type 0 where
  pub answer : ℕ
  pub state : List ℕ
  pub places : List ℕ
  pub result : List ℕ

abbrev pub held : ℕ → List ℕ → List ℕ → List ℕ → Held
held a s places r = record { answer = a; state = s; places = places; result = r }

abbrev pub held_by : ℕ → List ℕ → ℕ → List ℕ → List ℕ → List ℕ → Result ℕ Refusal → Held
held_by many s stream payload places r (Err x) = held (refusal_word x) s places r
held_by many s stream payload places r (Ok k) = held 0 (token_over s k waits) (placed_in places many k stream payload) (sets r 0 (le 8 k))
