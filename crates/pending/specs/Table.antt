-- The pending table: a submission takes the lowest free place, a completion marks its token, finishing frees it.
-- Assumes nothing.
use Rattle.std.specs.Prelude.{Bool, not, List, [], ◌∷◌, ℕ, suc, ◌+◌, ltb, eqb, get_or, set, take, replicate, Result, Ok, Err}
use Rattle.codes.specs.Says.{Says, pick, guard}
use Rattle.codes.specs.Answers.{says_result}
use Rattle.pending.specs.Types.{Status, Refusal, InvalidParam, IoError, WrongToken, NotYet, Token, Pending, Seen, Told, Judged}
use Rattle.pending.specs.declared.table.Seen.TheVariants as seen

-- ---- a token

abbrev pub free_token : Token
free_token = record { state = 0; status = 0 }

abbrev pub waits : Token
waits = record { state = 1; status = 0 }

abbrev pub marked : ℕ → Token
marked status = record { state = 2; status = status }

abbrev pub new_pending : Pending
new_pending = record { tokens = replicate 32 free_token }

-- past the table there is a free one
abbrev pub token_at : Pending → ℕ → Token
token_at p k = get_or p.tokens k free_token

-- "demand 3 counts every pending token, marked or not, as in flight"
abbrev pub pending_at : Pending → ℕ → Bool
pending_at p k = not (eqb (token_at p k).state 0)

abbrev pub waits_at : Pending → ℕ → Bool
waits_at p k = eqb (token_at p k).state 1

abbrev pub put : Pending → ℕ → Token → Pending
put p k t = record { tokens = set p.tokens k t }

-- ---- how many

abbrev pub weight_of : Token → ℕ
weight_of t = pick (eqb t.state 0) 0 1

abbrev pub count_of : List Token → ℕ
count_of [] = 0
count_of (t ∷ ts) = weight_of t + count_of ts

abbrev pub count_in : Pending → ℕ
count_in p = count_of p.tokens

-- nothing is pending
abbrev pub none_in : Pending → Bool
none_in p = eqb (count_in p) 0

-- ---- the lowest free place

-- so many places as the table has tokens for
abbrev pub bound_of : ℕ → ℕ
bound_of places = pick (ltb places 32) places 32

-- "the lowest free": as many as there are where none is
abbrev pub lowest_of : List Token → ℕ
lowest_of [] = 0
lowest_of (t ∷ ts) = pick (eqb t.state 0) 0 (suc (lowest_of ts))

unfoldable pub lowest_in : Pending → ℕ → ℕ
lowest_in p places = lowest_of (take (bound_of places) p.tokens)

-- ---- WHAT BECOMES OF A TOKEN, and what is said of it

abbrev pub told : Token → Result (Unit {0}) Refusal → Told
told t x = record { token = t; said = x }

-- "A completion reading marks its token"; "a token not pending, or completed twice, gives 6"
unfoldable pub mark_token : Token → ℕ → Told
mark_token t status =
    guard (eqb t.state 1) (told t (Err WrongToken))
    (told (marked status) (Ok tt))

-- "and answers Ok, or 2 for a status not ok": 2 carries the status
abbrev pub end_of : ℕ → Result (Unit {0}) Refusal
end_of status = pick (eqb status 0x8000) (Ok tt) (Err (IoError (Status status)))

-- "finish takes marked tokens in any order, frees the place, ..": "a token not pending .. gives 6, finishing one not marked 16 NotYet"
unfoldable pub finish_token : Token → Told
finish_token t =
    guard (not (eqb t.state 0)) (told t (Err WrongToken))
    (guard (not (eqb t.state 1)) (told t (Err NotYet))
    (told free_token (end_of t.status)))

-- what a reader is told
unfoldable pub seen_token : Token → Seen
seen_token t =
    guard (not (eqb t.state 0)) seen.Free
    (guard (not (eqb t.state 1)) seen.Waits
    (seen.Marked t.status))

-- ---- the same, of a table

abbrev pub judged_at : Pending → ℕ → Told → Judged
judged_at p k t = record { table = put p k t.token; said = t.said }

abbrev pub mark_of : Pending → ℕ → ℕ → Judged
mark_of p token status = judged_at p token (mark_token (token_at p token) status)

abbrev pub finish_of : Pending → ℕ → Judged
finish_of p token = judged_at p token (finish_token (token_at p token))

unfoldable pub seen_of : Pending → ℕ → Result Seen Refusal
seen_of p token = guard (ltb token 32) (Err InvalidParam)
    (Ok (seen_token (token_at p token)))

-- the number and the values of each answer
abbrev pub says_outcome : Result (Unit {0}) Refusal → Says
says_outcome = says_result (λ _. [])

-- 0 free, 1 waits, 2 marked, and its status
abbrev pub seen_values : Seen → List ℕ
seen_values seen.Free = 0 ∷ 0 ∷ []
seen_values seen.Waits = 1 ∷ 0 ∷ []
seen_values (seen.Marked status) = 2 ∷ status ∷ []

abbrev pub says_seen : Result Seen Refusal → Says
says_seen = says_result seen_values
