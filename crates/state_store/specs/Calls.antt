-- The calls on a state that stands in a lent byte store: the call by value on the state that the store holds, and the state that it leaves, written
-- over it. A store under 14,703 bytes, or a result slice under 512, gets 10 and nothing is looked at.
-- Assumes nothing.
use Rattle.std.specs.Prelude.{ℕ, ◌+◌, Bool, true, false, ◌&&◌, List, [], ◌∷◌, ◌++◌, length, take, nat_le, Result, Ok, Err}
use Rattle.std.proofs.lemmas.List.Edits.{sets}
use Rattle.layout.specs.Bytes.{le}
use Rattle.layout.specs.Layout.{write}
use Rattle.layout.specs.Rows.{rows_bytes}
use Rattle.codes.specs.Says.{guard}
use Rattle.pending.specs.Table.{none_in}
use Rattle.codes.specs.Answers.{refusal_word}
use Rattle.exchange.specs.State.{new_sound}
use Rattle.sound_core.specs.Consistent.{consistent_of}
use Rattle.exchange.specs.Tables.{sound_after}
use Rattle.sound_core.specs.Reply.{reply_word, message_after}
use Rattle.exchange.specs.Exchange.{step_of, call_of, feed_of, fail_of}
use Rattle.exchange.specs.Xfer.{xfer_as, set_up_with}
use Rattle.sound_core.specs.declared.plan.Value.TheVariants as value
use Rattle.sound_core.specs.declared.reply.Reply.TheVariants as reply
use Rattle.state_store.specs.Places.{state_size}
use Rattle.layout.specs.Lent.{Made, made, Shown, shown, result_size, message_size}
use Rattle.state_store.specs.Store.{sound_of, sound_bytes, state_after}
use Rattle.state_store.specs.Types.{Written, Refusal, Track, Call, Xfer, Capture, Counts, Value, Plan, Reply, StreamList}

-- an answer as one word, and what state, message and result hold then
pub record Told : Type 0 where
  pub answer : ℕ
  pub state : List ℕ
  pub message : List ℕ
  pub result : List ℕ

abbrev pub left : ℕ → List ℕ → List ℕ → List ℕ → Told
left a s m r = record { answer = a; state = s; message = m; result = r }

-- ---- a result: a number in 8 bytes; a range as min 1, max 1; a list of streams as its count 4, then each id 4

abbrev pub value_bytes : Value → StreamList → List ℕ
value_bytes value.Nothing l = []
value_bytes (value.Number x) l = le 8 x
value_bytes (value.Range min max) l = write (1 ∷ 1 ∷ []) (min ∷ max ∷ [])
value_bytes (value.Streams direction) l = le 4 l.count ++ rows_bytes (le 4) (take l.count l.ids)

abbrev pub result_bytes : Result Reply Refusal → StreamList → List ℕ
result_bytes (Ok (reply.Send n)) l = []
result_bytes (Ok (reply.Done v)) l = value_bytes v l
result_bytes (Err r) l = []

-- ---- a plan, carried out on the store

abbrev pub told : List ℕ → Plan → List ℕ → List ℕ → List ℕ → Told
told s p page m r =
    let x = step_of p (sound_of s) page in
    record {
      answer = reply_word x.reply;
      state = state_after s x.sound;
      message = message_after p.say m;
      result = sets r 0 (result_bytes x.reply x.streams);
    }

abbrev pub too_short : List ℕ → List ℕ → List ℕ → Told
too_short s m r = left 10 s m r

abbrev pub lengths : List ℕ → List ℕ → Bool
lengths s r = nat_le state_size (length s) && nat_le result_size (length r)

unfoldable pub call_in : List ℕ → Track → Call → List ℕ → List ℕ → Told
call_in s t call m r = guard (lengths s r) (too_short s m r)
    (told s (call_of (sound_of s) t call (length m)) [] m r)

-- an answer page, of which so much was written
unfoldable pub feed_in : Written → List ℕ → List ℕ → List ℕ → List ℕ → Told
feed_in w s page m r = guard (lengths s r) (too_short s m r)
    (told s (feed_of w (sound_of s) page (length m)) page m r)

unfoldable pub fail_in : List ℕ → List ℕ → List ℕ → Told
fail_in s m r = guard (lengths s r) (too_short s m r)
    (told s (fail_of (sound_of s) (length m)) [] m r)

-- ---- the start of a transfer, as far as the state goes: an answer, or a transfer by periods that the ring is to start

pub record Opened : Type 0 where
  pub opening : Result ℕ ℕ
  pub state : List ℕ
  pub message : List ℕ

abbrev pub opened : Result ℕ ℕ → List ℕ → List ℕ → Opened
opened o s m = record { opening = o; state = s; message = m }

abbrev pub shut : List ℕ → List ℕ → Refusal → Opened
shut s m x = record { opening = Err (refusal_word x); state = s; message = m }

abbrev pub setting_up_with : List ℕ → Call → List ℕ → Opened
setting_up_with s call m =
    let p = set_up_with (sound_of s) call in
    record { opening = Err (256 + 16); state = state_after s (sound_after p.effect p.core (sound_of s) []); message = message_after p.say m }

abbrev pub setting_up : List ℕ → ℕ → List ℕ → Opened
setting_up s stream m = setting_up_with s (Xfer stream) m

-- of a capture or a playback, with the call that waits
abbrev pub open_as : Bool → Call → List ℕ → Track → ℕ → List ℕ → Opened
open_as capture call s t stream m =
    xfer_as capture (nat_le state_size (length s) && nat_le message_size (length m)) (none_in (sound_of s).pending) (sound_of s) t stream (shut s m) (setting_up_with s call m)
    (λ period. record { opening = Ok period; state = s; message = m })

unfoldable pub open_in : List ℕ → Track → ℕ → List ℕ → Opened
open_in s t stream m = open_as false (Xfer stream) s t stream m

unfoldable pub open_capture_in : List ℕ → Track → ℕ → List ℕ → Opened
open_capture_in s t stream m = open_as true (Capture stream) s t stream m

-- ---- a new state, with the guard or without, and the reads of the configured counts: 1 for a state that fails the consistency test

abbrev pub new_in : Bool → List ℕ → ℕ → ℕ → ℕ → Made
new_in on s jacks streams maps =
    guard (nat_le state_size (length s)) (made 10 s)
    (made 0 (sets s 0 (sound_bytes (new_sound on jacks streams maps))))

abbrev pub jack_count : Counts → ℕ
jack_count n = n.jacks

abbrev pub stream_count : Counts → ℕ
stream_count n = n.streams

abbrev pub map_count : Counts → ℕ
map_count n = n.maps

unfoldable pub count_in : List ℕ → (Counts → ℕ) → List ℕ → Shown
count_in s count r =
    let c = (sound_of s).core in
    guard (lengths s r) (shown 10 r)
    (guard (consistent_of c) (shown 1 r)
    (shown 0 (sets r 0 (le 8 (count c.counts)))))
