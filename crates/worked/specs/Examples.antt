-- Document 01's worked numbers: "P marks the ten proved together, as one table under a single statement over the definitions."
-- Assumes nothing.
use Rattle.std.specs.Prelude.{◌≡◌, ℕ, ◌+◌, ◌*◌, true, false, List, [], ◌∷◌, replicate, refl, None}
use Rattle.layout.specs.Bytes.{le, un, bytes_at, num_at}
use Rattle.layout.specs.Layout.{size}
use Rattle.codes.specs.Says.{guard}
use Rattle.codes.specs.declared.answers.Refusal.TheVariants.{OutOfTurns}
use Rattle.records.specs.Records.{pcm_info}
use Rattle.tables.specs.Tables.{judged}
use Rattle.turns.specs.Consistent.{placed_of, paced_of}
use Rattle.turns.specs.Ring.{direct, new_track}
use Rattle.turns.specs.Worked as turns
use Rattle.sound_core.specs.State.{new_core, with_stage, asked_params}
use Rattle.sound_core.specs.Consistent.{consistent_of}
use Rattle.sound_core.specs.Plan.{own_set, begin_of, read_to, after_streams, answer_of}
use Rattle.sound_core.specs.Reply.{message_after, says_reply, reply_of}
use Rattle.exchange.specs.State.{new_sound, with_core}
use Rattle.exchange.specs.Exchange.{call_of, feed_of}
use Rattle.worked.specs.Types.{Going, Done, Ended, Call, SetParams, Streams, StreamsAsked, Sound, completion}

-- a state of n streams whose set-up is done
abbrev ready : ℕ → Sound
ready n = with_core (read_to (new_core false 0 n 0) 0 n 0 true) (new_sound false 0 n 0)

-- a state of n streams that waits for the answer to the query of streams
abbrev asking : ℕ → Sound
asking n = with_core (with_stage (new_core false 0 n 0) (StreamsAsked (Streams 0))) (new_sound false 0 n 0)

-- what a call answers, and the message buffer of 24 zeros afterwards
abbrev calls : Sound → Call → ℕ × List ℕ
calls s call =
    let p = call_of s (new_track direct) call 24 in
    ((says_reply (reply_of p.say)).number, message_after p.say (replicate 24 0))

-- set parameters, stream 1, features 0, 2 channels, S16, 48000
abbrev sets : ℕ → ℕ → Call
sets buffer period = SetParams 1 (asked_params buffer period 0 2 5 7)

-- the bytes of a header and n records of streams, and what a page with an ok header and zeros answers to the query of n streams
abbrev feeds : ℕ → ℕ × ℕ
feeds n = (4 + n * size pcm_info, (says_reply (reply_of (feed_of None (asking n) (0x00 ∷ 0x80 ∷ replicate 4094 0) 24).say)).number)

pub examples :
    -- "set parameters, stream 1, buffer 8192, period 2048, features 0, 2 channels, S16, 48000:
    -- 01 01 00 00 01 00 00 00 00 20 00 00 00 08 00 00 00 00 00 00 02 05 07 00"
    (calls (ready 2) (sets 8192 2048)
    ≡ (256 + 24, 0x01 ∷ 0x01 ∷ 0x00 ∷ 0x00 ∷ 0x01 ∷ 0x00 ∷ 0x00 ∷ 0x00 ∷ 0x00 ∷ 0x20 ∷ 0x00 ∷ 0x00 ∷ 0x00 ∷ 0x08 ∷ 0x00 ∷ 0x00 ∷ 0x00 ∷ 0x00 ∷ 0x00 ∷ 0x00 ∷ 0x02 ∷ 0x05 ∷ 0x07 ∷ 0x00 ∷ []))
    -- "query of 3 jacks: 01 00 00 00 00 00 00 00 03 00 00 00 18 00 00 00": the first call on a new state
    × (calls (new_sound false 3 2 0) (Streams 0)
    ≡ (256 + 16, 0x01 ∷ 0x00 ∷ 0x00 ∷ 0x00 ∷ 0x00 ∷ 0x00 ∷ 0x00 ∷ 0x00 ∷ 0x03 ∷ 0x00 ∷ 0x00 ∷ 0x00 ∷ 0x18 ∷ 0x00 ∷ 0x00 ∷ 0x00 ∷ replicate 8 0))
    -- "buffer 8, period 8 is sent"
    × ((calls (ready 2) (sets 8 8)).0 ≡ 256 + 24)
    -- "buffer 8, period 3 gives 1"
    × (calls (ready 2) (sets 8 3) ≡ (1, replicate 24 0))
    -- "period 0 gives 1"
    × (calls (ready 2) (sets 8 0) ≡ (1, replicate 24 0))
    -- "127 streams with ok fit (4,068 bytes)": the next query goes out
    × (feeds 127 ≡ (4068, 256 + 16))
    -- "128 give 5 (4,100)"
    × (feeds 128 ≡ (4100, 5))
    -- "empty frames: Ok on turn 1"
    × (turns.comes_to 0 4 5 [] ≡ (Going, Done, 1, [], 0))
    -- "10 bytes, period 4: lengths 4, 4, 2; a right completion every turn: Ok on turn 4"
    × (turns.comes_to 10 4 9 (completion 0 0x8000 ∷ completion 1 0x8000 ∷ completion 2 0x8000 ∷ []) ≡ (Going, Done, 4, 4 ∷ 4 ∷ 2 ∷ [], 0))
    -- "11 periods, all quiet, budget 12: answer 9, 10 in flight"
    × (turns.comes_to 11 1 12 [] ≡ (Going, Ended OutOfTurns, 12, replicate 10 1, 10))
unfolding call_of feed_of begin_of answer_of after_streams own_set consistent_of placed_of paced_of guard judged num_at bytes_at un le
examples = (refl, refl, refl, refl, refl, refl, refl, (turns.worked).0, (turns.worked).1, (turns.worked).2)
