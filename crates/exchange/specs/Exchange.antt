-- The calls and feeds on the state: what is answered, what the state is then, and what the lent message buffer holds.
-- Assumes nothing.
use Rattle.std.specs.Prelude.{◌≡◌, ℕ, suc, ◌+◌, ◌-◌, ◌&&◌, List, [], ◌∷◌, ◌++◌, length, take, replicate, ◌==◌, nat_le, Err, Result, Ok}
use Rattle.tables.specs.Tables.{page_ok}
use Rattle.layout.specs.Lent.{message_size}
use Rattle.codes.specs.Says.{Says, says, pick, guard}
use Rattle.codes.specs.Answers.{says_refusal}
use Rattle.tables.specs.declared.verdict.Fault.TheVariants as fault
use Rattle.sound_core.specs.Plan.{refuse_of, begin_of, answer_of, verdict_by}
use Rattle.sound_core.specs.Reply.{request_bytes, message_after, reply_of}
use Rattle.sound_core.specs.declared.plan.Value.TheVariants as value
use Rattle.sound_core.specs.declared.reply.Reply.TheVariants as reply
use Rattle.exchange.specs.State.{pcms_of}
use Rattle.exchange.specs.Tables.{look_of, pending_look, sound_after}
use Rattle.exchange.specs.Types.{Refusal, Written, QueueFailed, BadLength, PcmInfo, Track, Call, Value, Say, Send, Done, Plan, Reply, Sound, StreamList, Step}

-- ---- "ascending ids with direction 0, or 1. Other directions are in neither list."

abbrev pub ids_from : ℕ → ℕ → List PcmInfo → List ℕ
ids_from direction i [] = []
ids_from direction i (p ∷ ps) = pick (p.direction == direction) (i ∷ ids_from direction (suc i) ps) (ids_from direction (suc i) ps)

-- a list of ids in an array of 127, with its count
abbrev pub listed : List ℕ → StreamList
listed ids = record { count = length ids; ids = ids ++ replicate (127 - length ids) 0 }

abbrev pub ids_by : Value → ℕ → List PcmInfo → List ℕ
ids_by value.Nothing n pcms = []
ids_by (value.Number x) n pcms = []
ids_by (value.Range min max) n pcms = []
ids_by (value.Streams direction) n pcms = ids_from direction 0 (take n pcms)

abbrev pub list_of : Result Say Refusal → ℕ → List PcmInfo → StreamList
list_of (Ok (Send q)) n pcms = listed []
list_of (Ok (Done v)) n pcms = listed (ids_by v n pcms)
list_of (Err r) n pcms = listed []

-- ---- what a plan comes to, with the page at hand

abbrev pub step_of : Plan → Sound → List ℕ → Step
step_of p s page =
    record {
      sound = sound_after p.effect p.core s page;
      reply = reply_of p.say;
      streams = list_of p.say p.core.read.streams (pcms_of s);
    }

-- document 01's number and values of a step, and of what a plan says: a request of n bytes to send is 256 + n, as at the C boundary; a list of streams is its ids
abbrev pub list_values : Value → List ℕ → List ℕ
list_values value.Nothing ids = []
list_values (value.Number x) ids = x ∷ []
list_values (value.Range min max) ids = min ∷ max ∷ []
list_values (value.Streams direction) ids = ids

abbrev pub says_beside : Result Reply Refusal → StreamList → Says
says_beside (Ok (reply.Send n)) l = says (256 + n) []
says_beside (Ok (reply.Done v)) l = says 0 (list_values v (take l.count l.ids))
says_beside (Err r) l = says_refusal r

abbrev pub says_step : Step → Says
says_step x = says_beside x.reply x.streams

abbrev pub says_say : Result Say Refusal → ℕ → List PcmInfo → Says
says_say (Ok (Send q)) n pcms = says (256 + length (request_bytes q)) []
says_say (Ok (Done v)) n pcms = says 0 (list_values v (ids_by v n pcms))
says_say (Err r) n pcms = says_refusal r

-- what a call or a feed returns, document 01's number and values of it, and what it leaves in the message buffer: m before, n after
pub record Stepped (p : Plan) (s : Sound) (page m n : List ℕ) (r : Step) : Type 0 where
  pub step : r ≡ step_of p s page
  pub said : says_step r ≡ says_say p.say p.core.read.streams (pcms_of s)
  pub message : n ≡ message_after p.say m

-- A CALL, with a ring that tells whether a transfer runs or a slot is in flight, and a message buffer of n bytes
unfoldable pub call_of : Sound → Track → Call → ℕ → Plan
call_of s t call n = guard (nat_le message_size n) (refuse_of s.core BadLength)
    (begin_of s.core t call (look_of s call))

-- A FEED of an answer page, of which so much was written
unfoldable pub feed_of : Written → Sound → List ℕ → ℕ → Plan
feed_of w s page n =
    guard (page_ok w page && nat_le message_size n) (refuse_of s.core BadLength)
    (answer_of s.core (verdict_by w s.core.stage s.core.counts page) (pending_look s.core.stage s))

-- A FEED of a queue failure
unfoldable pub fail_of : Sound → ℕ → Plan
fail_of s n = guard (nat_le message_size n) (refuse_of s.core BadLength)
    (answer_of s.core (Err (fault.Refused QueueFailed)) (pending_look s.core.stage s))
