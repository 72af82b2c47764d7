-- What a plan says, and what the lent message buffer holds then.
-- Assumes nothing.
use Rattle.std.specs.Prelude.{ℕ, ◌+◌, List, [], ◌∷◌, ◌++◌, length, drop, nat_le, Result, Ok, Err}
use Rattle.layout.specs.Lent.{message_size}
use Rattle.layout.specs.Layout.{write}
use Rattle.codes.specs.Says.{Says, says, guard}
use Rattle.codes.specs.Answers.{says_refusal, refusal_word}
use Rattle.records.specs.Records.{query, query_values, remap, remap_values, pcm_command, pcm_command_values, set_parameters, set_parameters_values}
use Rattle.sound_core.specs.declared.plan.Request.TheVariants as request
use Rattle.sound_core.specs.declared.plan.Value.TheVariants as value
use Rattle.sound_core.specs.Types.{Refusal, BadLength, Request, Value, Say, Send, Done, Reply}
use Rattle.sound_core.specs.declared.reply.Reply.TheVariants as reply

-- ---- the message

abbrev pub request_bytes : Request → List ℕ
request_bytes (request.Query q) = write query (query_values q)
request_bytes (request.Remap r) = write remap (remap_values r)
request_bytes (request.Command c) = write pcm_command (pcm_command_values c)
request_bytes (request.Set p) = write set_parameters (set_parameters_values p)

-- "Only the message's own bytes are written; a result writes none."
abbrev pub message_after : Result Say Refusal → List ℕ → List ℕ
message_after (Ok (Send q)) l = request_bytes q ++ drop (length (request_bytes q)) l
message_after (Ok (Done v)) l = l
message_after (Err r) l = l

-- document 01's number and values of a reply: a request of n bytes to send is 256 + n, as at the C boundary; a list of streams stands beside its reply
abbrev pub values_of : Value → List ℕ
values_of value.Nothing = []
values_of (value.Number x) = x ∷ []
values_of (value.Range min max) = min ∷ max ∷ []
values_of (value.Streams direction) = []

abbrev pub says_reply : Result Reply Refusal → Says
says_reply (Ok (reply.Send n)) = says (256 + n) []
says_reply (Ok (reply.Done v)) = says 0 (values_of v)
says_reply (Err r) = says_refusal r

-- the same as one word at the C boundary: a refusal's status stands in its high half
abbrev pub reply_word : Result Reply Refusal → ℕ
reply_word (Ok (reply.Send n)) = 256 + n
reply_word (Ok (reply.Done v)) = 0
reply_word (Err r) = refusal_word r

abbrev pub reply_of : Result Say Refusal → Result Reply Refusal
reply_of (Ok (Send q)) = Ok (reply.Send (length (request_bytes q)))
reply_of (Ok (Done v)) = Ok (reply.Done v)
reply_of (Err r) = Err r

-- the same told in a message of any length: a short one is refused, and nothing is written
abbrev pub tell_of : Result Say Refusal → ℕ → Result Reply Refusal
tell_of a n = guard (nat_le message_size n) (Err BadLength) (reply_of a)

abbrev pub told_in : Result Say Refusal → List ℕ → List ℕ
told_in a l = guard (nat_le message_size (length l)) l (message_after a l)
