-- Decide, then do: what a call or an answer leads to is decided on the core and on what one look into a table found, and has one effect on the tables or the parameters.
-- Assumes nothing.
use Rattle.std.specs.Prelude.{ℕ, Bool, true, false, not, ◌&&◌, List, ◌==◌, nat_lt, Err, Ok, Result}
use Rattle.records.specs.Records.{jack_info, pcm_info, channel_map}
use Rattle.layout.specs.Layout.{size}
use Rattle.codes.specs.Says.{pick, guard}
use Rattle.codes.specs.Flags.{has_bit, remap_feature}
use Rattle.codes.specs.Life.{permits_of, takes_of}
use Rattle.tables.specs.Tables.{judged, is_good, refused_by}
use Rattle.tables.specs.declared.verdict.Fault.TheVariants as fault
use Rattle.turns.specs.Calls.{idle_of}
use Rattle.turns.specs.Consistent as ring
use Rattle.sound_core.specs.State.{none, with_stage}
use Rattle.sound_core.specs.Consistent.{period_ok, call_ok, held_to, faced, consistent_of}
use Rattle.sound_core.specs.declared.plan.Request.TheVariants as request
use Rattle.sound_core.specs.declared.plan.Value.TheVariants as value
use Rattle.sound_core.specs.declared.plan.Look.TheVariants as look
use Rattle.sound_core.specs.Types.{Written, Cause, NoStatus, Status, Refusal, InvalidParam, IoError, Unsupported, NoInfo, TooMany, Busy, BadLength, BadState, SetParameters, Verdict, Track, Counts, Params, Kind, Prepare, Release, Start, Stop, Call, SetParams, Command, Remap, Streams, Supported, Xfer, Capture, Stage, Idle, JacksAsked, StreamsAsked, MapsAsked, Sent, Core, Request, Value, Look, Say, Send, Done, Effect, Nothing, FillJacks, FillStreams, FillMaps, Store, Move, Plan}

-- ---- four ways to go on

-- the request goes out, and the core waits for its answer
abbrev pub send_of : Core → Stage → Request → Effect → Plan
send_of c g q e = record { core = with_stage c g; say = Ok (Send q); effect = e }

-- the call has its result
abbrev pub end_of : Core → Result Say Refusal → Effect → Plan
end_of c a e = record { core = with_stage c Idle; say = a; effect = e }

-- refused with nothing changed
abbrev pub refuse_of : Core → Refusal → Plan
refuse_of c r = record { core = c; say = Err r; effect = Nothing }

-- "A set-up cut short leaves all three tables empty, and the next call begins it again."
abbrev pub cut_short_of : Core → Refusal → Plan
cut_short_of c r = record { core = record { counts = c.counts; guard = c.guard; read = none; ready = false; stage = Idle }; say = Err r; effect = Nothing }

-- ---- requests

-- "query jacks, streams, channel maps, each from 0 with the configured count"
abbrev pub query_of : ℕ → ℕ → ℕ → Request
query_of code n size = request.Query (record { code = code; start = 0; count = n; size = size })

abbrev pub kind_code : Kind → ℕ
kind_code Prepare = 0x0102
kind_code Release = 0x0103
kind_code Start = 0x0104
kind_code Stop = 0x0105

-- the state that an ok command leads to: its code less 0x0101
abbrev pub kind_life : Kind → ℕ
kind_life Prepare = 1
kind_life Release = 2
kind_life Start = 3
kind_life Stop = 4

abbrev pub set_of : ℕ → Params → SetParameters
set_of stream p =
    record {
      code = 0x0101;
      stream = stream;
      buffer = p.buffer;
      period = p.period;
      features = p.features;
      channels = p.channels;
      format = p.format;
      rate = p.rate;
      zero = 0;
    }

-- ---- WHAT ONE LOOK FOUND: a jack's features, the field of a stream's record that is asked for, or where a stream is in its lifecycle, for a capture with its direction

abbrev pub can_remap : Look → Bool
can_remap look.Nothing = false
can_remap (look.Jack features) = has_bit remap_feature features
can_remap (look.Stream v) = false
can_remap (look.Life l) = false
can_remap (look.Directed l direction) = false

abbrev pub found_of : Look → Value
found_of look.Nothing = value.Nothing
found_of (look.Jack features) = value.Nothing
found_of (look.Stream v) = v
found_of (look.Life l) = value.Nothing
found_of (look.Directed l direction) = value.Nothing

-- any other look is no state, which permits nothing
abbrev pub life_in : Look → ℕ
life_in look.Nothing = 5
life_in (look.Jack features) = 5
life_in (look.Stream v) = 5
life_in (look.Life l) = l
life_in (look.Directed l direction) = l

-- any other look is no direction
abbrev pub direction_in : Look → ℕ
direction_in look.Nothing = 2
direction_in (look.Jack features) = 2
direction_in (look.Stream v) = 2
direction_in (look.Life l) = 2
direction_in (look.Directed l direction) = direction

-- ---- THE CALL'S OWN PART, once set-up is done: "the call's own checks in the order written here"

abbrev pub refusing : Core → Refusal → Plan
refusing c r = end_of c (Err r) Nothing

-- "12 BadState, right after the stream range check": what the lifecycle's table does not permit is not sent, under the guard
unfoldable pub own_set : Core → ℕ → Params → Look → Plan
own_set c stream to look =
    guard (period_ok to.buffer to.period) (refusing c InvalidParam)
    (guard (nat_lt stream c.counts.streams) (refusing c InvalidParam)
    (guard (held_to c.guard (permits_of (life_in look) 0)) (refusing c BadState)
    (send_of c (Sent (SetParams stream to)) (request.Set (set_of stream to)) Nothing)))

-- ".. which the four commands gain under the guard"; with it off "sent with any stream id"
unfoldable pub own_command : Core → Kind → ℕ → Look → Plan
own_command c kind stream look =
    guard (held_to c.guard (nat_lt stream c.counts.streams)) (refusing c InvalidParam)
    (guard (held_to c.guard (permits_of (life_in look) (kind_life kind))) (refusing c BadState)
    (send_of c (Sent (Command kind stream)) (request.Command (record { code = kind_code kind; stream = stream })) Nothing))

-- "Remap: no jacks or id too high 1; table empty 4; no REMAP bit 3; then sent."
unfoldable pub own_remap : Core → ℕ → ℕ → ℕ → Look → Plan
own_remap c jack association sequence look =
    guard (nat_lt jack c.counts.jacks) (refusing c InvalidParam)
    (guard (not (c.read.jacks == 0)) (refusing c NoInfo)
    (guard (can_remap look) (refusing c (Unsupported NoStatus))
    (send_of c (Sent (Remap jack association sequence)) (request.Remap (record { code = 0x0002; jack = jack; association = association; sequence = sequence })) Nothing)))

-- "stream too high 1, else the stored bits"
unfoldable pub own_supported : Core → ℕ → Look → Plan
own_supported c stream look = guard (nat_lt stream c.counts.streams) (refusing c InvalidParam) (end_of c (Ok (Done (found_of look))) Nothing)

-- a transfer that had to begin set-up, a capture or a playback: in a state that calls left no stream has parameters yet (`Kept`), so it never runs
unfoldable pub own_xfer : Bool → Core → ℕ → Look → Plan
own_xfer capture c stream look =
    guard (nat_lt stream c.counts.streams) (refusing c InvalidParam)
    (guard (held_to c.guard (takes_of (life_in look))) (refusing c BadState)
    (faced capture (direction_in look) (refusing c InvalidParam)
    (refusing c (IoError NoStatus))))

abbrev pub own_of : Core → Call → Look → Plan
own_of c (SetParams stream to) look = own_set c stream to look
own_of c (Command kind stream) look = own_command c kind stream look
own_of c (Remap jack association sequence) look = own_remap c jack association sequence look
own_of c (Streams direction) look = end_of c (Ok (Done (value.Streams direction))) Nothing
own_of c (Supported field stream) look = own_supported c stream look
own_of c (Xfer stream) look = own_xfer false c stream look
own_of c (Capture stream) look = own_xfer true c stream look

-- ---- A NEW CALL. "Order: BadLength, 1 for a state or ring that fails the consistency test, Busy, format or rate number out of range, set-up,
-- then the call's own checks."

abbrev pub is_idle : Stage → Bool
is_idle Idle = true
is_idle (JacksAsked call) = false
is_idle (StreamsAsked call) = false
is_idle (MapsAsked call) = false
is_idle (Sent call) = false

-- set-up first, where it is not done
abbrev pub set_up_of : Core → Call → Look → Plan
set_up_of c call look = pick c.ready (own_of c call look) (send_of c (JacksAsked call) (query_of 0x0001 c.counts.jacks (size jack_info)) Nothing)

unfoldable pub begin_of : Core → Track → Call → Look → Plan
begin_of c t call look =
    guard (consistent_of c && ring.consistent_of t) (refuse_of c InvalidParam)
    (guard (is_idle c.stage && idle_of t) (refuse_of c Busy)
    (guard (call_ok call) (refuse_of c InvalidParam)
    (set_up_of c call look)))

-- ---- AN ANSWER, by what was asked. A page and a failure of the queue both come as a verdict

-- "2 and 3 .. carry the status that caused them, or none": the header's word, where that is not ok
abbrev pub cause_of : Verdict → Cause
cause_of (Ok _) = NoStatus
cause_of (Err (fault.Status word)) = Status word
cause_of (Err (fault.Refused r)) = NoStatus

-- `status` is what a status that is not ok says to the call
abbrev pub refusal_of : Refusal → Verdict → Refusal
refusal_of status (Ok _) = status
refusal_of status (Err (fault.Status word)) = status
refusal_of status (Err (fault.Refused r)) = r

-- the core once the jacks, the streams, the maps are read
abbrev pub read_to : Core → ℕ → ℕ → ℕ → Bool → Core
read_to c jacks streams maps ready = record { counts = c.counts; guard = c.guard; read = record { jacks = jacks; streams = streams; maps = maps }; ready = ready; stage = c.stage }

-- "A status not ok or queue failure on jacks or channel maps gives an empty table and set-up goes on." An ok header with too many records ends it with 5
unfoldable pub after_jacks : Core → Call → Verdict → Plan
after_jacks c call v =
    let n = pick (is_good v) c.counts.jacks 0 in
    guard (not (refused_by 5 v)) (cut_short_of c TooMany)
    (send_of (read_to c n 0 0 false) (StreamsAsked call) (query_of 0x0100 c.counts.streams (size pcm_info)) (pick (is_good v) (FillJacks c.counts.jacks) Nothing))

-- "On streams it ends the call with 2 or 7."
unfoldable pub after_streams : Core → Call → Verdict → Plan
after_streams c call v =
    guard (is_good v) (cut_short_of c (refusal_of (IoError (cause_of v)) v))
    (send_of (read_to c c.read.jacks c.counts.streams 0 false) (MapsAsked call) (query_of 0x0200 c.counts.maps (size channel_map)) (FillStreams c.counts.streams))

-- "A set-up finished in a call stays done however that call ends."
unfoldable pub after_maps : Core → Call → Verdict → Look → Plan
after_maps c call v look =
    let n = pick (is_good v) c.counts.maps 0 in
    let own = own_of (read_to c c.read.jacks c.read.streams n true) call look in
    guard (not (refused_by 5 v)) (cut_short_of c TooMany)
    (record { core = own.core; say = own.say; effect = pick (is_good v) (FillMaps c.counts.maps) Nothing })

abbrev pub stored_of : Params → Params
stored_of p =
    record {
      known = 1;
      buffer = p.buffer;
      period = p.period;
      features = p.features;
      channels = p.channels;
      format = p.format;
      rate = p.rate;
    }

-- "Status ok stores all seven values; else 2." An ok command moves its stream
abbrev pub effect_of : Call → Effect
effect_of (SetParams stream to) = Store stream (stored_of to)
effect_of (Command kind stream) = Move stream (kind_life kind)
effect_of (Remap jack association sequence) = Nothing
effect_of (Streams direction) = Nothing
effect_of (Supported field stream) = Nothing
effect_of (Xfer stream) = Nothing
effect_of (Capture stream) = Nothing

-- what a status that is not ok says: 3 "remap status not ok", else 2
abbrev pub status_refusal : Call → Cause → Refusal
status_refusal (SetParams stream to) cause = IoError cause
status_refusal (Command kind stream) cause = IoError cause
status_refusal (Remap jack association sequence) cause = Unsupported cause
status_refusal (Streams direction) cause = IoError cause
status_refusal (Supported field stream) cause = IoError cause
status_refusal (Xfer stream) cause = IoError cause
status_refusal (Capture stream) cause = IoError cause

unfoldable pub after_sent : Core → Call → Verdict → Plan
after_sent c call v = guard (is_good v) (refusing c (refusal_of (status_refusal call (cause_of v)) v)) (end_of c (Ok (Done value.Nothing)) (effect_of call))

abbrev pub answer_by : Stage → Core → Verdict → Look → Plan
answer_by Idle c v look = refuse_of c InvalidParam
answer_by (JacksAsked call) c v look = after_jacks c call v
answer_by (StreamsAsked call) c v look = after_streams c call v
answer_by (MapsAsked call) c v look = after_maps c call v look
answer_by (Sent call) c v look = after_sent c call v

-- 10 "unchanged; an open exchange stays open", then the consistency test, then by what was asked
unfoldable pub answer_of : Core → Verdict → Look → Plan
answer_of c v look =
    guard (not (refused_by 10 v)) (refuse_of c BadLength)
    (guard (consistent_of c) (refuse_of c InvalidParam)
    (answer_by c.stage c v look))

-- what a page, of which so much was written, says to what was asked
abbrev pub verdict_by : Written → Stage → Counts → List ℕ → Verdict
verdict_by w Idle n page = judged w page 0 0
verdict_by w (JacksAsked call) n page = judged w page n.jacks (size jack_info)
verdict_by w (StreamsAsked call) n page = judged w page n.streams (size pcm_info)
verdict_by w (MapsAsked call) n page = judged w page n.maps (size channel_map)
verdict_by w (Sent call) n page = judged w page 0 0
