-- The consistency test of a state, on its core: what calls leave never fails it. docs/STATE.md says it in words.
-- Assumes nothing.
use Rattle.std.specs.Prelude.{ℕ, ◌%◌, Bool, true, false, not, ◌&&◌, ◌||◌, ◌==◌, nat_le, nat_lt}
use Rattle.codes.specs.Says.{pick, guard}
use Rattle.sound_core.specs.Types.{Counts, Params, Call, SetParams, Command, Remap, Streams, Supported, Xfer, Capture, Stage, Idle, JacksAsked, StreamsAsked, MapsAsked, Sent, Core}

-- "period 0, period above buffer, or buffer not a multiple of period gives 1"
abbrev pub period_ok : ℕ → ℕ → Bool
period_ok buffer period = pick (period == 0) false (nat_le period buffer && buffer % period == 0)

-- "Format numbers run 0 to 24, rate numbers 0 to 13"
abbrev pub numbers_ok : Params → Bool
numbers_ok p = nat_le p.format 24 && nat_le p.rate 13

-- a call that may wait for set-up: its numbers are in range
abbrev pub call_ok : Call → Bool
call_ok (SetParams stream to) = numbers_ok to
call_ok (Command kind stream) = true
call_ok (Remap jack association sequence) = true
call_ok (Streams direction) = true
call_ok (Supported field stream) = true
call_ok (Xfer stream) = true
call_ok (Capture stream) = true

-- a test that is made under the guard alone: "Guard off, all reads as before"
abbrev pub held_to : Bool → Bool → Bool
held_to guard test = pick guard test true

-- "stream direction not 1 gives 1": a capture's stream is an input; of a playback that is not asked
abbrev pub faced : {A : Type 0} → Bool → ℕ → A → A → A
faced true direction refused rest = guard (direction == 1) refused rest
faced false direction refused rest = rest

-- a call whose own request is out: set parameters that pass every test, a command (under the guard to a stream that there is), or a remap
abbrev pub sent_ok : Bool → Call → ℕ → Bool
sent_ok guard (SetParams stream to) streams = numbers_ok to && (period_ok to.buffer to.period && nat_lt stream streams)
sent_ok guard (Command kind stream) streams = held_to guard (nat_lt stream streams)
sent_ok guard (Remap jack association sequence) streams = true
sent_ok guard (Streams direction) streams = false
sent_ok guard (Supported field stream) streams = false
sent_ok guard (Xfer stream) streams = false
sent_ok guard (Capture stream) streams = false

abbrev pub stage_ok : Bool → Stage → ℕ → Bool
stage_ok guard Idle streams = true
stage_ok guard (JacksAsked call) streams = call_ok call
stage_ok guard (StreamsAsked call) streams = call_ok call
stage_ok guard (MapsAsked call) streams = call_ok call
stage_ok guard (Sent call) streams = sent_ok guard call streams

-- how many of the three queries are behind
abbrev pub queries_answered : Stage → Bool → ℕ
queries_answered Idle ready = pick ready 3 0
queries_answered (JacksAsked call) ready = 0
queries_answered (StreamsAsked call) ready = 1
queries_answered (MapsAsked call) ready = 2
queries_answered (Sent call) ready = 3

-- as many as configured, where a page holds that many; jacks and maps may be empty instead
abbrev pub exactly : ℕ → ℕ → ℕ → Bool
exactly read configured most = read == configured && nat_le read most

abbrev pub none_or_all : ℕ → ℕ → ℕ → Bool
none_or_all read configured most = read == 0 || exactly read configured most

-- the tables whose query is behind hold what is configured, the others nothing
abbrev pub tables_ok : Counts → Counts → ℕ → Bool
tables_ok read counts n =
    pick (nat_le 1 n) (none_or_all read.jacks counts.jacks 170) (read.jacks == 0)
    && (pick (nat_le 2 n) (exactly read.streams counts.streams 127) (read.streams == 0)
    && pick (nat_le 3 n) (none_or_all read.maps counts.maps 170) (read.maps == 0))

abbrev pub both_or_neither : Bool → Bool → Bool
both_or_neither a b = pick a b (not b)

-- THE TEST that every call and feed makes
unfoldable pub consistent_of : Core → Bool
consistent_of c =
    let n = queries_answered c.stage c.ready in
    both_or_neither c.ready (n == 3) && (tables_ok c.read c.counts n && stage_ok c.guard c.stage c.read.streams)

-- THE TEST that the start of a transfer makes besides, of its own stream alone: parameters that are set pass the period rule, and their numbers are in range
abbrev pub params_ok : Params → Bool
params_ok p = p.known == 0 || (numbers_ok p && period_ok p.buffer p.period)

unfoldable pub stream_ok : Core → Params → ℕ → Bool
stream_ok c p stream = not (c.ready && nat_lt stream c.counts.streams) || params_ok p
