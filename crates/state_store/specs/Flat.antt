-- The stage of a core as fixed fields: what an enum is in a byte store.
-- Assumes nothing.
use Rattle.std.specs.Prelude.{ℕ, Bool, not, ◌&&◌, List, [], ◌∷◌, ◌==◌}
use Rattle.codes.specs.Says.{pick}
use Rattle.state_store.specs.Types.{Params, Kind, Prepare, Release, Start, Stop, Field, Rates, Formats, Channels, Features, Call, SetParams, Command, Remap, Streams, Supported, Xfer, Capture, Stage, Idle, JacksAsked, StreamsAsked, MapsAsked, Sent, Flat}

-- ready 1, stage 1, call 1, part 1, id 4, first 4, second 4, third 4, known 1, channels 1, format 1, rate 1
abbrev pub flat_row : List ℕ
flat_row = 1 ∷ 1 ∷ 1 ∷ 1 ∷ 4 ∷ 4 ∷ 4 ∷ 4 ∷ 1 ∷ 1 ∷ 1 ∷ 1 ∷ []

abbrev pub flat_values : Flat → List ℕ
flat_values f = f.ready ∷ f.stage ∷ f.call ∷ f.part ∷ f.id ∷ f.first ∷ f.second ∷ f.third ∷ f.known ∷ f.channels ∷ f.format ∷ f.rate ∷ []

-- ---- from a call: its number, then its values; what it has no use for is 0

abbrev pub kind_number : Kind → ℕ
kind_number Prepare = 0
kind_number Release = 1
kind_number Start = 2
kind_number Stop = 3

abbrev pub field_number : Field → ℕ
field_number Rates = 0
field_number Formats = 1
field_number Channels = 2
field_number Features = 3

abbrev pub numbered : ℕ → ℕ → ℕ → ℕ → ℕ → Flat
numbered call part id first second =
    record { ready = 0; stage = 0; call = call; part = part; id = id; first = first; second = second; third = 0; known = 0; channels = 0; format = 0; rate = 0 }

abbrev pub set_flat : ℕ → Params → Flat
set_flat stream p =
    record {
      ready = 0;
      stage = 0;
      call = 1;
      part = 0;
      id = stream;
      first = p.buffer;
      second = p.period;
      third = p.features;
      known = p.known;
      channels = p.channels;
      format = p.format;
      rate = p.rate;
    }

abbrev pub call_flat : Call → Flat
call_flat (SetParams stream p) = set_flat stream p
call_flat (Command kind stream) = numbered 2 (kind_number kind) stream 0 0
call_flat (Remap jack association sequence) = numbered 3 0 jack association sequence
call_flat (Streams direction) = numbered 4 direction 0 0 0
call_flat (Supported field stream) = numbered 5 (field_number field) stream 0 0
call_flat (Xfer stream) = numbered 6 0 stream 0 0
call_flat (Capture stream) = numbered 7 0 stream 0 0

abbrev pub staged : Bool → ℕ → Flat → Flat
staged ready stage f =
    record {
      ready = pick ready 1 0;
      stage = stage;
      call = f.call;
      part = f.part;
      id = f.id;
      first = f.first;
      second = f.second;
      third = f.third;
      known = f.known;
      channels = f.channels;
      format = f.format;
      rate = f.rate;
    }

abbrev pub flat_of : Bool → Stage → Flat
flat_of ready Idle = staged ready 0 (numbered 0 0 0 0 0)
flat_of ready (JacksAsked call) = staged ready 1 (call_flat call)
flat_of ready (StreamsAsked call) = staged ready 2 (call_flat call)
flat_of ready (MapsAsked call) = staged ready 3 (call_flat call)
flat_of ready (Sent call) = staged ready 4 (call_flat call)

-- ---- and back: every number stands for something

abbrev pub kind_of : ℕ → Kind
kind_of n = pick (n == 0) Prepare (pick (n == 1) Release (pick (n == 2) Start Stop))

abbrev pub flat_field : ℕ → Field
flat_field n = pick (n == 0) Rates (pick (n == 1) Formats (pick (n == 2) Channels Features))

abbrev pub flat_params : Flat → Params
flat_params f =
    record {
      known = f.known;
      buffer = f.first;
      period = f.second;
      features = f.third;
      channels = f.channels;
      format = f.format;
      rate = f.rate;
    }

abbrev pub flat_call : Flat → Call
flat_call f =
    pick (f.call == 1) (SetParams f.id (flat_params f))
    (pick (f.call == 2) (Command (kind_of f.part) f.id)
    (pick (f.call == 3) (Remap f.id f.first f.second)
    (pick (f.call == 4) (Streams f.part)
    (pick (f.call == 5) (Supported (flat_field f.part) f.id)
    (pick (f.call == 6) (Xfer f.id) (Capture f.id))))))

abbrev pub flat_stage : Flat → Stage
flat_stage f =
    pick (f.stage == 0) Idle
    (pick (f.stage == 1) (JacksAsked (flat_call f))
    (pick (f.stage == 2) (StreamsAsked (flat_call f))
    (pick (f.stage == 3) (MapsAsked (flat_call f)) (Sent (flat_call f)))))

abbrev pub flat_ready : Flat → Bool
flat_ready f = not (f.ready == 0)

-- ---- fields that are what their stage is written as: an unknown number, a flag of 2 and an unused field that is not 0 are all found by this one test

unfoldable pub same_flat : Flat → Flat → Bool
same_flat f g =
    (f.ready == g.ready)
    && (f.stage == g.stage
    && (f.call == g.call
    && (f.part == g.part
    && (f.id == g.id
    && (f.first == g.first
    && (f.second == g.second
    && (f.third == g.third
    && (f.known == g.known
    && (f.channels == g.channels
    && (f.format == g.format && f.rate == g.rate))))))))))

unfoldable pub whole_flat : Flat → Bool
whole_flat f = same_flat f (flat_of (flat_ready f) (flat_stage f))
