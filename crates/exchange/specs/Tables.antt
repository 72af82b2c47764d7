-- The tables of a state: what a call looks up in them, and the one effect that a plan has on them, on the parameters or on the lifecycles.
-- Assumes nothing.
use Rattle.std.specs.Prelude.{ℕ, Bool, List, [], get_or, slice_index, slice_index_or, slice_set}
use Rattle.codes.specs.Says.{pick}
use Rattle.layout.specs.Layout.{size}
use Rattle.records.specs.Records.{jack_info, pcm_info, channel_map, jack_info_of, pcm_info_of}
use Rattle.tables.specs.Tables.{jacks_place, pcms_place, maps_place, copied_in}
use Rattle.sound_core.specs.declared.plan.Value.TheVariants as value
use Rattle.sound_core.specs.declared.plan.Look.TheVariants as look
use Rattle.exchange.specs.State.{jacks_of, pcms_of, with_core}
use Rattle.exchange.specs.Types.{JackInfo, PcmInfo, Field, Rates, Formats, Channels, Features, Call, SetParams, Command, Remap, Streams, Supported, Xfer, Capture, Stage, Idle, JacksAsked, StreamsAsked, MapsAsked, Sent, Core, Value, Look, Effect, Nothing, FillJacks, FillStreams, FillMaps, Store, Move, Sound}

-- ---- what a call looks up in a table: a jack's features, the field of a stream's record that is asked for, or where a stream is in its lifecycle, for a capture with its direction

abbrev pub field_of : Field → PcmInfo → Value
field_of Rates p = value.Number p.rates
field_of Formats p = value.Number p.formats
field_of Channels p = value.Range p.min p.max
field_of Features p = value.Number p.features

-- in the decoded form: "Every query must equal the decoded form for every table and id."
abbrev pub look_by : List JackInfo → List PcmInfo → List ℕ → Call → Look
look_by jacks pcms lives (SetParams stream to) = look.Life (slice_index lives stream)
look_by jacks pcms lives (Command kind stream) = look.Life (slice_index lives stream)
look_by jacks pcms lives (Remap jack association sequence) = look.Jack (get_or jacks jack (jack_info_of [])).features
look_by jacks pcms lives (Streams direction) = look.Nothing
look_by jacks pcms lives (Supported field stream) = look.Stream (field_of field (slice_index_or pcms stream (pcm_info_of [])))
look_by jacks pcms lives (Xfer stream) = look.Life (slice_index lives stream)
look_by jacks pcms lives (Capture stream) = look.Directed (slice_index lives stream) (get_or pcms stream (pcm_info_of [])).direction

abbrev pub look_of : Sound → Call → Look
look_of s call = look_by (jacks_of s) (pcms_of s) s.lives call

-- the look of the call that waits
abbrev pub pending_by : List JackInfo → List PcmInfo → List ℕ → Stage → Look
pending_by jacks pcms lives Idle = look.Nothing
pending_by jacks pcms lives (JacksAsked call) = look.Nothing
pending_by jacks pcms lives (StreamsAsked call) = look.Nothing
pending_by jacks pcms lives (MapsAsked call) = look_by jacks pcms lives call
pending_by jacks pcms lives (Sent call) = look.Nothing

abbrev pub pending_look : Stage → Sound → Look
pending_look stage s = pending_by (jacks_of s) (pcms_of s) s.lives stage

-- ---- an ok command is its stream's state, under the guard; without it "all reads as before"
abbrev pub moved : Bool → List ℕ → ℕ → ℕ → List ℕ
moved guard lives stream life = pick guard (slice_set lives stream life) lives

-- ---- THE EFFECT on the state, with the page at hand: one table's records are copied from it, one stream's parameters are stored, or a stream is moved by its
-- ok command, which setting parameters is too. What it does to the decoded tables: Decoded.antt

abbrev pub sound_after : Effect → Core → Sound → List ℕ → Sound
sound_after Nothing c s page = with_core c s
sound_after (FillJacks n) c s page = record { core = c; tables = copied_in jacks_place (size jack_info) n page s.tables; params = s.params; lives = s.lives; pending = s.pending }
sound_after (FillStreams n) c s page = record { core = c; tables = copied_in pcms_place (size pcm_info) n page s.tables; params = s.params; lives = s.lives; pending = s.pending }
sound_after (FillMaps n) c s page = record { core = c; tables = copied_in maps_place (size channel_map) n page s.tables; params = s.params; lives = s.lives; pending = s.pending }
sound_after (Store stream to) c s page = record { core = c; tables = s.tables; params = slice_set s.params stream to; lives = moved c.guard s.lives stream 0; pending = s.pending }
sound_after (Move stream life) c s page = record { core = c; tables = s.tables; params = s.params; lives = moved c.guard s.lives stream life; pending = s.pending }
