-- The types of the code, and their cases, as definitions and laws name them. Where two bear one name, the other stands beside its use.
-- Assumes nothing.
pub use Rattle.codes.specs.declared.answers.Cause.{Cause}
pub use Rattle.codes.specs.declared.answers.Cause.TheVariants.{NoStatus, Status}
pub use Rattle.codes.specs.declared.answers.Refusal.{Refusal}
pub use Rattle.codes.specs.declared.answers.Refusal.TheVariants.{InvalidParam, IoError, Busy, BadLength, Unsupported, NoInfo, TooMany, BadState}
pub use Rattle.records.specs.declared.control.SetParameters.{SetParameters}
pub use Rattle.tables.specs.Tables.{Verdict, Written}
pub use Rattle.turns.specs.declared.ring.Track.{Track}
pub use Rattle.sound_core.specs.declared.state.Counts.{Counts}
pub use Rattle.sound_core.specs.declared.state.Params.{Params}
pub use Rattle.sound_core.specs.declared.state.Call.{Call}
pub use Rattle.sound_core.specs.declared.state.Call.TheVariants.{SetParams, Command, Remap, Streams, Supported, Xfer, Capture}
pub use Rattle.sound_core.specs.declared.state.Stage.{Stage}
pub use Rattle.sound_core.specs.declared.state.Stage.TheVariants.{Idle, JacksAsked, StreamsAsked, MapsAsked, Sent}
pub use Rattle.sound_core.specs.declared.state.Core.{Core}
pub use Rattle.sound_core.specs.declared.gate.Gate.{Gate}
pub use Rattle.sound_core.specs.declared.gate.Gate.TheVariants.{SetUp, Open}
pub use Rattle.sound_core.specs.declared.state.Kind.{Kind}
pub use Rattle.sound_core.specs.declared.state.Kind.TheVariants.{Prepare, Release, Start, Stop}
pub use Rattle.sound_core.specs.declared.plan.Request.{Request}
pub use Rattle.sound_core.specs.declared.plan.Value.{Value}
pub use Rattle.sound_core.specs.declared.plan.Look.{Look}
pub use Rattle.sound_core.specs.declared.plan.Say.{Say}
pub use Rattle.sound_core.specs.declared.plan.Say.TheVariants.{Send, Done}
pub use Rattle.sound_core.specs.declared.plan.Effect.{Effect}
pub use Rattle.sound_core.specs.declared.plan.Effect.TheVariants.{Nothing, FillJacks, FillStreams, FillMaps, Store, Move}
pub use Rattle.sound_core.specs.declared.plan.Plan.{Plan}
pub use Rattle.sound_core.specs.declared.reply.Reply.{Reply}
