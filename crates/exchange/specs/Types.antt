-- The types of the code, and their cases, as definitions and laws name them. Where two bear one name, the other stands beside its use.
-- Assumes nothing.
pub use Rattle.codes.specs.declared.answers.Refusal.{Refusal}
pub use Rattle.codes.specs.declared.answers.Cause.{Cause}
pub use Rattle.codes.specs.declared.answers.Cause.TheVariants.{NoStatus, Status}
pub use Rattle.codes.specs.declared.answers.Refusal.TheVariants.{QueueFailed, BadLength, Short, BadState, InvalidParam, IoError, Unsupported, NoInfo, TooMany, Busy}
pub use Rattle.records.specs.declared.info.PcmInfo.{PcmInfo}
pub use Rattle.records.specs.declared.info.JackInfo.{JackInfo}
pub use Rattle.records.specs.declared.info.ChannelMap.{ChannelMap}
pub use Rattle.tables.specs.Tables.{Verdict, Written}
pub use Rattle.turns.specs.declared.ring.Ring.{Ring}
pub use Rattle.turns.specs.Types.{Reading, completion}
pub use Rattle.turns.specs.declared.ring.Track.{Track}
pub use Rattle.turns.specs.declared.ring.Said.{Said}
pub use Rattle.turns.specs.declared.ring.Said.TheVariants.{Going, Ended}
pub use Rattle.turns.specs.declared.script.Transferred.{Transferred}
pub use Rattle.turns.specs.declared.ring.Turned.{Turned}
pub use Rattle.pending.specs.declared.table.Pending.{Pending}
pub use Rattle.pending.specs.declared.calls.Judged.{Judged}
pub use Rattle.sound_core.specs.declared.state.Params.{Params}
pub use Rattle.sound_core.specs.declared.state.Counts.{Counts}
pub use Rattle.sound_core.specs.declared.state.Call.{Call}
pub use Rattle.sound_core.specs.declared.state.Call.TheVariants.{SetParams, Command, Remap, Streams, Supported, Xfer, Capture}
pub use Rattle.sound_core.specs.declared.state.Stage.{Stage}
pub use Rattle.sound_core.specs.declared.state.Stage.TheVariants.{Idle, JacksAsked, StreamsAsked, MapsAsked, Sent}
pub use Rattle.sound_core.specs.declared.state.Core.{Core}
pub use Rattle.sound_core.specs.declared.plan.Look.{Look}
pub use Rattle.sound_core.specs.declared.plan.Plan.{Plan}
pub use Rattle.sound_core.specs.declared.reply.Reply.{Reply}
pub use Rattle.sound_core.specs.declared.plan.Value.{Value}
pub use Rattle.sound_core.specs.declared.plan.Say.{Say}
pub use Rattle.sound_core.specs.declared.plan.Say.TheVariants.{Done, Send}
pub use Rattle.sound_core.specs.declared.state.Field.{Field}
pub use Rattle.sound_core.specs.declared.state.Field.TheVariants.{Rates, Formats, Channels, Features}
pub use Rattle.sound_core.specs.declared.plan.Effect.{Effect}
pub use Rattle.sound_core.specs.declared.plan.Effect.TheVariants.{Nothing, FillJacks, FillStreams, FillMaps, Store, Move}
pub use Rattle.sound_core.specs.declared.state.Kind.{Kind}
pub use Rattle.sound_core.specs.declared.gate.Gate.{Gate}
pub use Rattle.sound_core.specs.declared.gate.Gate.TheVariants.{SetUp, Open}
pub use Rattle.exchange.specs.declared.state.Sound.{Sound}
pub use Rattle.exchange.specs.declared.xfer.XferStep.{XferStep}
pub use Rattle.exchange.specs.declared.calls.StreamList.{StreamList}
pub use Rattle.exchange.specs.declared.calls.Step.{Step}
pub use Rattle.exchange.specs.declared.xfer.XferReply.{XferReply}
pub use Rattle.exchange.specs.declared.xfer.XferReply.TheVariants.{Says}
pub use Rattle.exchange.specs.declared.nonblocking.NbReply.{NbReply}
pub use Rattle.exchange.specs.declared.nonblocking.NbStep.{NbStep}
pub use Rattle.exchange.specs.declared.nonblocking.NbEnd.{NbEnd}
