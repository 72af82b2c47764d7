-- The types of the code, and their cases, as definitions and laws name them. Where two bear one name, the other stands beside its use.
-- Assumes nothing.
pub use Rattle.codes.specs.declared.answers.Refusal.{Refusal}
pub use Rattle.codes.specs.declared.answers.Refusal.TheVariants.{BadLength, QueueFailed, InvalidParam}
pub use Rattle.tables.specs.Tables.{Verdict, Written}
pub use Rattle.turns.specs.declared.ring.Track.{Track}
pub use Rattle.turns.specs.declared.ring.Ring.{Ring}
pub use Rattle.sound_core.specs.declared.reply.Reply.{Reply}
pub use Rattle.sound_core.specs.declared.plan.Plan.{Plan}
pub use Rattle.sound_core.specs.declared.state.Core.{Core}
pub use Rattle.sound_core.specs.declared.state.Call.{Call}
pub use Rattle.sound_core.specs.declared.state.Call.TheVariants.{Streams, SetParams, Command, Remap, Supported, Xfer, Capture}
pub use Rattle.sound_core.specs.declared.state.Counts.{Counts}
pub use Rattle.sound_core.specs.declared.plan.Value.{Value}
pub use Rattle.sound_core.specs.declared.plan.Effect.{Effect}
pub use Rattle.sound_core.specs.declared.plan.Effect.TheVariants.{Nothing, FillJacks, FillStreams, FillMaps, Store, Move}
pub use Rattle.sound_core.specs.declared.state.Params.{Params}
pub use Rattle.sound_core.specs.declared.plan.Request.{Request}
pub use Rattle.sound_core.specs.declared.plan.Say.{Say}
pub use Rattle.sound_core.specs.declared.plan.Say.TheVariants.{Send, Done}
pub use Rattle.sound_core.specs.declared.plan.Look.{Look}
pub use Rattle.sound_core.specs.declared.state.Kind.{Kind}
pub use Rattle.sound_core.specs.declared.state.Kind.TheVariants.{Prepare, Release, Start, Stop}
pub use Rattle.sound_core.specs.declared.state.Field.{Field}
pub use Rattle.sound_core.specs.declared.state.Field.TheVariants.{Rates, Formats, Channels, Features}
pub use Rattle.sound_core.specs.declared.state.Stage.{Stage}
pub use Rattle.sound_core.specs.declared.state.Stage.TheVariants.{Idle, JacksAsked, StreamsAsked, MapsAsked, Sent}
pub use Rattle.sound_core.specs.declared.gate.Gate.{Gate}
pub use Rattle.sound_core.specs.declared.gate.Gate.TheVariants.{Open, SetUp}
pub use Rattle.pending.specs.declared.table.Token.{Token}
pub use Rattle.pending.specs.declared.table.Pending.{Pending}
pub use Rattle.pending.specs.declared.table.Seen.{Seen}
pub use Rattle.pending.specs.declared.calls.Told.{Told as TokenTold}
pub use Rattle.turns.specs.Types.{Reading, completion}
pub use Rattle.exchange.specs.declared.nonblocking.NbReply.{NbReply}
pub use Rattle.exchange.specs.declared.nonblocking.NbStep.{NbStep}
pub use Rattle.exchange.specs.declared.nonblocking.NbEnd.{NbEnd}
pub use Rattle.exchange.specs.declared.calls.StreamList.{StreamList}
pub use Rattle.exchange.specs.declared.state.Sound.{Sound}
pub use Rattle.exchange.specs.declared.xfer.XferStep.{XferStep}
pub use Rattle.state_store.specs.declared.flat.Flat.{Flat}
pub use Rattle.state_store.specs.declared.flat.Head.{Head}
