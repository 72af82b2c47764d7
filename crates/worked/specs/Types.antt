-- The types of the driver and of the device, and their cases, as definitions and laws name them. Where two bear one name, the other stands beside its use.
-- Assumes nothing.
pub use Rattle.tables.specs.Tables.{Verdict}
pub use Rattle.codes.specs.declared.answers.Refusal.{Refusal}
pub use Rattle.turns.specs.declared.ring.Slot.{Slot}
pub use Rattle.turns.specs.declared.ring.Track.{Track}
pub use Rattle.turns.specs.declared.ring.Ring.{Ring}
pub use Rattle.turns.specs.Types.{sent_period}
pub use Rattle.turns.specs.Types.{Heard, freed_slot}
pub use Rattle.turns.specs.declared.ring.Said.TheVariants.{Going, Done, Ended}
pub use Rattle.turns.specs.Types.{Reading, completion}
pub use Rattle.turns.specs.declared.rules.Choice.{Choice}
pub use Rattle.turns.specs.declared.rules.Choice.TheVariants.{Submit, Finish}
pub use Rattle.sound_core.specs.declared.state.Params.{Params}
pub use Rattle.sound_core.specs.declared.state.Kind.{Kind}
pub use Rattle.sound_core.specs.declared.state.Kind.TheVariants.{Prepare, Release, Start, Stop}
pub use Rattle.sound_core.specs.declared.state.Call.{Call}
pub use Rattle.sound_core.specs.declared.state.Call.TheVariants.{SetParams, Command, Remap, Streams, Supported, Xfer, Capture}
pub use Rattle.sound_core.specs.declared.state.Stage.{Stage}
pub use Rattle.sound_core.specs.declared.state.Stage.TheVariants.{Idle, JacksAsked, StreamsAsked, MapsAsked, Sent}
pub use Rattle.sound_core.specs.declared.state.Core.{Core}
pub use Rattle.sound_core.specs.declared.plan.Request.{Request}
pub use Rattle.sound_core.specs.declared.plan.Look.{Look}
pub use Rattle.sound_core.specs.declared.plan.Effect.{Effect}
pub use Rattle.sound_core.specs.declared.plan.Effect.TheVariants.{Nothing, FillJacks, FillStreams, FillMaps}
pub use Rattle.sound_core.specs.declared.plan.Plan.{Plan}
pub use Rattle.sound_core.specs.declared.reply.Reply.{Reply}
pub use Rattle.exchange.specs.declared.state.Sound.{Sound}
pub use Rattle.exchange.specs.declared.calls.StreamList.{StreamList}
pub use Rattle.exchange.specs.declared.calls.Step.{Step}
pub use Rattle.exchange.specs.declared.xfer.XferReply.TheVariants.{Says}
pub use Rattle.exchange.specs.declared.xfer.XferStep.{XferStep}
pub use Rattle.model.specs.declared.device.Held.{Held}
pub use Rattle.model.specs.declared.device.Device.{Device}
