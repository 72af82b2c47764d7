-- The types of `model` and of `records`, and their cases, as definitions and laws name them.
-- Assumes nothing.
pub use Rattle.codes.specs.declared.requests.RequestCode.TheVariants.{RJackInfo, RPcmInfo, RChmapInfo}
pub use Rattle.records.specs.declared.info.JackInfo.{JackInfo}
pub use Rattle.records.specs.declared.info.PcmInfo.{PcmInfo}
pub use Rattle.records.specs.declared.info.ChannelMap.{ChannelMap}
pub use Rattle.model.specs.declared.device.Counts.{Counts}
pub use Rattle.model.specs.declared.device.Held.{Held}
pub use Rattle.model.specs.declared.device.Device.{Device}
