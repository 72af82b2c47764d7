-- The types of the code, and of `codes` and `records`, and their cases, as definitions and laws name them. Cases that bear one name in two types
-- (`Is`, `InvalidParam`) are not here.
-- Assumes nothing.
pub use Rattle.codes.specs.declared.requests.RequestCode.{RequestCode}
pub use Rattle.codes.specs.declared.requests.RequestCode.TheVariants.{RJackInfo, RJackRemap, RPcmInfo, RPcmSetParams, RPcmPrepare, RPcmRelease, RPcmStart, RPcmStop, RChmapInfo}
pub use Rattle.records.specs.declared.control.Query.{Query}
pub use Rattle.records.specs.declared.control.SetParameters.{SetParameters}
pub use Rattle.records.specs.declared.info.JackInfo.{JackInfo}
pub use Rattle.records.specs.declared.info.PcmInfo.{PcmInfo}
pub use Rattle.records.specs.declared.info.ChannelMap.{ChannelMap}
pub use Rattle.model.specs.declared.device.Counts.{Counts}
pub use Rattle.model.specs.declared.device.Held.{Held}
pub use Rattle.model.specs.declared.device.Device.{Device}
pub use Rattle.model.specs.declared.said.Answered.{Answered}
pub use Rattle.model.specs.declared.control.Range.{Range}
