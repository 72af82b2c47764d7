-- definitions
pub mod Types
pub mod Device
pub mod Control
pub mod Transfer
-- laws
pub mod DeviceLaws
pub mod PageLaws
pub mod ControlLaws
pub mod TransferLaws
pub mod ModelLaws
pub mod KeepLaws
