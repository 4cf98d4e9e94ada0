pub mod Parts
pub mod Settings
pub mod PartLaws
pub mod SettingLaws
