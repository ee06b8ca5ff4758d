-- What is learned of a device.
pub mod Heads
pub mod Readings
pub mod SettingValues
pub mod Settings
pub mod StringReadings
pub mod TextBytes
pub mod TextLengths
pub mod Truths
