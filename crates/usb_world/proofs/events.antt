-- What events leave.
pub mod PlugEvents
pub mod PluggedDevices
