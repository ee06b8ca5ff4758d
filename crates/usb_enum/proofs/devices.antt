-- The device at a port.
pub mod Enumerations
pub mod Frames
pub mod Presence
pub mod ReachedDevices
pub mod SaidBytes
