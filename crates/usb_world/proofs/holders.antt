-- Who holds an address.
pub mod Devices
pub mod HolderPorts
pub mod OneDevice
pub mod OneHolder
pub mod OneHolderAttempts
