-- What a host knows stays so.
pub mod ChangeWords
pub mod HandledPorts
pub mod Places
pub mod Servers
pub mod SettledListings
pub mod Soundness
pub mod TidiedPorts
pub mod ToldBits
