pub mod Interface
pub mod Setups
pub mod Addresses
