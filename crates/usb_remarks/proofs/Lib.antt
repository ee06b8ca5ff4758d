pub mod Values
pub mod Items
pub mod Endpoints
pub mod Configs
pub mod Readers
pub mod Refused
pub mod Unblamed
