-- What calls and requests leave of ports.
pub mod Hubs
pub mod Powers
