pub mod Interface
pub mod Hubs
pub mod Names
