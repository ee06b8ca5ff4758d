mod Deeds
pub mod Lines
mod Sends
