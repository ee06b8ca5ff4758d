pub mod Cuts
pub mod Ways
pub mod Places
pub mod Found
pub mod Once
pub mod Amends
pub mod Digits
