pub mod Found
pub mod Places
pub mod Kept
pub mod Membership
pub mod Told
pub mod Parts
pub mod Right
pub mod Judging
