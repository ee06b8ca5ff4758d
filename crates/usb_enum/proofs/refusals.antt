-- Why a device is refused.
pub mod Refusals
pub mod Warrants
