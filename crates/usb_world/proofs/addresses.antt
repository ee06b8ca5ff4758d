-- Which addresses devices hold, take and lose.
pub mod AddressLosses
pub mod AddressesKept
pub mod GivenAddresses
