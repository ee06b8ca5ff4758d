-- What transfers leave.
pub mod DevicesKept
pub mod FreeRequests
pub mod HubPolls
pub mod InterfaceSets
pub mod PathTransfers
pub mod PlainRequests
pub mod Restarts
