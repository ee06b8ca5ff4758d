pub mod entries
pub mod levels
pub mod listings
pub mod transfers
pub mod Interface
pub mod TransferLeaves
