pub mod Interface
pub mod Deliveries
pub mod MarkedAddresses
pub mod places
pub mod packets
